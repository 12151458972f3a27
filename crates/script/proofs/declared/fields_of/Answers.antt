use Rattle.std.proofs.Common.{◌∙◌, ◌<◌, sym, arith}
use Rattle.std.proofs.lemmas.Bool.{eqb-true, eqb-false}
use Rattle.tables.specs.View.{mode_number}
use Rattle.relation.specs.Rows.{add_bit}
use Rattle.script.proofs.Declaring.{none-declared, declared-more, declared_same, small-held, whole}
use Rattle.script.proofs.declared.fields_of.Goals as goal
use Rattle.script.proofs.declared.fields_of.Goals.{then-is_of_mode, else-is_of_mode}

pub loop-field-init : goal.loop-field-init
loop-field-init c = c.new-rows.ensures ∙ none-declared (mode_number c.args.mode) c.fields-field-items.result.now

pub add-requires-clause-from_below : goal.add-requires-clause-from_below
add-requires-clause-from_below c =
    let e = c.fields-field-items.ensures.value in
    let s = small-held c.args.tables.now c.fields-field-items.ensures.good c.loop-field.field-index (rw (← e) c.loop-field-test.true) in
    rw (c.from.ensures, e) s.0

pub add-requires-clause-to_below : goal.add-requires-clause-to_below
add-requires-clause-to_below c =
    let e = c.fields-field-items.ensures.value in
    let s = small-held c.args.tables.now c.fields-field-items.ensures.good c.loop-field.field-index (rw (← e) c.loop-field-test.true) in
    let t : c.from-then-is_of_mode.result < 127 = rw (c.from-then-is_of_mode.ensures, e) s.1 in
    omega (arith, t)

pub loop-field-preserved : goal.loop-field-preserved
loop-field-preserved c =
    let e = c.fields-field-items.ensures.value in
    let s = small-held c.args.tables.now c.fields-field-items.ensures.good c.loop-field.field-index (rw (← e) c.loop-field-test.true) in
    elim c.if-is_of_mode.branch [
      | then-is_of_mode w ↦
          w.rows-is ∙ w.add.ensures
          ∙ (λ k. add_bit (w.from.ensures k) (w.from-then-is_of_mode.ensures k) (c.loop-field.invariant k))
          ∙ declared-more (mode_number c.args.mode) c.fields-field-items.result.now c.loop-field.field-index c.loop-field-test.true (rw e s.0) (rw e s.1) (eqb-true _ _ (sym c.is_of_mode.ensures ∙ w.if-is_of_mode.true))
      | else-is_of_mode w ↦
          w.rows-is ∙ c.loop-field.invariant
          ∙ declared_same (mode_number c.args.mode) c.fields-field-items.result.now c.loop-field.field-index c.loop-field-test.true (eqb-false _ _ (sym c.is_of_mode.ensures ∙ w.if-is_of_mode.false))
    ]

pub returns : goal.returns
returns c =
    let e = c.fields-field-items.ensures.value in
    whole c.args.tables.now (mode_number c.args.mode) c.loop-field.field-index c.loop-field.rows (rw (← e) c.loop-field-test.false) (rw (← e) c.loop-field.invariant)
