use Rattle.std.proofs.Common.{◌≡◌, ◌<◌, ◌≤◌, ◌∙◌, sym, refl, arith, get_or, length, set, get_or-set_same, get_or-set_other}
use Rattle.std.proofs.Math.ListN.{length-set}
use native.Mathlib.Decide.{dec_lt}
use borrow.Author.Count.{below_more}
use Rattle.meaning.specs.Tables.{home}
use Rattle.tables.specs.View.{view}
use Rattle.relation.proofs.RowLaws.{zeros-at}
use Rattle.trust.proofs.Declared.{class-count, home-at, home-past}
use Rattle.trust.proofs.known.homes_of.Goals as goal

pub loop-number-init : goal.loop-number-init
loop-number-init c = record { long = refl; filled = λ q h. absurd (omega arith); rest = λ q h. zeros-at 256 q }

pub loop-number-preserved : goal.loop-number-preserved
loop-number-preserved c =
    let old = c.loop-number.invariant in
    let at = rw c.classes-class-items.ensures.value at c.class-item.is in
    let below = rw c.classes-class-items.ensures.value at c.loop-number-test.true in
    let few = c.classes-class-items.ensures.good.few_classes in
    let place : c.loop-number.number < length c.loop-number.homes = omega (arith, class-count c.args.tables.now) in
    record {
      long = length-set _ _ _ ∙ old.long;
      filled = below_more (λ q. get_or (set c.loop-number.homes c.loop-number.number c.class-item.result.domain) q 0 ≡ home (view c.args.tables.now) q) c.loop-number.number
          (λ q h. get_or-set_other _ _ q _ 0 (λ e. omega arith) ∙ old.filled q h)
          (get_or-set_same _ _ _ 0 place ∙ sym (home-at _ _ _ below at));
      rest = λ q h. get_or-set_other _ _ q _ 0 (λ e. omega arith) ∙ old.rest q (omega arith);
    }

pub returns-clause-homes : goal.returns-clause-homes
returns-clause-homes c q h = on (dec_lt q c.loop-number.number)
  where
    on : Dec (q < c.loop-number.number) → get_or c.loop-number.homes q 0 ≡ home (view c.args.tables.now) q
    on (yes l) = c.loop-number.invariant.filled q l
    on (no l) =
        let past : length c.classes-class-items.result.now ≤ q = omega arith in
        c.loop-number.invariant.rest q (omega arith) ∙ sym (home-past _ q (rw c.classes-class-items.ensures.value at past))
