use Rattle.std.proofs.Common.{◌≡◌, length, Err, sym, ap, ◌∙◌, rules}
use Rattle.std.proofs.Math.ListN.{length-map}
use Rattle.tables.specs.View.{class_view, view}
use Rattle.verdict.proofs.Groups.{numbered, table-first, effect-first}
use Rattle.verdict.proofs.Classless.{classless}
use Rattle.verdict.proofs.verdict.Goals as goal

pub returns-then-is_empty : goal.returns-then-is_empty
returns-then-is_empty c =
    let t = c.args.tables.now in
    let none : length c.classes.result.now ≡ 0 = search rules in
    c.domain_rules.ensures ∙ classless (view t) c.classes.ensures.good (length-map t.classes class_view ∙ ap length (sym c.classes.ensures.value) ∙ none)

pub returns-in_err-table_rules : goal.returns-in_err-table_rules
returns-in_err-table_rules c =
    let e : c.from_residual.result ≡ Err c.in_err-table_rules.field-0.0 = search rules in
    let first = rw c.new-trust.ensures at c.in_err-table_rules.ensures in
    rw e (first ∙ table-first (view c.args.tables.now) (λ z. numbered c.in_err-table_rules.field-0.0.rule (ap (λ a. a.number) first ∙ z)))

pub returns : goal.returns
returns c =
    let nothing = rw c.new-trust.ensures at c.in_ok-table_rules.ensures in
    let first = rw c.new-trust.ensures at c.effect_rules.ensures in
    first ∙ effect-first (view c.args.tables.now) (sym (ap (λ a. a.number) nothing))
