use Rattle.std.proofs.Common.{rules, ◌≡◌, ◌<◌, ◌≤◌, List, length, get_or, ap, subst, ◌∙◌, arith}
use Rattle.std.proofs.lemmas.List.{length-map}
use Rattle.tables.specs.declared.elements.Effect.{Effect}
use Rattle.tables.specs.View.{view, effect_view, operation_number}
use Rattle.permits.specs.Chains.{group, group_of, no_effect}
use Rattle.permits.specs.declared.chains.Wanted.{Wanted}
use Rattle.permits.proofs.Building.{chained-none, chained-one}
use Rattle.permits.proofs.chains.Permits.new.Goals as goal

pub loop-place-init : goal.loop-place-init
loop-place-init c = record { chained = chained-none (view c.before.args.tables.now) c.before.args.tables.now.effects _; groups = search rules; effects = search rules }

pub loop-place-preserved : goal.loop-place-preserved
loop-place-preserved c =
    let es = c.args.tables.now.effects in
    let place = c.loop-place.place in
    let P = view c.args.tables.now in
    let e : c.group-group.result ≡ group_of P (get_or es place no_effect) =
    subst (λ (xs : List Effect). c.group-group.result ≡ group_of P (get_or xs place no_effect)) c.effects-effect-items.ensures.value
    (c.group-group.ensures.value ∙ ap (λ (w : Wanted). group (get_or c.effects-effect-items.result.now place no_effect).method (operation_number (get_or c.effects-effect-items.result.now place no_effect).operation) w) c.grouped_by-by.ensures) in
    let few : length es ≤ 1024 = omega (arith, c.effects-effect-items.ensures.good.few_effects, length-map es effect_view) in
    let met : place < length es = subst (λ (xs : List Effect). place < length xs) c.effects-effect-items.ensures.value c.loop-place-test.true in
    record {
      chained = chained-one P es place c.loop-place.newest c.loop-place.before c.loop-place.invariant.chained c.group-group.result e (omega arith) (omega arith) (omega arith);
      groups = search rules;
      effects = search rules;
    }
