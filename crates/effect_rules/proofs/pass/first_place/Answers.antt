use Rattle.std.proofs.Common.{◌≡◌, ◌∙◌, length, sym, ap, arith}
use Rattle.std.proofs.Math.ListN.{length-map}
use Rattle.search.specs.Pairs.{pair_of}
use Rattle.tables.specs.View.{effect_view, view}
use Rattle.effect_rules.proofs.Finding.{none_first, some_first}
use Rattle.effect_rules.proofs.pass.first_place.Goals as goal
use Rattle.effect_rules.proofs.pass.first_place.Goals.{Then-breaks, After-loop-effect}

pub returns-then-breaks : goal.returns-then-breaks
returns-then-breaks c =
    let t = c.args.trust.now in
    let count : length c.effects-count.result.now ≡ length (view t).effects
    = ap length (c.effects-count.ensures.value ∙ ap (λ x. x.effects) c.tables.ensures.value) ∙ sym (length-map t.effects effect_view) in
    let most = rw (c.new-site.ensures.of, c.new-site.ensures.at) at c.places-second-end.ensures.most in
    let broken = rw (c.new-site.ensures.of, c.new-site.ensures.at) at c.breaks.ensures in
    some_first c.args.rule (view t) c.loop-effect.effect c.loop-second.second
    (rw count at c.loop-effect-test.true) (omega (arith, most, c.loop-second-test.true))
    c.loop-effect.invariant c.loop-second.invariant (sym broken ∙ c.if-breaks.true)

pub returns-after-loop-effect : goal.returns-after-loop-effect
returns-after-loop-effect c =
    let t = c.args.trust.now in
    let count : length c.effects-count.result.now ≡ length (view t).effects
    = ap length (c.effects-count.ensures.value ∙ ap (λ x. x.effects) c.tables.ensures.value) ∙ sym (length-map t.effects effect_view) in
    sym (ap pair_of (none_first c.args.rule (view t) (λ i j l h. c.loop-effect.invariant i j (omega (arith, l, count, c.loop-effect-test.false)) h)))
