use Rattle.std.proofs.Common.{◌∙◌, sym}
use Rattle.tables.specs.View.{view}
use Rattle.effect_rules.proofs.Lowest.{lowest-none, lowest-more}
use Rattle.effect_rules.proofs.pass.lowest_broken.Goals as goal

pub loop-effect-init : goal.loop-effect-init
loop-effect-init c = lowest-none (view c.args.trust.now)

pub loop-effect-preserved : goal.loop-effect-preserved
loop-effect-preserved c =
    let here = rw (c.new.ensures.of, c.new.ensures.at) at c.lowest_broken.ensures in
    c.lower-lowest.ensures ∙ rw (here, c.loop-effect.invariant) (sym (lowest-more (view c.args.trust.now) c.loop-effect.effect))
