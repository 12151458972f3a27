use Rattle.std.proofs.Common.{◌≡◌}
use Rattle.tables.specs.View.{view}
use Rattle.effect_rules.specs.Search.{lowest_in}
use Rattle.effect_rules.proofs.pass.lowest_broken.Given as goal

abbrev pub invariant-loop-effect : goal.invariant-loop-effect
invariant-loop-effect l = l.lowest ≡ lowest_in (view l.trust) l.effect
