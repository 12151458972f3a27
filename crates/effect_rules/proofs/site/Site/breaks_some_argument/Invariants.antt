use Rattle.std.proofs.Common.{◌≡◌, ℕ, false, ◌<◌}
use Rattle.meaning.specs.Tests.{breaks30}
use Rattle.tables.specs.View.{view}
use Rattle.effect_rules.proofs.site.Site.breaks_some_argument.Given as goal

-- no parameter so far
abbrev pub invariant-loop-parameter : goal.invariant-loop-parameter
invariant-loop-parameter l = (j : ℕ) → j < l.parameter → breaks30 (view l.self.trust.now) l.self.number j ≡ false
