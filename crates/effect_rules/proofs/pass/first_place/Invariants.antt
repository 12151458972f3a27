use Rattle.std.proofs.Common.{◌≡◌, ℕ, ◌<◌, false}
use Rattle.tables.specs.View.{view}
use Rattle.effect_rules.specs.Rules.{breaks_of, seconds_of}
use Rattle.effect_rules.proofs.pass.first_place.Given as goal

-- no effect so far
abbrev pub invariant-loop-effect : goal.invariant-loop-effect
invariant-loop-effect l = (i j : ℕ) → i < l.effect → j < seconds_of l.rule (view l.trust) i → breaks_of l.rule (view l.trust) i j ≡ false

-- nor this one at a place so far
abbrev pub invariant-loop-second : goal.invariant-loop-second
invariant-loop-second l = (j : ℕ) → j < l.second → breaks_of l.rule (view l.trust) l.effect j ≡ false
