use Rattle.std.proofs.Common.{◌≡◌, ℕ, ◌<◌, false}
use Rattle.search.proofs.pairs.first_broken.Given as goal

-- no pair in the rows so far
abbrev pub invariant-loop-first : goal.invariant-loop-first
invariant-loop-first g l = (c d : ℕ) → c < l.first → d < l.count → g.R.PairRule.breaks l.rule c d ≡ false

-- nor in this row so far
abbrev pub invariant-loop-second : goal.invariant-loop-second
invariant-loop-second g l = (d : ℕ) → d < l.second → g.R.PairRule.breaks l.rule l.first d ≡ false
