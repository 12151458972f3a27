use Rattle.std.proofs.Common.{◌≡◌, ℕ, ◌<◌, ◌-◌, false}
use Rattle.search.proofs.Walking.{IsReached}
use Rattle.search.proofs.chained.first_broken_in.Given as goal

-- no pair in the rows so far
abbrev pub invariant-loop-first : goal.invariant-loop-first
invariant-loop-first g l = (c d : ℕ) → c < l.first → d < l.count → g.R.PairRule.breaks l.rule c d ≡ false

-- nor in this row so far
abbrev pub invariant-loop-second : goal.invariant-loop-second
invariant-loop-second g l = IsReached l.chains.keys l.count (g.R.PairRule.breaks l.rule) l.first l.second

abbrev pub decreases-loop-second : goal.decreases-loop-second
decreases-loop-second g l = l.count - l.second
