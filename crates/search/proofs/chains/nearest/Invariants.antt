use Rattle.search.proofs.Lows.{AreLinked}
use Rattle.search.proofs.chains.nearest.Given as goal

-- the places from the loop's on are linked
abbrev pub invariant-loop-place : goal.invariant-loop-place
invariant-loop-place l = AreLinked l.keys l.count l.place l.heads l.near
