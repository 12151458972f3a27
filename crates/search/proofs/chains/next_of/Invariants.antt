use Rattle.std.proofs.Common.{◌-◌}
use Rattle.search.proofs.Lows.{IsWalked}
use Rattle.search.proofs.chains.next_of.Given as goal

abbrev pub invariant-loop-next : goal.invariant-loop-next
invariant-loop-next l = IsWalked l.keys l.count l.place l.next

abbrev pub decreases-loop-next : goal.decreases-loop-next
decreases-loop-next l = l.count - l.next
