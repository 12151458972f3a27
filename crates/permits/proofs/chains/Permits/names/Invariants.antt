use Rattle.tables.specs.View.{view, operation_number}
use Rattle.permits.specs.Wanted.{fits}
use Rattle.permits.proofs.Search.{Stands, after}
use Rattle.permits.proofs.chains.Permits.names.Given as goal

-- nothing behind the place where the walk stands is wanted
abbrev pub invariant-loop-at : goal.invariant-loop-at
invariant-loop-at l = Stands (view l.self) l.method (operation_number l.fn.operation) (fits (view l.self) l.wanted) l.group l.self.effects l.at

abbrev pub decreases-loop-at : goal.decreases-loop-at
decreases-loop-at l = after l.at
