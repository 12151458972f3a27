use Rattle.std.proofs.Common.{◌≡◌}
use Rattle.relation.specs.Fold.{up_to}
use Rattle.relation.specs.Closing.{through_at}
use Rattle.relation.proofs.close.Given as goal

abbrev pub invariant-loop-stop : goal.invariant-loop-stop
invariant-loop-stop g l = g.R.Relation.rows l.relation ≡ up_to l.stop (through_at l.count) (g.R.Relation.rows l.initial.relation)
