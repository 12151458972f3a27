use Rattle.std.proofs.Common.{◌≡◌}
use Rattle.relation.specs.Fold.{up_to}
use Rattle.relation.specs.Closing.{join_at}
use Rattle.relation.proofs.close_through.Given as goal

abbrev pub invariant-loop-from : goal.invariant-loop-from
invariant-loop-from g l = g.R.Relation.rows l.relation ≡ up_to l.from (join_at l.stop) (g.R.Relation.rows l.initial.relation)
