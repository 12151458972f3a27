use Rattle.std.proofs.Common.{◌≡◌, take}
use Rattle.std.specs.List.{fold}
use Rattle.trust.specs.Turns.{join_supertype}
use Rattle.trust.proofs.classes.join_rows.Given as goal

abbrev pub invariant-loop-other : goal.invariant-loop-other
invariant-loop-other l = l.rows ≡ fold (join_supertype l.class) l.initial.rows (take l.other-index l.fn.others)
