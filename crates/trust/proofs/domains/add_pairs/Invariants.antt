use Rattle.std.proofs.Common.{◌≡◌}
use Rattle.std.proofs.Common.{take}
use Rattle.std.specs.List.{fold}
use Rattle.trust.specs.Turns.{list_pair}
use Rattle.trust.proofs.domains.add_pairs.Given as goal

abbrev pub invariant-loop-pair : goal.invariant-loop-pair
invariant-loop-pair l = l.rows ≡ fold list_pair l.initial.rows (take l.pair-index l.pair-items)
