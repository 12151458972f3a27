use Rattle.std.proofs.Common.{◌≡◌, take}
use Rattle.counted.proofs.filled.FilledFromCounted.from.Given as goal

-- the items passed are there
abbrev pub invariant-loop-item : goal.invariant-loop-item
invariant-loop-item g l = record {
  passed : l.filled ≡ take l.item-index l.item-items;
}
