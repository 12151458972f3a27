use Rattle.std.proofs.Common.{◌≡◌, ◌*◌, ◌≤◌, ◌++◌, take, drop, None}
use Rattle.holdings.specs.Lines.{lines_of}
use Rattle.holdings.proofs.lines.write_lines.Given as goal

-- the lines of the keys passed stand at the buffer's start, and those of the others are left
abbrev pub invariant-loop-key : goal.invariant-loop-key
invariant-loop-key l = record {
  whole : lines_of None l.keys ≡ take l.at l.out ++ lines_of l.last (drop l.key-index l.keys);
  behind : drop l.at l.out ≡ drop l.at l.initial.out;
  few : l.at ≤ 9 * l.key-index;
}
