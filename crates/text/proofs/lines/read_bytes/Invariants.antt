use Rattle.std.proofs.Common.{◌≡◌, ◌+◌, ◌≤◌, length}
use Rattle.meaning.specs.Text.{lines_of}
use Rattle.text.specs.Cutting.{cut_of, within}
use Rattle.text.proofs.lines.read_bytes.Given as goal

abbrev pub invariant-loop-byte : goal.invariant-loop-byte
invariant-loop-byte l = record {
  same_cut : cut_of (lines_of l.fn.text) ≡ within (record { bytes = l.frame.bytes; length = l.length }) l.rest;
  counted : l.length + length l.rest ≤ length l.fn.text;
}

abbrev pub decreases-loop-byte : goal.decreases-loop-byte
decreases-loop-byte l = length l.rest
