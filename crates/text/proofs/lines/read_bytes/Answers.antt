-- A byte more joins the frame.
use Rattle.std.proofs.Common.{◌≡◌, ◌+◌, ◌∙◌, ℕ, List, Some, ap, sym, arith}
use Rattle.text.specs.Cutting.{within}
use Rattle.text.specs.Reading.{first_byte}
use Rattle.text.proofs.Steps.{within-first_byte, length-first_byte}
use Rattle.text.proofs.lines.read_bytes.Goals as goal

pub loop-byte-preserved : goal.loop-byte-preserved
loop-byte-preserved c =
    let next : first_byte c.loop-byte.rest.now ≡ Some (c.in-Some.byte, c.in-Some.behind.now) = c.in-Some.ensures in
    record {
      same_cut =
          c.loop-byte.invariant.same_cut
          ∙ within-first_byte (record { bytes = c.loop-byte.frame.bytes; length = c.loop-byte.length }) c.loop-byte.rest.now c.in-Some.behind.now c.in-Some.byte next
          ∙ ap (λ (b : List ℕ). within (record { bytes = b; length = c.loop-byte.length + 1 }) c.in-Some.behind.now) (sym c.keep.ensures);
      counted = omega (arith, c.loop-byte.invariant.counted, length-first_byte c.loop-byte.rest.now c.in-Some.behind.now c.in-Some.byte next);
    }
