use Rattle.std.proofs.Common.{arith}
use Rattle.text.proofs.DigitLemmas.{looked-high, small-high}
use Rattle.text.proofs.digits.high_value.Goals as goal

pub returns : goal.returns
returns c = record { value = rw c.from.ensures (looked-high c.args.character (omega arith)); small = rw c.from.ensures (omega (arith, looked-high c.args.character (omega arith), small-high c.args.character)) }
