use Rattle.std.proofs.Common.{arith}
use Rattle.text.proofs.DigitLemmas.{looked-low, small-low}
use Rattle.text.proofs.digits.low_value.Goals as goal

pub returns : goal.returns
returns c = record { value = rw c.from.ensures (looked-low c.args.character (omega arith)); small = rw c.from.ensures (omega (arith, looked-low c.args.character (omega arith), small-low c.args.character)) }
