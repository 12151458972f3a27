use Rattle.std.proofs.Common.{arith}
use Rattle.script.proofs.Calls.{arguments-few}
use Rattle.script.proofs.steps.arguments.Goals as goal

pub returns-then-count-le6 : goal.returns-then-count-le6
returns-then-count-le6 c = arguments-few _ _ (omega arith) _
