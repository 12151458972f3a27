use Rattle.std.proofs.Common.{arith}
use Rattle.holdings.proofs.Gathering.{mapped}
use Rattle.holdings.proofs.keys.add_links.Goals as goal

pub returns-clause-bytes : goal.returns-clause-bytes
returns-clause-bytes c = mapped _ _ (λ k d h. c.loop-link.invariant.bytes k d (omega arith))
