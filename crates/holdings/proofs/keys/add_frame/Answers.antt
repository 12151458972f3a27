use Rattle.std.proofs.Common.{arith, subst}
use Rattle.holdings.specs.Held.{labelled, AllBytes}
use Rattle.holdings.proofs.Gathering.{mapped}
use Rattle.holdings.proofs.keys.add_frame.Goals as goal
use Rattle.std.proofs.Common.{map}

pub returns-clause-bytes : goal.returns-clause-bytes
returns-clause-bytes c =
    subst (λ d. AllBytes (map (labelled d) c.args.labels.now)) c.domain_of-domain.ensures
    (mapped (labelled c.domain_of-domain.result) _ (λ k d h. c.loop-label.invariant.bytes k d (omega arith)))
