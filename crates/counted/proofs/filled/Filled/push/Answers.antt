-- The place that is written is the first of the free ones.
use Rattle.std.proofs.Common.{rules}
use Rattle.counted.proofs.Pushing.{pushed}
use Rattle.counted.proofs.filled.Filled.push.Goals as goal

pub invariant_of-self : goal.invariant_of-self
invariant_of-self g c =
    let more = pushed g.row.N g.T.Filler.filler c.self.inside.count c.self.inside.items c.args.item c.self.invariant (rw c.self.view_is c.requires) in
    search rules
