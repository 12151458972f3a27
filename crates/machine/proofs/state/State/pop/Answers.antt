use Rattle.std.proofs.Common.{◌<◌, arith}
use Rattle.machine.proofs.Changes.{depth_is, within_limits_after_pop}
use Rattle.machine.proofs.state.State.pop.Goals as goal

pub invariant_of-self : goal.invariant_of-self
invariant_of-self c =
    let depth = depth_is c.self.inside c.args.self.now c.self.view_is in
    let waits : 0 < c.self.inside.depth = omega (arith, depth, c.requires) in
    rw c.clear.ensures (within_limits_after_pop c.self.inside c.args.self.now c.self.view_is c.self.invariant waits)
