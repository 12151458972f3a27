use Rattle.std.proofs.Common.{◌<◌, arith}
use Rattle.machine.proofs.Changes.{within_limits_after_link}
use Rattle.machine.proofs.state.State.add_link.Goals as goal

pub invariant_of-self : goal.invariant_of-self
invariant_of-self c =
    let room : c.self.inside.link_count < 256 = omega arith in
    within_limits_after_link c.self.inside c.args.self.now c.self.view_is c.args.link c.self.invariant room
