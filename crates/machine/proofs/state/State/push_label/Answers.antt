use Rattle.std.proofs.Common.{arith}
use Rattle.machine.proofs.Changes.{label_count_is, within_limits_after_push_label}
use Rattle.machine.proofs.state.State.push_label.Goals as goal

pub invariant_of-self : goal.invariant_of-self
invariant_of-self c =
    let w = c.self.invariant in
    let count = label_count_is c.self.inside c.args.self.now c.self.view_is (omega (arith, w.depth, w.labels, w.all_labels)) in
    within_limits_after_push_label c.self.inside c.args.self.now c.self.view_is c.args.label w (omega (arith, count, c.requires))
