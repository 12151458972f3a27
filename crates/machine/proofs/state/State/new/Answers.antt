use Rattle.machine.proofs.Changes.{within_limits_at_start}
use Rattle.machine.proofs.state.State.new.Goals as goal

pub invariant_of-result : goal.invariant_of-result
invariant_of-result c = within_limits_at_start c.args.method
