use Rattle.std.proofs.Common.{◌<◌, arith, sym, ◌∙◌}
use Rattle.machine.proofs.Changes.{link_count_is, link_room, within_limits_after_link}
use Rattle.machine.proofs.state.State.insert_link.Goals as goal

pub invariant_of-self : goal.invariant_of-self
invariant_of-self c =
    let w = c.self.invariant in
    let count = link_count_is c.self.inside c.args.self.now c.self.view_is (omega (arith, w.links, w.all_links)) in
    let left = link_room c.args.self.now.links c.args.link c.requires (sym c.is_linked.ensures ∙ c.if-not-is_linked.true) in
    let room : c.self.inside.link_count < 256 = omega (arith, count, left) in
    within_limits_after_link c.self.inside c.args.self.now c.self.view_is c.args.link w room
