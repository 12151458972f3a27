use Rattle.std.proofs.Common.{arith}
use Rattle.search.proofs.Lows.{linked_none, linked_more, linked_all}
use Rattle.search.proofs.chains.nearest.Goals as goal

pub loop-place-init : goal.loop-place-init
loop-place-init c = linked_none c.args.keys.now c.args.count

pub loop-place-preserved : goal.loop-place-preserved
loop-place-preserved c = rw c.from-low.ensures (linked_more (omega arith) (omega (arith, c.loop-place.invariant.few)) c.requires c.loop-place.invariant)

pub returns : goal.returns
returns c = linked_all c.loop-place-test.false c.loop-place.invariant
