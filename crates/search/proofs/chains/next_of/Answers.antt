use Rattle.search.proofs.Lows.{walked_start, walked_next}
use Rattle.search.proofs.chains.next_of.Goals as goal

pub loop-next-init : goal.loop-next-init
loop-next-init c = rw c.from-next.ensures (walked_start c.requires.near c.requires.place_below)

pub loop-next-preserved : goal.loop-next-preserved
loop-next-preserved c = rw c.from-next-in-loop-next.ensures (walked_next c.requires.near c.requires.place_below c.loop-next-test.true c.if-keys-next.false c.loop-next.invariant)
