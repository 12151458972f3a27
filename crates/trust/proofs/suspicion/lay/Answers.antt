use Rattle.std.proofs.Common.{add-one}
use Rattle.trust.proofs.Declared.{home-at}
use Rattle.trust.proofs.suspicion.lay.Goals as goal

pub loop-number-preserved : goal.loop-number-preserved
loop-number-preserved c =
    let at = rw c.classes-class-items.ensures.value at c.class-item.is in
    let below = rw c.classes-class-items.ensures.value at c.loop-number-test.true in
    rw (c.add.ensures, c.from.ensures, c.loop-number.invariant, add-one, home-at c.args.tables.now c.loop-number.number c.class-item.result below at)
