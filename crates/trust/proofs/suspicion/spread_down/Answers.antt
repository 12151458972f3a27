use Rattle.trust.proofs.Relations.{suspects-made}
use Rattle.trust.proofs.suspicion.spread_down.Goals as goal

pub returns : goal.returns
returns c = rw (c.fill.ensures, c.requires, c.classes.ensures.value) (suspects-made _ c.classes.ensures.good)
