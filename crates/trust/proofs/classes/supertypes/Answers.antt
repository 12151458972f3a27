use Rattle.trust.proofs.Relations.{supertypes-made}
use Rattle.trust.proofs.classes.supertypes.Goals as goal

pub returns : goal.returns
returns c = rw (c.fill.ensures, c.add_classes.ensures, c.new-rows.ensures, c.classes-classes.ensures.value) (supertypes-made _ c.classes-classes.ensures.good)
