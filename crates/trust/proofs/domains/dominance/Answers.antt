use Rattle.trust.proofs.Closure.{closed_is}
use Rattle.trust.proofs.domains.dominance.Goals as goal

pub returns : goal.returns
returns c = rw (c.close.ensures, c.add_pairs.ensures, c.add_root.ensures, c.new-rows.ensures, c.from-domains.ensures, c.domains.ensures.value) (closed_is _ c.domains.ensures.good)
