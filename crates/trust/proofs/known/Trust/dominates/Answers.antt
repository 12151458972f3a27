use Rattle.std.proofs.Common.{◌∙◌}
use Rattle.trust.proofs.Laws.{dominated_is}
use Rattle.trust.proofs.known.Trust.dominates.Goals as goal

pub returns : goal.returns
returns c = c.has.ensures ∙ rw (c.from.ensures, c.from-2.ensures, ← c.self.view_is) (dominated_is c.self.invariant _ _ (rw c.self.view_is c.requires.e_declared) (rw c.self.view_is c.requires.d_declared))
