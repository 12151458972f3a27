use Rattle.std.proofs.Common.{◌∙◌}
use Rattle.trust.proofs.Laws.{subtype_is}
use Rattle.trust.proofs.known.Trust.is_subtype.Goals as goal

pub returns : goal.returns
returns c = c.has.ensures ∙ rw (c.from.ensures, c.from-2.ensures, ← c.self.view_is) (subtype_is c.self.invariant _ _ (rw c.self.view_is c.requires.a_declared) (rw c.self.view_is c.requires.b_declared))
