use Rattle.std.proofs.Common.{◌∙◌}
use Rattle.trust.proofs.Laws.{suspicious_is}
use Rattle.trust.proofs.known.Trust.are_suspicious.Goals as goal

pub returns : goal.returns
returns c = c.has.ensures ∙ rw (c.from.ensures, c.from-2.ensures, ← c.self.view_is) (suspicious_is c.self.invariant _ _ (rw c.self.view_is c.requires.a_declared) (rw c.self.view_is c.requires.b_declared))
