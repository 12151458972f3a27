use Rattle.std.proofs.Common.{◌∙◌}
use Rattle.trust.proofs.Laws.{below-is}
use Rattle.trust.proofs.classes.is_subtype.Goals as goal

pub returns : goal.returns
returns c = record { value = c.is_below.ensures; of_package = λ P s. c.is_below.ensures ∙ below-is s _ _ }
