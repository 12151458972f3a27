-- One reading behind another: the second goes on where the first has read, and the first's refusal stays.
use mathlib.Core.Path.{◌≡◌, ap, ◌∙◌}
use Rattle.std.specs.Prelude.{Result, Ok, Err}
use Rattle.sections.specs.declared.refusal.Refused.{Refused}
use Rattle.sections.specs.Sections.{and_then}

module _ {A B : Type 0} {o : Result A Refused} (go : A → Result B Refused) where
  pub and-ok : {a : A} {r : Result B Refused} → o ≡ Ok a → go a ≡ r → and_then o go ≡ r
  and-ok e h = ap (λ (o : Result A Refused). and_then o go) e ∙ h

  pub and-err : {r : Refused} → o ≡ Err r → and_then o go ≡ Err r
  and-err e = ap (λ (o : Result A Refused). and_then o go) e
