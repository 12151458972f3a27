-- What is said of rules that are broken nowhere, and of rules of the package's elements.
-- Assumes nothing.
use Rattle.std.proofs.Common.{◌≡◌, refl, sym, subst, ℕ, ◌<◌, Bool, false, [], ◌∷◌, length, Result, Ok}
use lib.ListN.{length-map}
use Rattle.meaning.specs.Tables.{Package}
use Rattle.meaning.specs.Check.{of_classes, of_methods}
use Rattle.meaning.specs.Tests.{breaks11, breaks12, breaks21, breaks22, breaks23, breaks24, breaks25}
use Rattle.rules.specs.declared.Broken.{Broken}
use Rattle.tables.specs.Contents.{Contents}
use Rattle.tables.specs.View.{view, class_view, method_view}
use Rattle.pair_rules.specs.Judged.{Says, finding, named_or}
use Rattle.pair_rules.specs.Slots.{IsKeptByMethods}
use Rattle.pair_rules.proofs.Places.{nowhere}
use Rattle.pair_rules.proofs.Judged.{says_none}

module _ (t : Contents) (number : ℕ) (breaks : ℕ → ℕ → Bool) (result : Result (Unit {0}) Broken) where
  pub says_of_methods : Says result (finding number (length t.methods) breaks ∷ []) → Says result (finding number (length (view t).methods) breaks ∷ [])
  says_of_methods = subst (λ (n : ℕ). Says result (finding number n breaks ∷ [])) (sym (length-map t.methods method_view))

  pub says_of_classes : Says result (finding number (length t.classes) breaks ∷ []) → Says result (finding number (length (view t).classes) breaks ∷ [])
  says_of_classes = subst (λ (n : ℕ). Says result (finding number n breaks ∷ [])) (sym (length-map t.classes class_view))

module _ (P : Package) where
  pub kept_slots : IsKeptByMethods P → Says {T = Unit {0}} (Ok tt) (of_methods P 11 breaks11 ∷ of_methods P 12 breaks12 ∷ [])
  unfolding named_or
  kept_slots k = says_none (λ rest. rw (nowhere _ _ k.types, nowhere _ _ k.twice) refl)

  pub kept_overriding : IsKeptByMethods P → Says {T = Unit {0}} (Ok tt) (of_methods P 23 breaks23 ∷ of_methods P 24 breaks24 ∷ of_methods P 25 breaks25 ∷ [])
  unfolding named_or
  kept_overriding k = says_none (λ rest. rw (nowhere _ _ k.labels, nowhere _ _ k.results, nowhere _ _ k.parameters) refl)

  pub kept_21 : ((a b : ℕ) → breaks21 P a b ≡ false) → Says {T = Unit {0}} (Ok tt) (of_classes P 21 breaks21 ∷ [])
  unfolding named_or
  kept_21 k = says_none (λ rest. rw (nowhere _ (breaks21 P) (λ a b _ _. k a b)) refl)

  pub kept_22 : ((a b : ℕ) → a < length P.classes → breaks22 P a b ≡ false) → Says {T = Unit {0}} (Ok tt) (of_classes P 22 breaks22 ∷ [])
  unfolding named_or
  kept_22 k = says_none (λ rest. rw (nowhere _ (breaks22 P) (λ a b h _. k a b h)) refl)
