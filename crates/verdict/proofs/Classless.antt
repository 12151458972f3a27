-- A package without classes has no methods and no effects, so that 10 alone can be broken.
-- Assumes nothing.
use Rattle.std.proofs.Common.{◌≡◌, ℕ, zero, suc, ◌<◌, [], ◌∷◌, length, refl, arith}
use native.Mathlib.Nat.{not-suc-le-zero}
use Rattle.meaning.specs.Lists.{first_up, first_place}
use Rattle.meaning.specs.Tables.{Package, owner_of, caller_of}
use Rattle.meaning.specs.Good.{Good}
use Rattle.meaning.specs.Tests.{breaks10}
use Rattle.meaning.specs.Check.{of_domains, first_found, table_findings, effect_findings, verdict}

-- where each has a number below 0, there are none
none_left : (n : ℕ) {k : ℕ} (f : ℕ → ℕ) → ((i : ℕ) → i < n → f i < k) → k ≡ 0 → n ≡ 0
none_left zero f h e = refl
none_left (suc n) f h e = absurd (not-suc-le-zero (rw e at (h 0 (omega arith))))

module _ (P : Package) (g : Good P) (e : length P.classes ≡ 0) where
  no_methods_lem : length P.methods ≡ 0
  no_methods_lem = none_left (length P.methods) (owner_of P) (λ m h. (g.methods m h).class) e

  no_effects_lem : length P.effects ≡ 0
  no_effects_lem = none_left (length P.effects) (caller_of P) (λ i h. (g.effects i h).method) no_methods_lem

  pub classless : first_found (of_domains P 10 breaks10 ∷ []) ≡ verdict P
  unfolding verdict table_findings effect_findings first_found first_place first_up
  classless = rw (no_methods_lem, e, no_effects_lem) refl
