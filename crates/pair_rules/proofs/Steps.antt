-- What holds at the steps down to the classes so far, and to one more.
-- Assumes nothing.
use Rattle.std.proofs.Common.{◌≡◌, ◌+◌, ℕ, ◌<◌, List, length, get_or, sym, subst, arith}
use native.Mathlib.Decide.{ℕ_discrete}
use Rattle.meaning.specs.Lists.{In}
use Rattle.meaning.specs.Tables.{Package, supers_of}
use Rattle.meaning.proofs.Lists.{in-get_or}

pub steps_more : (Q : ℕ → ℕ → Type 0) (P : Package) (class : ℕ) (xs : List ℕ) → xs ≡ supers_of P class → ((j : ℕ) → j < length xs → Q (get_or xs j 0) class) → ((c s : ℕ) → c < class → In s (supers_of P c) → Q s c)
    → (c s : ℕ) → c < class + 1 → In s (supers_of P c) → Q s c
steps_more Q P class xs are here before c s h m = on (ℕ_discrete c class)
  where
    on : Dec (c ≡ class) → Q s c
    on (no f) = before c s (omega arith) m
    on (yes e) =
        let w = in-get_or 0 (subst (λ (l : List ℕ). In s l) (sym are) (subst (λ (k : ℕ). In s (supers_of P k)) e m)) in
        subst (λ (k : ℕ). Q s k) (sym e) (subst (λ (k : ℕ). Q k class) (sym w.2) (here w.0 w.1))
