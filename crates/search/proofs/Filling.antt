-- An array that is filled place by place: what holds of each place below i, and of what is stored at i, holds of each below i + 1.
-- Assumes nothing.
use Rattle.std.proofs.Common.{◌≡◌, ℕ, ◌+◌, ◌<◌, List, length, get_or, set, get_or-set_same, get_or-set_other, arith}
use native.Mathlib.Decide.{ℕ_discrete}

pub filled_more : (Q : ℕ → ℕ → Type 0) (i x : ℕ) (l : List ℕ) → i < length l → Q i x → ((j : ℕ) → j < i → Q j (get_or l j 0)) → (j : ℕ) → j < i + 1 → Q j (get_or (set l i x) j 0)
filled_more Q i x l h q w j k = on (ℕ_discrete j i)
  where
    on : Dec (j ≡ i) → Q j (get_or (set l i x) j 0)
    on (yes e) = rw (e, get_or-set_same l i x 0 h) q
    on (no f) = rw (get_or-set_other l i j x 0 f) (w j (omega arith))
