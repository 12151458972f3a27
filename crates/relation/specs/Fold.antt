-- A loop that counts up: `up_to n f s` is s after the turns f 0, f 1, .., f (n - 1).
-- Assumes nothing.
use Rattle.std.specs.Prelude.{ℕ, zero, suc}

abbrev pub up_to : {S : Type 0} → ℕ → (ℕ → S → S) → S → S
up_to zero f s = s
up_to (suc n) f s = f n (up_to n f s)
