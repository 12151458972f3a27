-- A number's binary digits, as `>>`, `&`, `|` and `<<` read and set them.
-- Assumes nothing.
use Rattle.std.specs.Prelude.{ℕ, zero, suc, ◌+◌, ◌/◌, ◌%◌, ◌^◌, Bool, cond, eqb}

-- the digit of x at place d
unfoldable pub bit : ℕ → ℕ → Bool
bit x d = eqb (x / 2 ^ d % 2) 1

-- the number below 2 ^ n whose digit at each place d is f d
unfoldable pub number : ℕ → (ℕ → Bool) → ℕ
number zero f = 0
number (suc n) f = cond (f n) (2 ^ n) 0 + number n f
