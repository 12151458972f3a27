-- The byte that two characters spell, and what each of them counts in it.
use Rattle.std.specs.Prelude.{ℕ, ◌+◌, ◌*◌, true, false, ◌&&◌, cond, Option, Some, None}
use Rattle.meaning.specs.Text.{is_digit, digit}

-- the high digit stands first
unfoldable pub byte_of : ℕ → ℕ → Option ℕ
unfolding is_digit digit
byte_of c d = elim (is_digit c && is_digit d) [ true ↦ Some (digit c * 16 + digit d) | false ↦ None ]

-- a digit's value, counted w times, and 256 for a character that is none
unfoldable pub value_of : ℕ → ℕ → ℕ
unfolding is_digit digit
value_of w c = cond (is_digit c) (digit c * w) 256
