-- Rows of bits as lists of numbers: each relation of small numbers is one list.
-- Assumes nothing.
use Rattle.std.specs.Prelude.{ℕ, zero, suc, ◌^◌, Bool, ◌&&◌, not, List, [], ◌∷◌, eqb, ltb, get_or, set}
use Rattle.std.specs.Int.Bits.{bit_and, bit_or}
use Rattle.relation.specs.Bit.{bit, number}

-- f 0, f 1, .., f (n - 1)
unfoldable pub listed : {A : Type 0} → ℕ → (ℕ → A) → List A
listed zero f = []
listed (suc n) f = f 0 ∷ listed n (λ (i : ℕ). f (suc i))

-- n words of w bits, the word i with the digits f i
unfoldable pub words : ℕ → ℕ → (ℕ → ℕ → Bool) → List ℕ
words w n f = listed n (λ (i : ℕ). number w (f i))

-- the relation f between numbers below n
unfoldable pub among : ℕ → (ℕ → ℕ → Bool) → ℕ → ℕ → Bool
among n f a b = ltb a n && (ltb b n && f a b)

-- a relation of up to 32 numbers, and one of up to 127
unfoldable pub narrow : ℕ → (ℕ → ℕ → Bool) → List ℕ
narrow n f = words 32 32 (among n f)

unfoldable pub wide : ℕ → (ℕ → ℕ → Bool) → List ℕ
wide n f = words 128 127 (among n f)

-- the bit b of row a
abbrev pub row_bit : List ℕ → ℕ → ℕ → Bool
row_bit rows a b = bit (get_or rows a 0) b

-- row a, or'ed with x; with the bit b besides; with row s of xs, and with row s of its own
abbrev pub or_at : List ℕ → ℕ → ℕ → List ℕ
or_at rows a x = set rows a (bit_or (get_or rows a 0) x)

abbrev pub add_bit : ℕ → ℕ → List ℕ → List ℕ
add_bit a b rows = or_at rows a (2 ^ b)

abbrev pub join_from : List ℕ → ℕ → ℕ → List ℕ → List ℕ
join_from xs a s rows = or_at rows a (get_or xs s 0)

abbrev pub join_row : ℕ → ℕ → List ℕ → List ℕ
join_row a s rows = join_from rows a s rows

-- row a of xs and row b of ys have a bit in common
abbrev pub meet_row : List ℕ → ℕ → List ℕ → ℕ → Bool
meet_row xs a ys b = not (eqb (bit_and (get_or xs a 0) (get_or ys b 0)) 0)

-- each bit of row a is in row b
abbrev pub within : List ℕ → ℕ → ℕ → Bool
within rows a b = eqb (bit_or (get_or rows a 0) (get_or rows b 0)) (get_or rows b 0)
