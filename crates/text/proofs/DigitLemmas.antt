-- The table of digits holds what each character counts as the high digit of a byte, and as the low one.
use Rattle.std.proofs.Common.{◌≡◌, ℕ, zero, suc, ◌<◌, ◌≤◌, Bool, true, false, ◌&&◌, eqb, ltb, leb, cond, ◌+◌, ◌-◌, ◌*◌, Some, None, List, [], ◌∷◌, length, get_or, ap, ◌∙◌, refl, arith}
use Rattle.std.proofs.lemmas.Bool.{and_parts, eqb-true, leb-true, lt-ltb, le-ltb}
use Rattle.meaning.specs.Text.{is_digit, digit}
use Rattle.meaning.proofs.ReadDigits.{digit-range}
use Rattle.text.specs.Digits.{value_of, byte_of}

abbrev pub digits : List ℕ
digits = 256 ∷ 256 ∷ 256 ∷ 256 ∷ 256 ∷ 256 ∷ 256 ∷ 256 ∷ 256 ∷ 256 ∷ 256 ∷ 256 ∷ 256 ∷ 256 ∷ 256 ∷ 256 ∷ 256 ∷ 256 ∷ 256 ∷ 256 ∷ 256 ∷ 256 ∷ 256 ∷ 256 ∷ 256 ∷ 256 ∷ 256 ∷ 256 ∷ 256 ∷ 256 ∷ 256 ∷ 256 ∷ 256 ∷ 256 ∷ 256 ∷ 256 ∷ 256 ∷ 256 ∷ 256 ∷ 256 ∷ 256 ∷ 256 ∷ 256 ∷ 256 ∷ 256 ∷ 256 ∷ 256 ∷ 256 ∷ 0 ∷ 16 ∷ 32 ∷ 48 ∷ 64 ∷ 80 ∷ 96 ∷ 112 ∷ 128 ∷ 144 ∷ 256 ∷ 256 ∷ 256 ∷ 256 ∷ 256 ∷ 256 ∷ 256 ∷ 160 ∷ 176 ∷ 192 ∷ 208 ∷ 224 ∷ 240 ∷ 256 ∷ 256 ∷ 256 ∷ 256 ∷ 256 ∷ 256 ∷ 256 ∷ 256 ∷ 256 ∷ 256 ∷ 256 ∷ 256 ∷ 256 ∷ 256 ∷ 256 ∷ 256 ∷ 256 ∷ 256 ∷ 256 ∷ 256 ∷ 256 ∷ 256 ∷ 256 ∷ 256 ∷ 256 ∷ 256 ∷ 256 ∷ 256 ∷ 256 ∷ 256 ∷ 256 ∷ 256 ∷ 256 ∷ 256 ∷ 256 ∷ 256 ∷ 256 ∷ 256 ∷ 256 ∷ 256 ∷ 256 ∷ 256 ∷ 256 ∷ 256 ∷ 256 ∷ 256 ∷ 256 ∷ 256 ∷ 256 ∷ 256 ∷ 256 ∷ 256 ∷ 256 ∷ 256 ∷ 256 ∷ 256 ∷ 256 ∷ 256 ∷ 256 ∷ 256 ∷ 256 ∷ 256 ∷ 256 ∷ 256 ∷ 256 ∷ 256 ∷ 256 ∷ 256 ∷ 256 ∷ 256 ∷ 256 ∷ 256 ∷ 256 ∷ 256 ∷ 256 ∷ 256 ∷ 256 ∷ 256 ∷ 256 ∷ 256 ∷ 256 ∷ 256 ∷ 256 ∷ 256 ∷ 256 ∷ 256 ∷ 256 ∷ 256 ∷ 256 ∷ 256 ∷ 256 ∷ 256 ∷ 256 ∷ 256 ∷ 256 ∷ 256 ∷ 256 ∷ 256 ∷ 256 ∷ 256 ∷ 256 ∷ 256 ∷ 256 ∷ 256 ∷ 256 ∷ 256 ∷ 256 ∷ 256 ∷ 256 ∷ 256 ∷ 256 ∷ 256 ∷ 256 ∷ 256 ∷ 256 ∷ 256 ∷ 256 ∷ 256 ∷ 256 ∷ 256 ∷ 256 ∷ 256 ∷ 256 ∷ 256 ∷ 256 ∷ 256 ∷ 256 ∷ 256 ∷ 256 ∷ 256 ∷ 256 ∷ 256 ∷ 256 ∷ 256 ∷ 256 ∷ 256 ∷ 256 ∷ 256 ∷ 256 ∷ 256 ∷ 256 ∷ 256 ∷ 256 ∷ 256 ∷ 256 ∷ 256 ∷ 256 ∷ 256 ∷ 256 ∷ 256 ∷ 256 ∷ 256 ∷ 256 ∷ 256 ∷ 256 ∷ 256 ∷ 256 ∷ 256 ∷ 256 ∷ 256 ∷ 256 ∷ 256 ∷ 256 ∷ 256 ∷ 256 ∷ 256 ∷ 256 ∷ 256 ∷ 256 ∷ 256 ∷ 256 ∷ 256 ∷ 256 ∷ 256 ∷ 256 ∷ 256 ∷ 256 ∷ 256 ∷ 256 ∷ 256 ∷ 256 ∷ 256 ∷ 256 ∷ 256 ∷ 256 ∷ 256 ∷ 256 ∷ 256 ∷ 256 ∷ 256 ∷ 256 ∷ 256 ∷ 256 ∷ 256 ∷ 256 ∷ 256 ∷ 256 ∷ 256 ∷ 256 ∷ 256 ∷ 256 ∷ 256 ∷ 256 ∷ 256 ∷ 256 ∷ 256 ∷ 256 ∷ 256 ∷ 256 ∷ 256 ∷ 256 ∷ 256 ∷ 256 ∷ 256 ∷ 256 ∷ 256 ∷ 256 ∷ 256 ∷ 256 ∷ 256 ∷ 256 ∷ 256 ∷ 256 ∷ 256 ∷ 256 ∷ 256 ∷ 256 ∷ 256 ∷ 256 ∷ 256 ∷ 256 ∷ 256 ∷ 256 ∷ 0 ∷ 1 ∷ 2 ∷ 3 ∷ 4 ∷ 5 ∷ 6 ∷ 7 ∷ 8 ∷ 9 ∷ 256 ∷ 256 ∷ 256 ∷ 256 ∷ 256 ∷ 256 ∷ 256 ∷ 10 ∷ 11 ∷ 12 ∷ 13 ∷ 14 ∷ 15 ∷ 256 ∷ 256 ∷ 256 ∷ 256 ∷ 256 ∷ 256 ∷ 256 ∷ 256 ∷ 256 ∷ 256 ∷ 256 ∷ 256 ∷ 256 ∷ 256 ∷ 256 ∷ 256 ∷ 256 ∷ 256 ∷ 256 ∷ 256 ∷ 256 ∷ 256 ∷ 256 ∷ 256 ∷ 256 ∷ 256 ∷ 256 ∷ 256 ∷ 256 ∷ 256 ∷ 256 ∷ 256 ∷ 256 ∷ 256 ∷ 256 ∷ 256 ∷ 256 ∷ 256 ∷ 256 ∷ 256 ∷ 256 ∷ 256 ∷ 256 ∷ 256 ∷ 256 ∷ 256 ∷ 256 ∷ 256 ∷ 256 ∷ 256 ∷ 256 ∷ 256 ∷ 256 ∷ 256 ∷ 256 ∷ 256 ∷ 256 ∷ 256 ∷ 256 ∷ 256 ∷ 256 ∷ 256 ∷ 256 ∷ 256 ∷ 256 ∷ 256 ∷ 256 ∷ 256 ∷ 256 ∷ 256 ∷ 256 ∷ 256 ∷ 256 ∷ 256 ∷ 256 ∷ 256 ∷ 256 ∷ 256 ∷ 256 ∷ 256 ∷ 256 ∷ 256 ∷ 256 ∷ 256 ∷ 256 ∷ 256 ∷ 256 ∷ 256 ∷ 256 ∷ 256 ∷ 256 ∷ 256 ∷ 256 ∷ 256 ∷ 256 ∷ 256 ∷ 256 ∷ 256 ∷ 256 ∷ 256 ∷ 256 ∷ 256 ∷ 256 ∷ 256 ∷ 256 ∷ 256 ∷ 256 ∷ 256 ∷ 256 ∷ 256 ∷ 256 ∷ 256 ∷ 256 ∷ 256 ∷ 256 ∷ 256 ∷ 256 ∷ 256 ∷ 256 ∷ 256 ∷ 256 ∷ 256 ∷ 256 ∷ 256 ∷ 256 ∷ 256 ∷ 256 ∷ 256 ∷ 256 ∷ 256 ∷ 256 ∷ 256 ∷ 256 ∷ 256 ∷ 256 ∷ 256 ∷ 256 ∷ 256 ∷ 256 ∷ 256 ∷ 256 ∷ 256 ∷ 256 ∷ 256 ∷ 256 ∷ 256 ∷ 256 ∷ 256 ∷ 256 ∷ 256 ∷ 256 ∷ 256 ∷ 256 ∷ 256 ∷ 256 ∷ 256 ∷ 256 ∷ 256 ∷ 256 ∷ 256 ∷ 256 ∷ 256 ∷ 256 ∷ 256 ∷ 256 ∷ 256 ∷ 256 ∷ 256 ∷ 256 ∷ 256 ∷ 256 ∷ 256 ∷ 256 ∷ 256 ∷ 256 ∷ 256 ∷ 256 ∷ 256 ∷ 256 ∷ 256 ∷ 256 ∷ 256 ∷ 256 ∷ 256 ∷ 256 ∷ []

agree : (ℕ → ℕ) → List ℕ → Bool
agree value [] = true
agree value (v ∷ vs) = eqb v (value 0) && agree (λ n. value (suc n)) vs

agree_at : (value : ℕ → ℕ) (vs : List ℕ) (i : ℕ) → agree value vs ≡ true → i < length vs → get_or vs i 0 ≡ value i
unfolding agree
agree_at value [] i all within = absurd (omega arith)
agree_at value (v ∷ vs) zero all within = eqb-true v (value 0) (and_parts (eqb v (value 0)) (agree (λ n. value (suc n)) vs) all).0
agree_at value (v ∷ vs) (suc i) all within = agree_at (λ n. value (suc n)) vs i (and_parts (eqb v (value 0)) (agree (λ n. value (suc n)) vs) all).1 (omega arith)

-- what stands at a place of the table
at : ℕ → ℕ
unfolding value_of
at i = cond (ltb i 256) (value_of 16 i) (value_of 1 (i - 256))

table-at : (i : ℕ) → i < 512 → get_or digits i 0 ≡ at i
unfolding agree at value_of is_digit digit
table-at i within = agree_at at digits i refl within

-- what a character counts stands in the table, whether it is the high or the low digit of a byte
pub looked-high : (c : ℕ) → c < 256 → get_or digits c 0 ≡ value_of 16 c
unfolding at
looked-high c h = table-at c (omega arith) ∙ ap (λ (b : Bool). cond b (value_of 16 c) (value_of 1 (c - 256))) (lt-ltb c 256 h)

pub looked-low : (c : ℕ) → c < 256 → get_or digits (256 + c) 0 ≡ value_of 1 c
unfolding at
looked-low c h =
    let e : 256 + c - 256 ≡ c = omega arith in
    table-at (256 + c) (omega arith) ∙ ap (λ (b : Bool). cond b (value_of 16 (256 + c)) (value_of 1 (256 + c - 256))) (le-ltb (256 + c) 256 (omega arith)) ∙ ap (value_of 1) e

-- a digit's value is below 16
digit-below : (c : ℕ) → is_digit c ≡ true → digit c < 16
unfolding digit
digit-below c e = on (leb c 57) refl
  where
    on : (b : Bool) → leb c 57 ≡ b → cond b (c - 48) (c - 55) < 16
    on true h = let l = leb-true c 57 h in omega arith
    on false h = let r = digit-range c e in omega (arith, r.0, r.1)

pub small-high : (c : ℕ) → value_of 16 c ≤ 256
unfolding value_of
small-high c = on (is_digit c) refl
  where
    on : (b : Bool) → is_digit c ≡ b → cond b (digit c * 16) 256 ≤ 256
    on true e = let l = digit-below c e in omega arith
    on false e = omega arith

pub small-low : (c : ℕ) → value_of 1 c ≤ 256
unfolding value_of
small-low c = on (is_digit c) refl
  where
    on : (b : Bool) → is_digit c ≡ b → cond b (digit c * 1) 256 ≤ 256
    on true e = let l = digit-below c e in omega arith
    on false e = omega arith

-- two digits alone count less than 256 together
pub spelt : (c d : ℕ) → byte_of c d ≡ cond (ltb (value_of 16 c + value_of 1 d) 256) (Some (value_of 16 c + value_of 1 d)) None
unfolding byte_of value_of
spelt c d = on (is_digit c) (is_digit d) refl refl
  where
    on : (a b : Bool) → is_digit c ≡ a → is_digit d ≡ b → elim (a && b) [ true ↦ Some (digit c * 16 + digit d) | false ↦ None ]
        ≡ cond (ltb (cond a (digit c * 16) 256 + cond b (digit d * 1) 256) 256) (Some (cond a (digit c * 16) 256 + cond b (digit d * 1) 256)) None
    on true true p q =
        let h = digit-below c p in
        let l = digit-below d q in
        let one : digit d * 1 ≡ digit d = omega arith in
        rw (one, lt-ltb (digit c * 16 + digit d) 256 (omega arith))
    on true false p q = rw (le-ltb (digit c * 16 + 256) 256 (omega arith))
    on false true p q = rw (le-ltb (256 + digit d * 1) 256 (omega arith))
    on false false p q = refl

-- what two characters spell: a byte where both are digits, and none otherwise
pub byte-got : (c d : ℕ) → is_digit c ≡ true → is_digit d ≡ true → byte_of c d ≡ Some (digit c * 16 + digit d)
unfolding byte_of
byte-got c d p q = rw (byte_of, p, q)

pub byte-lacks : (c d : ℕ) → is_digit c && is_digit d ≡ false → byte_of c d ≡ None
unfolding byte_of
byte-lacks c d p = rw (byte_of, p)
