-- The laws of `bit`: of a masked shift, of `|`, `&` and `1 << k`; and a number is fixed by its bits.
-- Assumes nothing.
use Prim.Native.Nat.{ℕ, zero, suc, ◌+◌, ◌*◌, ◌/◌, ◌%◌, ◌^◌, ◌≤◌, suc-le-suc, ◌<◌, max, min}
use mathlib.Core.Path.{◌≡◌, refl, sym, ap, ap₂, ◌∙◌}
use mathlib.Core.Bool.{Bool, true, false, true≢false, ◌&&◌, ◌||◌, cond}
use native.Mathlib.Nat.{le_refl, div-add-mod', two-pow-succ, mod-lt, one-mul, div-one, mod-eq_of_lt, div-eq_of_lt, zero-lt-suc, zero-add}
use native.Mathlib.Numerals.{one-add, add-one}
use native.Mathlib.Decide.{ℕ_discrete, dec_lt}
use native.Mathlib.Omega.{arith}
use lib.Dec.{eqb, ltb, eqb-zero-suc, eqb-suc-suc, eqb-suc-zero, lit<}
use lib.Arith.{digits_mod}
use lib.Pow.{shr-shr, shr_lt, pow-lt, pow_pos, pow_mono}
use lib.Bits.{bit_or, bit_and, and_mask, or_shr, or_step, and_shr, and_step, or_shifted, shifted_half, shifted_even}
use borrow.Author.Tests.{lt-ltb, le-ltb, eq-eqb, ne_eqb}
use Rattle.relation.specs.Bit.{bit, number}

two_pos : zero < 2
two_pos = zero-lt-suc 1

-- `(x >> d) & 1 == 1`
pub bit_masked : (x d : ℕ) → eqb (bit_and (x / 2 ^ d) 1) 1 ≡ bit x d
unfolding bit
bit_masked x d = ap (λ (y : ℕ). eqb y 1) (and_mask (x / 2 ^ d) 1)

-- two digits are 0 or 1 each
digits : (Q : ℕ → ℕ → Type 0) → Q 0 0 → Q 0 1 → Q 1 0 → Q 1 1 → (p q : ℕ) → p < 2 → q < 2 → Q p q
digits Q a b c d zero zero hp hq = a
digits Q a b c d zero (suc zero) hp hq = b
digits Q a b c d (suc zero) zero hp hq = c
digits Q a b c d (suc zero) (suc zero) hp hq = d
digits Q a b c d zero (suc (suc q)) hp hq = absurd (omega arith)
digits Q a b c d (suc zero) (suc (suc q)) hp hq = absurd (omega arith)
digits Q a b c d (suc (suc p)) q hp hq = absurd (omega arith)

-- the greater is their `|`, the less their `&`
digit_or : (p q : ℕ) → p < 2 → q < 2 → (max p q < 2) × (eqb (max p q) 1 ≡ (eqb p 1 || eqb q 1))
digit_or = digits (λ p q. (max p q < 2) × (eqb (max p q) 1 ≡ (eqb p 1 || eqb q 1))) (lit< tt, refl) (lit< tt, refl) (lit< tt, refl) (lit< tt, refl)

digit_and : (p q : ℕ) → p < 2 → q < 2 → (min p q < 2) × (eqb (min p q) 1 ≡ (eqb p 1 && eqb q 1))
digit_and = digits (λ p q. (min p q < 2) × (eqb (min p q) 1 ≡ (eqb p 1 && eqb q 1))) (lit< tt, refl) (lit< tt, refl) (lit< tt, refl) (lit< tt, refl)

-- an operation on digits (op on numbers, dig on digits, on on Bools) is one on bits
module _ (op dig : ℕ → ℕ → ℕ) (on : Bool → Bool → Bool)
    (digit : (p q : ℕ) → p < 2 → q < 2 → (dig p q < 2) × (eqb (dig p q) 1 ≡ on (eqb p 1) (eqb q 1)))
    (shr : (a b k : ℕ) → op a b / 2 ^ k ≡ op (a / 2 ^ k) (b / 2 ^ k))
    (step : (a b : ℕ) → op a b ≡ op (a / 2) (b / 2) * 2 + dig (a % 2) (b % 2)) where
  bit-op : (a b d : ℕ) → bit (op a b) d ≡ on (bit a d) (bit b d)
  unfolding bit
  bit-op a b d =
      let x = a / 2 ^ d in
      let y = b / 2 ^ d in
      let m = digit (x % 2) (y % 2) (mod-lt x two_pos) (mod-lt y two_pos) in
      ap (λ (z : ℕ). eqb (z % 2) 1) (shr a b d ∙ step x y)
      ∙ ap (λ (z : ℕ). eqb z 1) (digits_mod (op (x / 2) (y / 2)) m.0) ∙ m.1

pub bit_or_lem : (a b d : ℕ) → bit (bit_or a b) d ≡ (bit a d || bit b d)
bit_or_lem = bit-op bit_or max ◌||◌ digit_or or_shr or_step

pub bit_and_lem : (a b d : ℕ) → bit (bit_and a b) d ≡ (bit a d && bit b d)
bit_and_lem = bit-op bit_and min ◌&&◌ digit_and and_shr and_step

-- one place up is one digit less
bit-suc : (x d : ℕ) → bit x (suc d) ≡ bit (x / 2) d
unfolding bit
bit-suc x d = ap (λ (k : ℕ). eqb (x / 2 ^ k % 2) 1) (sym (one-add d)) ∙ ap (λ (z : ℕ). eqb (z % 2) 1) (sym (shr-shr x 1 d))

pub bit_high : {w : ℕ} (x d : ℕ) → x < 2 ^ w → w ≤ d → bit x d ≡ false
unfolding bit
bit_high x d h l = ap (λ (z : ℕ). eqb (z % 2) 1) (div-eq_of_lt {n = x} {m = 2 ^ d} (omega (arith, pow_mono l)))

pub bit-zero : (d : ℕ) → bit 0 d ≡ false
unfolding bit
bit-zero d = ap (λ (z : ℕ). eqb (z % 2) 1) (div-eq_of_lt (pow_pos d))

-- `1 << k`
pub bit-pow : (k d : ℕ) → bit (2 ^ k) d ≡ eqb k d
unfolding bit
bit-pow zero zero = refl
bit-pow zero (suc d) = bit-suc 1 d ∙ bit-zero d ∙ sym (eqb-zero-suc d)
bit-pow (suc k) zero =
    ap (λ (z : ℕ). eqb (z % 2) 1) (div-one (2 ^ suc k) ∙ sym (one-mul (2 ^ suc k)))
    ∙ ap (λ (z : ℕ). eqb z 1) (shifted_even 1 k) ∙ sym (eqb-suc-zero k)
bit-pow (suc k) (suc d) =
    bit-suc (2 ^ suc k) d
    ∙ ap (λ (z : ℕ). bit z d) (ap (λ (z : ℕ). z / 2) (sym (one-mul (2 ^ suc k))) ∙ shifted_half 1 k ∙ one-mul (2 ^ k))
    ∙ bit-pow k d ∙ sym (eqb-suc-suc k d)

-- `1 << k` on w bits
pub one_shl : (w k : ℕ) → k < w → (1 * 2 ^ k) % 2 ^ w ≡ 2 ^ k
one_shl w k h = ap (λ (z : ℕ). z % 2 ^ w) (one-mul (2 ^ k)) ∙ mod-eq_of_lt (pow-lt h)

-- ---- a number is fixed by its bits

digit-fixed : (p q : ℕ) → p < 2 → q < 2 → eqb p 1 ≡ eqb q 1 → p ≡ q
digit-fixed = digits (λ p q. eqb p 1 ≡ eqb q 1 → p ≡ q) (λ e. refl) (λ e. absurd (true≢false (sym e))) (λ e. absurd (true≢false e)) (λ e. refl)

half_lt : (w z : ℕ) → z < 2 ^ suc w → z / 2 < 2 ^ w
half_lt w z h = shr_lt w 1 (rw (add-one w) h)

lowest : (z : ℕ) → bit z 0 ≡ eqb (z % 2) 1
unfolding bit
lowest z = ap (λ (q : ℕ). eqb (q % 2) 1) (div-one z)

pub fixed : (w x y : ℕ) → x < 2 ^ w → y < 2 ^ w → ((d : ℕ) → d < w → bit x d ≡ bit y d) → x ≡ y
fixed zero x y hx hy same = omega arith
fixed (suc w) x y hx hy same =
    sym (div-add-mod' x 2)
    ∙ ap₂ (λ (h l : ℕ). h * 2 + l)
    (fixed w (x / 2) (y / 2) (half_lt w x hx) (half_lt w y hy) (λ d h. sym (bit-suc x d) ∙ same (suc d) (suc-le-suc h) ∙ bit-suc y d))
    (digit-fixed (x % 2) (y % 2) (mod-lt x two_pos) (mod-lt y two_pos) (sym (lowest x) ∙ same 0 (zero-lt-suc w) ∙ lowest y))
    ∙ div-add-mod' y 2

pub number_lt : (n : ℕ) (f : ℕ → Bool) → number n f < 2 ^ n
unfolding number
number_lt zero f = lit< tt
number_lt (suc n) f = on (f n) (number_lt n f)
  where
    on : (b : Bool) → number n f < 2 ^ n → cond b (2 ^ n) 0 + number n f < 2 ^ suc n
    on true h = omega (arith, two-pow-succ n)
    on false h = omega (arith, two-pow-succ n)

-- the digit that `number` puts in front
in-front : (n r : ℕ) (b : Bool) (d : ℕ) → r < 2 ^ n → bit (cond b (2 ^ n) 0 + r) d ≡ ((b && eqb n d) || bit r d)
in-front n r true d h =
    ap (λ (z : ℕ). bit z d) (sym (ap (λ (z : ℕ). bit_or z r) (sym (one-mul (2 ^ n))) ∙ or_shifted 1 n r h ∙ ap (λ (z : ℕ). z + r) (one-mul (2 ^ n))))
    ∙ bit_or_lem (2 ^ n) r d ∙ ap (λ (b : Bool). b || bit r d) (bit-pow n d)
in-front n r false d h = ap (λ (z : ℕ). bit z d) (zero-add r)

pub bit-number : (n : ℕ) (f : ℕ → Bool) (d : ℕ) → bit (number n f) d ≡ (ltb d n && f d)
unfolding number
bit-number zero f d = bit-zero d ∙ sym (rw (le-ltb d 0 (omega arith)))
bit-number (suc n) f d = in-front n (number n f) (f n) d (number_lt n f) ∙ ap (λ (b : Bool). (f n && eqb n d) || b) (bit-number n f d) ∙ on (ℕ_discrete d n) (dec_lt d n)
  where
    keeps : (b : Bool) → ((b && true) || false) ≡ b
    keeps true = refl
    keeps false = refl

    drops : (b c : Bool) → ((b && false) || c) ≡ c
    drops true c = refl
    drops false c = refl

    on : Dec (d ≡ n) → Dec (d < n) → ((f n && eqb n d) || (ltb d n && f d)) ≡ (ltb d (suc n) && f d)
    on (yes e) l = rw (e, eq-eqb n n refl, le-ltb n n (le_refl n), lt-ltb n (suc n) (le_refl (suc n))) (keeps (f n))
    on (no u) (yes l) = rw (ne_eqb n d (λ e. u (sym e)), lt-ltb d n l, lt-ltb d (suc n) (omega arith)) (drops (f n) (f d))
    on (no u) (no l) = rw (ne_eqb n d (λ e. u (sym e)), le-ltb d n (omega arith), le-ltb d (suc n) (omega arith)) (drops (f n) false)

-- a number that is not 0 has a bit
pub some-bit : (w x : ℕ) → x < 2 ^ w → (x ≡ 0 → ⊥) → (d : ℕ) × (d < w) × (bit x d ≡ true)
some-bit zero x h n = absurd (n (omega arith))
some-bit (suc w) x h n = on (ℕ_discrete (x % 2) 1) (λ u. some-bit w (x / 2) (half_lt w x h) u)
  where
    on : Dec (x % 2 ≡ 1) → ((x / 2 ≡ 0 → ⊥) → (d : ℕ) × (d < w) × (bit (x / 2) d ≡ true)) → (d : ℕ) × (d < suc w) × (bit x d ≡ true)
    on (yes e) rest = (0, zero-lt-suc w, lowest x ∙ eq-eqb (x % 2) 1 e)
    on (no u) rest = let r = rest (λ e. n (omega arith)) in (suc r.0, suc-le-suc r.1, bit-suc x r.0 ∙ r.2)
