-- Rows made bit by bit and row by row: what they say of each bit.
-- Assumes nothing.
use Prim.Native.Nat.{ℕ, suc, ◌<◌}
use native.Mathlib.Nat.{eq-or-lt_of_le, le_of_suc-le-suc}
use native.Mathlib.Omega.{arith}
use mathlib.Core.Path.{◌≡◌}
use mathlib.Core.Logic.{◌⊎◌, inl, inr, ⊎_elim}
use mathlib.Core.List.{List}
use lib.Dec.{T}
use lib.ListN.{replicate}
use Rattle.meaning.proofs.Bools.{false-fails, Decides, decides_test, decides-as, decides_eq, decides_and, decides_or}
use Rattle.relation.specs.Bit.{bit}
use Rattle.relation.specs.Rows.{row_bit, add_bit, join_from}
use Rattle.relation.proofs.BitLaws.{bit-zero}
use Rattle.relation.proofs.RowLaws.{Sized, zeros-at, zeros-sized, add_row, add-sized, join_row_lem, join-sized}

-- the rows, n of w bits, stand for A
pub record Says (w n : ℕ) (A : ℕ → ℕ → Type 0) (rs : List ℕ) : Type 0 where
  pub sized : Sized w n rs
  pub says : (x y : ℕ) → Decides (row_bit rs x y) (A x y)

pub no_rows : (w n : ℕ) {A : ℕ → ℕ → Type 0} → ((x y : ℕ) → A x y → ⊥) → Says w n A (replicate n 0)
no_rows w n none =
    record {
      sized = zeros-sized w n;
      says = λ x y. record { sound = λ t. absurd (false-fails (bit 0 y) (bit-zero y) (rw (zeros-at n x) at t)); complete = λ p. absurd (none x y p) };
    }

module _ {w n : ℕ} {A : ℕ → ℕ → Type 0} {rs : List ℕ} (s : Says w n A rs) where
  pub one_more : (a b : ℕ) → a < n → b < w → Says w n (λ x y. A x y ⊎ ((x ≡ a) × (y ≡ b))) (add_bit a b rs)
  one_more a b h l =
      record {
        sized = add-sized w n a b rs h l s.sized;
        says = λ x y. rw (add_row rs a b (omega (arith, s.sized.long)) x y) (decides_or (s.says x y) (decides_and (decides_eq x a) (decides_eq y b)));
      }

  pub row_more : (xs : List ℕ) → Sized w n xs → (a e : ℕ) → a < n → e < n → Says w n (λ x y. A x y ⊎ ((x ≡ a) × T (row_bit xs e y))) (join_from xs a e rs)
  row_more xs z a e h l =
      record {
        sized = join-sized w n xs a e rs h l z s.sized;
        says = λ x y. rw (join_row_lem rs xs a e (omega (arith, s.sized.long)) x y) (decides_or (s.says x y) (decides_and (decides_eq x a) (decides_test (row_bit xs e y))));
      }

  -- the same rows in other words
  pub in_words : {B : ℕ → ℕ → Type 0} → ((x y : ℕ) → A x y → B x y) → ((x y : ℕ) → B x y → A x y) → Says w n B rs
  in_words f g = record { sized = s.sized; says = λ x y. decides-as (s.says x y) (f x y) (g x y) }

-- one number more, where each turn adds what it says of that number
pub next : (A : ℕ → Type 0) {n x : ℕ} → ((x < n) × A x) ⊎ ((x ≡ n) × A n) → (x < suc n) × A x
next A (inl p) = (omega (arith, p.0), p.1)
next A (inr p) = (omega (arith, p.0), rw p.0 p.1)

pub last : (A : ℕ → Type 0) {n x : ℕ} → (x < suc n) × A x → ((x < n) × A x) ⊎ ((x ≡ n) × A n)
last A p = ⊎_elim (λ e. inr (e, rw (← e) p.1)) (λ l. inl (l, p.1)) (eq-or-lt_of_le (le_of_suc-le-suc p.0))
