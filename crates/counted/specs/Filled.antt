-- The places of an array with a count: the items, and the filler behind them.
-- Assumes nothing.
use Rattle.std.specs.Prelude.{ℕ, ◌-◌, ◌≡◌, ◌≤◌, List, ◌++◌, length, take, drop, replicate}
use Rattle.std.proofs.Common.{arith, ap, sym, ◌∙◌, take-append-drop, length-take-le}

-- xs, and as many z behind it as make n places
abbrev pub pad : {A : Type 0} → ℕ → A → List A → List A
pad n z xs = xs ++ replicate (n - length xs) z

-- n places, of which the first k hold items, and each other one holds z
pub record IsFilled {A : Type 0} (n : ℕ) (z : A) (k : ℕ) (places : List A) : Type 0 where
  pub within : k ≤ n
  pub all : length places ≡ n
  pub free : drop k places ≡ replicate (n - k) z

-- the items say how many they are, and what each place holds
module _ {A : Type 0} (n : ℕ) (z : A) (k : ℕ) (places : List A) where
  pub count-front : IsFilled n z k places → length (take k places) ≡ k
  count-front h = length-take-le k places (omega (arith, h.within, h.all))

  pub pad-front : IsFilled n z k places → pad n z (take k places) ≡ places
  pad-front h =
      ap (λ (j : ℕ). take k places ++ replicate (n - j) z) (count-front h) ∙ ap (λ (t : List A). take k places ++ t) (sym h.free) ∙ take-append-drop k places
