-- The few list functions and searches that the definitions are written with: one of each.
-- Assumes nothing.
use Rattle.std.specs.Prelude.{ℕ, zero, suc, Bool, true, false, ◌&&◌, ◌||◌, eqb}
use Rattle.std.proofs.Math.Option.{Option, none, some}
use mathlib.Core.List.{List, [], ◌∷◌, Memᴰ}

-- x is an element of xs
abbrev pub In {ℓ} : {A : Type ℓ} → A → List A → Type ℓ
In x xs = Memᴰ x xs

-- some element passes the test; all of them do
unfoldable pub any : {A : Type 0} → (A → Bool) → List A → Bool
any f [] = false
any f (x ∷ xs) = f x || any f xs

unfoldable pub all : {A : Type 0} → (A → Bool) → List A → Bool
all f [] = true
all f (x ∷ xs) = f x && all f xs

unfoldable pub member : ℕ → List ℕ → Bool
unfolding any
member x xs = any (eqb x) xs

-- the first element that passes the test
unfoldable pub first : {A : Type 0} → (A → Bool) → List A → Option A
first f [] = none
first f (x ∷ xs) = elim (f x) [ true ↦ some x | false ↦ first f xs ]

-- some number below n passes the test
unfoldable pub any_below : ℕ → (ℕ → Bool) → Bool
any_below zero f = false
any_below (suc n) f = any_below n f || f n

-- the first answer of f at 0, 1, .., n - 1
unfoldable pub first_up : {A : Type 0} → ℕ → (ℕ → Option A) → Option A
first_up zero f = none
first_up (suc n) f = elim (first_up n f) [ none ↦ f n | some a ↦ some a ]

-- two places, as an answer names them
pub record Place : Type 0 where
  pub first : ℕ
  pub second : ℕ

abbrev pub placed : ℕ → ℕ → Bool → Option Place
placed a b true = some (record { first = a; second = b })
placed a b false = none

-- the first place that passes the test, in rising order: first places below n, and second ones below m a beside the first place a
unfoldable pub first_in : (ℕ → ℕ) → (ℕ → ℕ → Bool) → ℕ → Option Place
unfolding first_up
first_in m test a = first_up (m a) (λ (b : ℕ). placed a b (test a b))

unfoldable pub first_place : ℕ → (ℕ → ℕ) → (ℕ → ℕ → Bool) → Option Place
unfolding first_up first_in
first_place n m test = first_up n (first_in m test)
