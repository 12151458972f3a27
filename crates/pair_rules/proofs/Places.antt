-- A search that finds nothing, and one whose test passes nowhere.
-- Assumes nothing.
use Rattle.std.proofs.Common.{◌≡◌, refl, ℕ, ◌<◌, ◌≤◌, Bool, false, Option, Some, None, is_some, true≢false, arith}
use Rattle.std.proofs.Math.Option as M
use Rattle.meaning.specs.Lists.{Place, first_place}
use Rattle.meaning.proofs.Bools.{fails-false, false-fails}
use Rattle.meaning.proofs.Search.{first_place_sound, first_place_complete}
use Rattle.search.specs.Pairs.{pair_of}
use Rattle.pair_rules.specs.Judged.{AreSmall}

-- a test that passes nowhere finds nothing
pub nowhere : (n : ℕ) (f : ℕ → ℕ → Bool) → ((a b : ℕ) → a < n → b < n → f a b ≡ false) → first_place n (λ _. n) f ≡ M.none
nowhere n f h = on (first_place n (λ _. n) f) refl
  where
    on : (x : M.Option Place) → first_place n (λ _. n) f ≡ x → x ≡ M.none
    on M.none e = refl
    on (M.some p) e = let w = first_place_sound n (λ _. n) f p e in absurd (false-fails _ (h p.first p.second w.first w.second) w.passes)

pub nowhere_found : (n : ℕ) (f : ℕ → ℕ → Bool) → ((a b : ℕ) → a < n → b < n → f a b ≡ false) → is_some (pair_of (first_place n (λ _. n) f)) ≡ false
nowhere_found n f h = rw (nowhere n f h) refl

no_pair : (x : M.Option Place) → pair_of x ≡ None → x ≡ M.none
no_pair M.none e = refl
no_pair (M.some p) e = absurd (grind arith)

-- and where nothing is found, it passes nowhere
pub found_nowhere : (n : ℕ) (f : ℕ → ℕ → Bool) → pair_of (first_place n (λ _. n) f) ≡ None → (a b : ℕ) → a < n → b < n → f a b ≡ false
found_nowhere n f e a b h l = fails-false (f a b) (first_place_complete n (λ _. n) f (no_pair _ e) a b h l)

-- the places that are found are below the count
pub found_small : (n : ℕ) (f : ℕ → ℕ → Bool) → n ≤ 256 → AreSmall (pair_of (first_place n (λ _. n) f))
found_small n f few = on (first_place n (λ _. n) f) refl
  where
    on : (x : M.Option Place) → first_place n (λ _. n) f ≡ x → AreSmall (pair_of x)
    on M.none e = tt
    on (M.some p) e = let w = first_place_sound n (λ _. n) f p e in (omega (arith, w.first), omega (arith, w.second))

pub is_none_of : {A : Type 0} (x : Option A) → is_some x ≡ false → x ≡ None
is_none_of None e = refl
is_none_of (Some y) e = absurd (true≢false e)
