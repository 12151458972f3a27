-- The bytes of a frame as the code keeps them: from a place on, and those that are counted.
-- Assumes nothing.
use Rattle.std.proofs.Common.{◌≡◌, ℕ, zero, suc, ◌+◌, ◌≤◌, List, [], ◌∷◌, length, take, drop, get_or, refl, sym, ap, ap₂, ◌∙◌, arith}
use Rattle.text.specs.declared.frame.Frame.{Frame}
use Rattle.text.specs.Frames.{first_bytes, pack_frame}
use Rattle.text.proofs.Packed.{first-at, first-take}
use Rattle.package.specs.Judging.{at}

pub first-drop : (n d : ℕ) (f : List ℕ) → first_bytes (suc n) (drop d f) ≡ get_or f d 0 ∷ first_bytes n (drop (suc d) f)
unfolding first_bytes
first-drop n zero [] = refl
first-drop n zero (b ∷ f) = refl
first-drop n (suc d) [] = refl
first-drop n (suc d) (b ∷ f) = first-drop n d f

-- n bytes of a frame from the place d
unfoldable pub row : Frame → ℕ → ℕ → List ℕ
row f zero d = []
row f (suc n) d = at f d ∷ row f n (suc d)

pub row_first : (f : List ℕ) (n d : ℕ) → d + n ≤ 16 → first_bytes n (drop d f) ≡ row (pack_frame f) n d
unfolding first_bytes row
row_first f zero d h = refl
row_first f (suc n) d h = first-drop n d f ∙ ap₂ (λ (x : ℕ) (t : List ℕ). x ∷ t) (sym (first-at 16 f d (omega (arith, h)))) (row_first f n (suc d) (omega (arith, h)))

-- the counted bytes behind the place d
pub row-taken : (f : List ℕ) (n d k : ℕ) → d + n ≤ 16 → length (drop d f) ≡ k → k ≤ n → take k (row (pack_frame f) n d) ≡ drop d f
row-taken f n d k h e l = ap (take k) (sym (row_first f n d h)) ∙ rw (← e) (first-take n (drop d f) (rw e l))

pub first-counted : (n d k : ℕ) (f : List ℕ) → length f ≡ d + k → d + k ≤ n → take k (drop d (first_bytes n f)) ≡ drop d f
unfolding first_bytes
first-counted n zero k f e h = let z : length f ≡ k = omega (arith, e) in rw (← z) (first-take n f (omega (arith, e, h)))
first-counted n (suc d) k [] e h = absurd (omega (arith, e))
first-counted zero (suc d) k (b ∷ f) e h = absurd (omega (arith, h))
first-counted (suc n) (suc d) k (b ∷ f) e h = first-counted n d k f (omega (arith, e)) (omega (arith, h))
