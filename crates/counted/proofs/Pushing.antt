-- One item more takes the first of the free places, and leaves the filler in the others.
-- Assumes nothing.
use Rattle.std.proofs.Common.{ℕ, ◌+◌, ◌-◌, ◌<◌, ◌≡◌, List, length, take, drop, replicate, arith, ap, sym, ◌∙◌, length-set, drop-set-lt, drop-drop, set}
use Rattle.std.proofs.lemmas.List.{drop-replicate}
use Rattle.counted.specs.Filled.{IsFilled, count-front}

module _ {A : Type 0} (n : ℕ) (z : A) (k : ℕ) (places : List A) where
  pub pushed : (x : A) → IsFilled n z k places → length (take k places) < n → IsFilled n z (k + 1) (set places k x)
  pushed x h room =
      let c : length (take k places) ≡ k = count-front n z k places h in
      let below : k < n = omega (arith, c, room) in
      let e : (n - k) - 1 ≡ n - (k + 1) = omega (arith, below) in
      record {
        within = omega (arith, below);
        all = length-set places k x ∙ h.all;
        free =
            drop-set-lt (k + 1) places k x (omega arith) ∙ sym (drop-drop 1 k places) ∙ ap (drop 1) h.free ∙ drop-replicate 1 (n - k) z ∙ ap (λ (j : ℕ). replicate j z) e;
      }
