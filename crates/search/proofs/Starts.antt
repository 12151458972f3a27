-- Where the chains start, handed on from each place to the next of its key.
-- Assumes nothing.
use Rattle.std.proofs.Common.{◌≡◌, ◌≢◌, ℕ, ◌+◌, ◌≤◌, ◌<◌, List, length, get_or, set, refl, sym, ap, ◌∙◌, inl, inr, ◌⊎◌, eq-or-lt_of_le, get_or-set_same, get_or-set_other, arith}
use native.Mathlib.Decide.{ℕ_discrete, dec_lt}
use Rattle.search.specs.Keys.{FirstFrom, StartOf, OwnStart, IsStarted}

-- a place of the same key starts alike
start_alike : (keys : List ℕ) (n a b r : ℕ) → get_or keys b 0 ≡ get_or keys a 0 → StartOf keys n a r → StartOf keys n b r
start_alike keys n a b r e w = record { none = λ z. w.none (sym e ∙ z); some = λ f. rw e (w.some (λ z. f (e ∙ z))) }

pub own_started : {keys starts : List ℕ} {n i : ℕ} → n ≤ i → ((a : ℕ) → a < i → OwnStart keys n a (get_or starts a 0)) → IsStarted keys n 0 starts
own_started {keys} {starts} {n} {i} h w = record { at = λ a l f. let q = w a (omega arith) in record { none = q.none; some = λ z. rw (q.some z) (record { up = omega arith; most = omega arith; hit = λ _. refl; skips = f }) } }

module _ {keys starts : List ℕ} {n a r : ℕ} (long : length starts ≡ 256) (h : a < n) (few : n ≤ 256) (w : FirstFrom keys n (a + 1) (get_or keys a 0) r) (s : IsStarted keys n a starts) where
  -- the next place of the key of a is the only one that waits for a
  unmoved : (b : ℕ) → b < n → b ≢ r → ((i : ℕ) → a + 1 ≤ i → i < b → get_or keys i 0 ≢ get_or keys b 0) → StartOf keys n b (get_or starts b 0)
  unmoved b l f g = s.at b l (λ i k m e. on i m e (eq-or-lt_of_le k))
    where
      on : (i : ℕ) → i < b → get_or keys i 0 ≡ get_or keys b 0 → (a ≡ i) ⊎ (a < i) → ⊥
      on i m e (inr k) = g i (omega arith) m e
      on i m e (inl q) = late (dec_lt r b) (dec_lt b r)
        where
          same : get_or keys a 0 ≡ get_or keys b 0
          same = ap (λ (x : ℕ). get_or keys x 0) q ∙ e

          late : Dec (r < b) → Dec (b < r) → ⊥
          late (yes k) _ = g r w.up k (w.hit (omega arith) ∙ same)
          late (no _) (yes k) = w.skips b (omega arith) k (sym same)
          late (no x) (no y) = f (omega arith)

  pub started_next : r < n → IsStarted keys n (a + 1) (set starts r (get_or starts a 0))
  started_next k = record { at = λ b l g. on b l g (ℕ_discrete b r) }
    where
      here : StartOf keys n a (get_or starts a 0)
      here = s.at a h (λ i x y. absurd (omega arith))

      on : (b : ℕ) → b < n → ((i : ℕ) → a + 1 ≤ i → i < b → get_or keys i 0 ≢ get_or keys b 0) → Dec (b ≡ r) → StartOf keys n b (get_or (set starts r (get_or starts a 0)) b 0)
      on b l g (yes e) = rw (e, get_or-set_same starts r (get_or starts a 0) 0 (omega (arith, long))) (start_alike keys n a r (get_or starts a 0) (w.hit k) here)
      on b l g (no f) = rw (get_or-set_other starts r b (get_or starts a 0) 0 f) (unmoved b l f g)

  pub started_last : n ≤ r → IsStarted keys n (a + 1) starts
  started_last k = record { at = λ b l g. unmoved b l (λ e. absurd (omega arith)) g }

pub started_all : {keys starts : List ℕ} {n i : ℕ} → n ≤ i → IsStarted keys n i starts → (a : ℕ) → a < n → StartOf keys n a (get_or starts a 0)
started_all h s a l = s.at a l (λ i x y. absurd (omega arith))
