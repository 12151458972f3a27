-- The next place of a key, found among the places of its low byte: how `nearest` links them from the last on, and how `next_of` walks along.
-- Assumes nothing.
use Rattle.std.proofs.Common.{◌≡◌, ◌≢◌, ℕ, ◌+◌, ◌%◌, ◌≤◌, ◌<◌, List, map, length, get_or, set, replicate, sym, ap, ◌∙◌, inl, inr, ◌⊎◌, le_refl, eq-or-lt_of_le, length-set, get_or-set_same, get_or-set_other, arith}
use native.Mathlib.Decide.{ℕ_discrete, dec_lt}
use lib.ListN.{length-replicate, get_or-replicate, get_or-map}
use Rattle.search.specs.Keys.{FirstFrom, IsNearest}

abbrev pub lows : List ℕ → List ℕ
lows keys = map (λ (k : ℕ). k % 256) keys

low-at : (keys : List ℕ) (i : ℕ) → get_or (lows keys) i 0 ≡ get_or keys i 0 % 256
low-at keys i = get_or-map (λ (k : ℕ). k % 256) keys i 0

-- ---- linked from the last place on

-- of the places from i on: the first of each low byte, and the next behind each
pub record AreLinked (keys : List ℕ) (n i : ℕ) (heads near : List ℕ) : Type 0 where
  pub few : i ≤ n
  pub heads_length : length heads ≡ 256
  pub near_length : length near ≡ 256
  pub first : (g : ℕ) → g < 256 → FirstFrom (lows keys) n i g (get_or heads g 0)
  pub next : (a : ℕ) → i ≤ a → a < n → FirstFrom (lows keys) n (a + 1) (get_or keys a 0 % 256) (get_or near a 0)

pub linked_none : (keys : List ℕ) (n : ℕ) → AreLinked keys n n (replicate 256 n) (replicate 256 0)
linked_none keys n =
    record {
      few = le_refl n;
      heads_length = length-replicate {A = ℕ} 256 n;
      near_length = length-replicate {A = ℕ} 256 0;
      first = λ g l. rw (get_or-replicate 256 g n 0 l) (record { up = le_refl n; most = le_refl n; hit = λ k. absurd (omega arith); skips = λ i x y. absurd (omega arith) });
      next = λ a x y. absurd (omega arith);
    }

module _ {keys heads near : List ℕ} {n i j : ℕ} (e : i ≡ j + 1) (h : j < n) (few : n ≤ 256) (w : AreLinked keys n i heads near) where
  abbrev low : ℕ
  low = get_or keys j 0 % 256

  first_more : (g : ℕ) → g < 256 → Dec (g ≡ low) → FirstFrom (lows keys) n j g (get_or (set heads low j) g 0)
  first_more g l (yes q) = rw (q, get_or-set_same heads low j 0 (omega (arith, w.heads_length))) (record { up = le_refl j; most = omega arith; hit = λ _. low-at keys j; skips = λ k x y. absurd (omega arith) })
  first_more g l (no f) = rw (get_or-set_other heads low g j 0 f) (record { up = omega (arith, q.up); most = q.most; hit = q.hit; skips = λ k x y z. on k y z (eq-or-lt_of_le x) })
    where
      q : FirstFrom (lows keys) n i g (get_or heads g 0)
      q = w.first g l

      on : (k : ℕ) → k < get_or heads g 0 → get_or (lows keys) k 0 ≡ g → (j ≡ k) ⊎ (j < k) → ⊥
      on k y z (inl p) = f (sym z ∙ ap (λ (x : ℕ). get_or (lows keys) x 0) (sym p) ∙ low-at keys j)
      on k y z (inr x) = q.skips k (omega arith) y z

  next_more : (a : ℕ) → j ≤ a → a < n → Dec (a ≡ j) → FirstFrom (lows keys) n (a + 1) (get_or keys a 0 % 256) (get_or (set near j (get_or heads low 0)) a 0)
  next_more a x l (yes q) = rw (q, get_or-set_same near j (get_or heads low 0) 0 (omega (arith, w.near_length)), sym e) (w.first low (omega arith))
  next_more a x l (no f) = rw (get_or-set_other near j a (get_or heads low 0) 0 f) (w.next a (omega arith) l)

  pub linked_more : AreLinked keys n j (set heads low j) (set near j (get_or heads low 0))
  linked_more =
      record {
        few = omega arith;
        heads_length = length-set heads low j ∙ w.heads_length;
        near_length = length-set near j (get_or heads low 0) ∙ w.near_length;
        first = λ g l. first_more g l (ℕ_discrete g low);
        next = λ a x l. next_more a x l (ℕ_discrete a j);
      }

pub linked_all : {keys heads near : List ℕ} {n i : ℕ} → i ≤ 0 → AreLinked keys n i heads near → IsNearest keys n near
linked_all h w = record { at = λ a l. w.next a (omega arith) l }

-- ---- walked along

-- the walk behind a stands at i, which has the low byte of a: no place in between has its key
pub record IsWalked (keys : List ℕ) (n a i : ℕ) : Type 0 where
  pub up : a + 1 ≤ i
  pub most : i ≤ n
  pub alike : i < n → get_or keys i 0 % 256 ≡ get_or keys a 0 % 256
  pub skips : (j : ℕ) → a + 1 ≤ j → j < i → get_or keys j 0 ≢ get_or keys a 0

module _ {keys near : List ℕ} {n a : ℕ} (w : IsNearest keys n near) (h : a < n) where
  low_alike : (j : ℕ) → get_or keys j 0 ≡ get_or keys a 0 → get_or (lows keys) j 0 ≡ get_or keys a 0 % 256
  low_alike j e = low-at keys j ∙ ap (λ (k : ℕ). k % 256) e

  pub walked_start : IsWalked keys n a (get_or near a 0)
  walked_start = let q = w.at a h in record { up = q.up; most = q.most; alike = λ l. sym (low-at keys _) ∙ q.hit l; skips = λ j x y e. q.skips j x y (low_alike j e) }

  pub walked_next : {i : ℕ} → i < n → get_or keys i 0 ≢ get_or keys a 0 → IsWalked keys n a i → IsWalked keys n a (get_or near i 0)
  walked_next {i} l f s = record { up = omega (arith, q.up, s.up); most = q.most; alike = λ k. sym (low-at keys _) ∙ q.hit k ∙ s.alike l; skips = λ j x y e. on j x y e (ℕ_discrete j i) (dec_lt j i) }
    where
      q : FirstFrom (lows keys) n (i + 1) (get_or keys i 0 % 256) (get_or near i 0)
      q = w.at i l

      on : (j : ℕ) → a + 1 ≤ j → j < get_or near i 0 → get_or keys j 0 ≡ get_or keys a 0 → Dec (j ≡ i) → Dec (j < i) → ⊥
      on j x y e (yes p) _ = f (ap (λ (k : ℕ). get_or keys k 0) (sym p) ∙ e)
      on j x y e (no _) (yes k) = s.skips j x k e
      on j x y e (no p) (no k) = q.skips j (omega arith) y (low_alike j e ∙ sym (s.alike l))

pub walked_hit : {keys : List ℕ} {n a i : ℕ} → get_or keys i 0 ≡ get_or keys a 0 → IsWalked keys n a i → FirstFrom keys n (a + 1) (get_or keys a 0) i
walked_hit e s = record { up = s.up; most = s.most; hit = λ _. e; skips = s.skips }

pub walked_all : {keys : List ℕ} {n a i : ℕ} → a < n → n ≤ i → IsWalked keys n a i → FirstFrom keys n (a + 1) (get_or keys a 0) n
walked_all {n = n} h l s = record { up = omega arith; most = le_refl n; hit = λ k. absurd (omega arith); skips = λ j x y. s.skips j x (omega arith) }
