-- Closed rows, turn by turn: what the closure step adds; and the closed rows say what a transitive relation says that they were made from.
-- Assumes nothing.
use Prim.Native.Nat.{ℕ, zero, suc, ◌≤◌, ◌<◌}
use native.Mathlib.Nat.{le_refl, eq-or-lt_of_le, le_of_suc-le-suc, not-suc-le-zero}
use native.Mathlib.Decide.{ℕ_discrete}
use native.Mathlib.Omega.{arith}
use mathlib.Core.Path.{◌≡◌, refl, sym, ap₂, ◌∙◌}
use mathlib.Core.Logic.{◌⊎◌, inl, inr, ⊎_elim}
use mathlib.Core.Bool.{Bool, true, false, ◌&&◌, ◌||◌, cond}
use mathlib.Core.List.{List}
use lib.Dec.{T, eqb, ltb}
use lib.ListN.{length, get_or}
use borrow.Author.Tests.{le-ltb, ne_eqb}
use Rattle.meaning.proofs.Bools.{both, and, either, or_left, or_right, decides-as, decides_eq, decides-lt, decides_or, decides-same}
use Rattle.relation.specs.Rows.{row_bit, or_at}
use Rattle.relation.specs.Fold.{up_to}
use Rattle.relation.specs.Closing.{join_at, through_at}
use Rattle.relation.proofs.RowLaws.{Sized, or-bit, or-sized}

-- ---- the closure step

join_at-sized : (w size k e : ℕ) (rs : List ℕ) → k < size → e < size → Sized w size rs → Sized w size (join_at k e rs)
join_at-sized w size k e rs h l z = on (row_bit rs e k)
  where
    on : (b : Bool) → Sized w size (cond b (or_at rs e (get_or rs k 0)) rs)
    on true = or-sized rs e (get_or rs k 0) (omega (arith, z.long)) w size (z.small k (omega (arith, z.long))) z
    on false = z

join_at-bit : (k n : ℕ) (rs : List ℕ) → n < length rs → (e d : ℕ) → row_bit (join_at k n rs) e d ≡ (row_bit rs e d || (eqb e n && (row_bit rs n k && row_bit rs k d)))
join_at-bit k n rs h e d = on (row_bit rs n k)
  where
    nothing : (a b : Bool) → a ≡ (a || (b && false))
    nothing true b = refl
    nothing false true = refl
    nothing false false = refl

    on : (b : Bool) → row_bit (cond b (or_at rs n (get_or rs k 0)) rs) e d ≡ (row_bit rs e d || (eqb e n && (b && row_bit rs k d)))
    on true = or-bit rs n (get_or rs k 0) h e d
    on false = nothing (row_bit rs e d) (eqb e n)

-- a test of n where e is n is that of e
at_same : (e n : ℕ) (g : ℕ → Bool) → (eqb e n && g n) ≡ (eqb e n && g e)
at_same e n g = on (ℕ_discrete e n)
  where
    on : Dec (e ≡ n) → (eqb e n && g n) ≡ (eqb e n && g e)
    on (yes p) = rw p
    on (no u) = rw (ne_eqb e n u)

ltb-suc : (e n : ℕ) → ltb e (suc n) ≡ (ltb e n || eqb e n)
ltb-suc e n = decides-same (decides-as (decides-lt e (suc n)) (λ h. on (eq-or-lt_of_le (le_of_suc-le-suc h))) back) (decides_or (decides-lt e n) (decides_eq e n))
  where
    on : (e ≡ n) ⊎ (e < n) → (e < n) ⊎ (e ≡ n)
    on (inl p) = inr p
    on (inr l) = inl l

    back : (e < n) ⊎ (e ≡ n) → e < suc n
    back (inl l) = omega arith
    back (inr p) = omega arith

-- after n rows of the step: a row e < n that has the bit k has row k's bits besides. Row k itself stays as it was
module _ (w size k : ℕ) (hk : k < size) (rs : List ℕ) (z : Sized w size rs) where
  abbrev via : ℕ → ℕ → Bool
  via e d = row_bit rs e k && row_bit rs k d

  spread : (a l q b : Bool) → ((a || (l && b)) || (q && b)) ≡ (a || ((l || q) && b))
  spread true l q b = refl
  spread false true q true = refl
  spread false true true false = refl
  spread false true false false = refl
  spread false false q b = refl

  not_yet : (a b c : Bool) → b ≡ false → (a || (b && c)) ≡ a
  not_yet true b c e = refl
  not_yet false b c e = rw e

  absorbed : (a b c : Bool) → (a || (b && (c && a))) ≡ a
  absorbed true b c = refl
  absorbed false true true = refl
  absorbed false true false = refl
  absorbed false false c = refl

  turned : (n : ℕ) → n ≤ size → Sized w size (up_to n (join_at k) rs) × ((e d : ℕ) → row_bit (up_to n (join_at k) rs) e d ≡ (row_bit rs e d || (ltb e n && via e d)))
  turned zero h = (z, λ e d. sym (not_yet (row_bit rs e d) (ltb e 0) (via e d) (le-ltb e 0 (omega arith))))
  turned (suc n) h = more (up_to n (join_at k) rs) (turned n (omega arith))
    where
      more : (s : List ℕ) → Sized w size s × ((e d : ℕ) → row_bit s e d ≡ (row_bit rs e d || (ltb e n && via e d)))
          → Sized w size (join_at k n s) × ((e d : ℕ) → row_bit (join_at k n s) e d ≡ (row_bit rs e d || (ltb e (suc n) && via e d)))
      more s ih = (join_at-sized w size k n s hk h ih.0, λ e d. join_at-bit k n s (omega (arith, ih.0.long)) e d ∙ ap₂ (λ (x y : Bool). x || (eqb e n && y)) (ih.1 e d) (same d) ∙ last e d)
        where
          same : (d : ℕ) → (row_bit s n k && row_bit s k d) ≡ via n d
          same d =
              ap₂ ◌&&◌ (ih.1 n k ∙ not_yet (row_bit rs n k) (ltb n n) (via n k) (le-ltb n n (le_refl n)))
              (ih.1 k d ∙ absorbed (row_bit rs k d) (ltb k n) (row_bit rs k k))

          last : (e d : ℕ) → ((row_bit rs e d || (ltb e n && via e d)) || (eqb e n && via n d)) ≡ (row_bit rs e d || (ltb e (suc n) && via e d))
          last e d = rw (at_same e n (λ x. via x d), ltb-suc e n) (spread (row_bit rs e d) (ltb e n) (eqb e n) (via e d))

-- ---- all the steps

-- after k steps: nothing is lost, all that is there is R, and to go through a number below k adds nothing
pub record After (w size : ℕ) (R : ℕ → ℕ → Type 0) (k : ℕ) (rs s : List ℕ) : Type 0 where
  pub sized : Sized w size s
  pub kept : (e d : ℕ) → T (row_bit rs e d) → T (row_bit s e d)
  pub sound : (e d : ℕ) → T (row_bit s e d) → R e d
  pub closed : (e f d : ℕ) → f < k → T (row_bit s e f) → T (row_bit s f d) → T (row_bit s e d)

module _ (w size : ℕ) (R : ℕ → ℕ → Type 0) (n : ℕ) (fits : n ≤ size) (inside : (e d : ℕ) → R e d → e < n) (through : (e f d : ℕ) → R e f → R f d → R e d)
    (rs : List ℕ) (z : Sized w size rs) (base : (e d : ℕ) → T (row_bit rs e d) → R e d) where
  next : (k : ℕ) (s : List ℕ) → k < n → After w size R k rs s → After w size R (suc k) rs (through_at n k s)
  next k s h a =
      record {
        sized = t.0;
        kept = λ e d u. stays e d (a.kept e d u);
        sound = λ e d u. ⊎_elim (a.sound e d) (λ p. through e k d (a.sound e k p.0) (a.sound k d p.1)) (was e d u);
        closed = λ e f d l u v. go e f d (eq-or-lt_of_le (le_of_suc-le-suc l)) (was e f u) (was f d v);
      }
    where
      t : Sized w size (up_to n (join_at k) s) × ((e d : ℕ) → row_bit (up_to n (join_at k) s) e d ≡ (row_bit s e d || (ltb e n && (row_bit s e k && row_bit s k d))))
      t = turned w size k (omega arith) s a.sized n fits

      was : (e d : ℕ) → T (row_bit (through_at n k s) e d) → T (row_bit s e d) ⊎ (T (row_bit s e k) × T (row_bit s k d))
      was e d u =
          ⊎_elim inl (λ p. inr (both (row_bit s e k) (row_bit s k d) (both (ltb e n) (row_bit s e k && row_bit s k d) p).1))
          (either (row_bit s e d) (ltb e n && (row_bit s e k && row_bit s k d)) (rw (t.1 e d) at u))

      stays : (e d : ℕ) → T (row_bit s e d) → T (row_bit (through_at n k s) e d)
      stays e d u = rw (t.1 e d) (or_left (row_bit s e d) (ltb e n && (row_bit s e k && row_bit s k d)) u)

      -- what leads to k, and what k leads to
      meet : (e d : ℕ) → T (row_bit s e k) → T (row_bit s k d) → T (row_bit (through_at n k s) e d)
      meet e d u v =
          rw (t.1 e d)
          (or_right (row_bit s e d) (ltb e n && (row_bit s e k && row_bit s k d))
          (and (ltb e n) (row_bit s e k && row_bit s k d) ((decides-lt e n).complete (inside e k (a.sound e k u))) (and (row_bit s e k) (row_bit s k d) u v)))

      to-k : (x : ℕ) → T (row_bit s x k) ⊎ (T (row_bit s x k) × T (row_bit s k k)) → T (row_bit s x k)
      to-k x = ⊎_elim (λ u. u) (λ p. p.0)

      from-k : (x : ℕ) → T (row_bit s k x) ⊎ (T (row_bit s k k) × T (row_bit s k x)) → T (row_bit s k x)
      from-k x = ⊎_elim (λ u. u) (λ p. p.1)

      go : (e f d : ℕ) → (f ≡ k) ⊎ (f < k) → T (row_bit s e f) ⊎ (T (row_bit s e k) × T (row_bit s k f)) → T (row_bit s f d) ⊎ (T (row_bit s f k) × T (row_bit s k d))
          → T (row_bit (through_at n k s) e d)
      go e f d (inl p) u v = meet e d (to-k e (rw p at u)) (from-k d (rw p at v))
      go e f d (inr l) (inl u) (inl v) = stays e d (a.closed e f d l u v)
      go e f d (inr l) (inl u) (inr q) = meet e d (a.closed e f k l u q.0) q.1
      go e f d (inr l) (inr p) (inl v) = meet e d p.0 (a.closed k f d l p.1 v)
      go e f d (inr l) (inr p) (inr q) = meet e d p.0 q.1

  pub steps : (k : ℕ) → k ≤ n → After w size R k rs (up_to k (through_at n) rs)
  steps zero h = record { sized = z; kept = λ e d u. u; sound = base; closed = λ e f d l u v. absurd (not-suc-le-zero l) }
  steps (suc k) h = next k (up_to k (through_at n) rs) h (steps k (omega arith))
