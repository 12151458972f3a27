-- What a walk along a chain passes over breaks nothing.
-- Assumes nothing.
use Rattle.std.proofs.Common.{◌≡◌, ◌≢◌, ℕ, ◌+◌, ◌≤◌, ◌<◌, Bool, true, false, List, get_or, refl, sym, ◌∙◌, arith}
use native.Mathlib.Decide.{ℕ_discrete, dec_lt}
use Rattle.search.specs.Keys.{FirstFrom, StartOf, IsKeyed}

not-true : (b : Bool) → (b ≡ true → ⊥) → b ≡ false
not-true true f = absurd (f refl)
not-true false f = refl

-- the walk beside a stands at b: what lies before it breaks nothing, and it has a's key
pub record IsReached (keys : List ℕ) (n : ℕ) (test : ℕ → ℕ → Bool) (a b : ℕ) : Type 0 where
  pub most : b ≤ n
  pub keyed : b < n → get_or keys b 0 ≡ get_or keys a 0
  pub clear : (c : ℕ) → c < b → test a c ≡ false

module _ {keys : List ℕ} {n : ℕ} {test : ℕ → ℕ → Bool} (w : IsKeyed keys n test) (a : ℕ) (h : a < n) where
  -- a place of another key
  other : (c : ℕ) → c < n → get_or keys c 0 ≢ get_or keys a 0 → test a c ≡ false
  other c l f = not-true (test a c) (λ t. f (w.same a c h l t))

  pub reached_start : (b : ℕ) → StartOf keys n a b → IsReached keys n test a b
  reached_start b s = on (ℕ_discrete (get_or keys a 0) 0)
    where
      on : Dec (get_or keys a 0 ≡ 0) → IsReached keys n test a b
      on (yes e) =
          let q = s.none e in
          record { most = omega arith; keyed = λ l. absurd (omega arith); clear = λ c l. not-true (test a c) (λ t. w.some a c h (omega arith) t e) }
      on (no f) =
          let q = s.some f in
          record { most = q.most; keyed = q.hit; clear = λ c l. other c (omega (arith, q.most)) (q.skips c (omega arith) l) }

  pub reached_next : (b r : ℕ) → b < n → test a b ≡ false → FirstFrom keys n (b + 1) (get_or keys b 0) r → IsReached keys n test a b → IsReached keys n test a r
  reached_next b r l t q reached =
      record {
        most = q.most;
        keyed = λ k. q.hit k ∙ reached.keyed l;
        clear = λ c k. on c k (dec_lt c b) (ℕ_discrete c b);
      }
    where
      on : (c : ℕ) → c < r → Dec (c < b) → Dec (c ≡ b) → test a c ≡ false
      on c k (yes m) e = reached.clear c m
      on c k (no m) (yes e) = rw e t
      on c k (no m) (no f) = other c (omega (arith, q.most)) (λ e. q.skips c (omega arith) k (e ∙ sym (reached.keyed l)))
