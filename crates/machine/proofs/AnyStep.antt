-- The order of the objects in a pool matters to no step of the definitions, also to one that the machine has no value for.
-- Assumes nothing.
use Rattle.std.proofs.Common.{◌≡◌, ℕ, ◌<◌, Bool, true, false, ◌&&◌, not, Option, Some, None, List, [], ◌∷◌, map, length, get_or, set, refl, sym, ap, subst, ◌∙◌}
use Rattle.std.specs.Prelude.{eqb, ltb, is_none}
use Rattle.std.proofs.Math.Option as O
use native.Mathlib.Decide.{dec_lt}
use lib.Dec.{eqb→eq}
use Rattle.meaning.specs.Lists.{In, any}
use Rattle.meaning.specs.Reading.{Took, takes, need}
use Rattle.meaning.specs.Tables.{Package, owner_of, result_of, params_of, field_class, field_type}
use Rattle.meaning.specs.Tests.{subtype}
use Rattle.meaning.proofs.Bools.{both, fails-false}
use Rattle.meaning.proofs.Lists.{any_sound}
use Rattle.runs.specs.Machine as M
use Rattle.runs.specs.Steps as S
use Rattle.runs.proofs.Tests.{decides-in_pool}
use Rattle.machine.specs.Definitions.{pool_from, link_from, label_from, frame_from, snapshot_from, Once, outcome_from, objects_from, state_view}
use Rattle.machine.specs.Steps.{is_instance}
use Rattle.machine.proofs.Back.{state-back}
use Rattle.machine.proofs.Pools.{in-pool-is, is-a-is, pool-more}
use Rattle.machine.proofs.Order.{pool-length, refilled, once-rising, small-rising}

-- objects with numbers of one byte
abbrev pub Small : List M.Object → Type 0
Small os = (o : M.Object) → In o os → o.ref < 256

not-back : (a b : Bool) → not a ≡ not b → a ≡ b
not-back true true e = refl
not-back false false e = refl
not-back true false e = sym e
not-back false true e = sym e

not-true : (b : Bool) → not b ≡ true → b ≡ false
not-true true e = sym e
not-true false e = refl

-- no object has a number that is no byte
unknown : (os : List M.Object) → Small os → (r : ℕ) → (r < 256 → ⊥) → S.in_pool os r ≡ false
unknown os small r n =
    fails-false (S.in_pool os r)
    (λ t.
    let w = (decides-in_pool os r).sound t in
    n (small (M.object r w.0) w.1))

none-below : (os : List M.Object) → Small os → (r : ℕ) → (r < 256 → ⊥) → (P : Package) (b : ℕ) → S.is_a P os r b ≡ false
unfolding S.is_a S.is_object_below
none-below os small r n P b =
    fails-false (any (λ o. eqb o.ref r && subtype P o.class b) os)
    (λ t.
    let v = any_sound (λ (o : M.Object). eqb o.ref r && subtype P o.class b) os t in
    let q = both (eqb v.0.ref r) (subtype P v.0.class b) v.2 in
    n (subst (λ (k : ℕ). k < 256) (eqb→eq v.0.ref r q.0) (small v.0 v.1)))

-- ---- pools with the same objects

record Alike (os os' : List M.Object) : Type 0 where
  left : Once os
  right : Once os'
  small_left : Small os
  small_right : Small os'
  pools : pool_from os ≡ pool_from os'

module _ {os os' : List M.Object} (alike : Alike os os') where
  same-has : (r : ℕ) → S.in_pool os r ≡ S.in_pool os' r
  same-has r = on (dec_lt r 256)
    where
      on : Dec (r < 256) → S.in_pool os r ≡ S.in_pool os' r
      on (yes h) =
          not-back (S.in_pool os r) (S.in_pool os' r)
          (sym (in-pool-is os alike.left r h)
          ∙ ap (λ (pool : List (Option ℕ)). is_none (get_or pool r None)) alike.pools
          ∙ in-pool-is os' alike.right r h)
      on (no n) = unknown os alike.small_left r n ∙ sym (unknown os' alike.small_right r n)

  same-is : (P : Package) (r b : ℕ) → S.is_a P os r b ≡ S.is_a P os' r b
  same-is P r b = on (dec_lt r 256)
    where
      on : Dec (r < 256) → S.is_a P os r b ≡ S.is_a P os' r b
      on (yes h) =
          sym (is-a-is os alike.left r h P b)
          ∙ ap (λ (pool : List (Option ℕ)). is_instance P (get_or pool r None) b) alike.pools
          ∙ is-a-is os' alike.right r h P b
      on (no n) = none-below os alike.small_left r n P b ∙ sym (none-below os' alike.small_right r n P b)

  -- and one object more
  same-more : (r c : ℕ) → S.in_pool os' r ≡ false → pool_from (M.add M.same_object (M.object r c) os) ≡ pool_from (M.add M.same_object (M.object r c) os')
  same-more r c e =
      pool-more os r c (same-has r ∙ e)
      ∙ ap (λ (pool : List (Option ℕ)). set pool r (Some c)) alike.pools
      ∙ sym (pool-more os' r c e)

-- ---- the same step from states that differ in the order of their pools alone

-- the same test, and where it passes the same outcome
need-same : (b : Bool) (k : ℕ) (o o' : Took M.State) → (b ≡ true → outcome_from o ≡ outcome_from o') → outcome_from (need b k o) ≡ outcome_from (need b k o')
need-same true k o o' h = h refl
need-same false k o o' h = refl

module _ (P : Package) (s : M.State) (os : List M.Object) (alike : Alike os s.pool) where
  abbrev other : M.State
  other = record { pool = os; links = s.links; labels = s.labels; method = s.method; saved = s.saved }

  with-pool : (pool pool' : List M.Object) → pool_from pool ≡ pool_from pool' → (ks : List M.Link) (ls : List M.Label) (m : ℕ) (cs : List M.Saved)
      → outcome_from (takes (record { pool = pool; links = ks; labels = ls; method = m; saved = cs })) ≡ outcome_from (takes (record { pool = pool'; links = ks; labels = ls; method = m; saved = cs }))
  with-pool pool pool' e ks ls m cs =
      ap (λ (pool : List (Option ℕ)). takes (record { pool = pool; links = map link_from ks; labels = map label_from ls; method = m; saved = map frame_from cs })) e

  join-same : (r c : ℕ) → outcome_from (S.join other r c) ≡ outcome_from (S.join s r c)
  unfolding S.join
  join-same r c = need-same (S.room_for M.same_label 32 (M.label r c) s.labels) 63 _ _ (λ e. with-pool os s.pool alike.pools s.links (M.add M.same_label (M.label r c) s.labels) s.method s.saved)

  link-same : (k : M.Link) → outcome_from (S.link other k) ≡ outcome_from (S.link s k)
  unfolding S.link
  link-same k = need-same (S.room_for M.same_link 256 k s.links) 63 _ _ (λ e. with-pool os s.pool alike.pools (M.add M.same_link k s.links) s.labels s.method s.saved)

  make-same : (r c : ℕ) → S.in_pool s.pool r ≡ false → outcome_from (S.make other r c) ≡ outcome_from (S.make s r c)
  unfolding S.make
  make-same r c f = need-same (S.room_for M.same_label 32 (M.label r c) s.labels) 63 _ _ (λ e. with-pool (M.add M.same_object (M.object r c) os) (M.add M.same_object (M.object r c) s.pool) (same-more alike r c f) s.links (M.add M.same_label (M.label r c) s.labels) s.method s.saved)

  call-same : (c : O.Option ℕ) (v : ℕ) (ls : List M.Label) → outcome_from (S.call other c v ls) ≡ outcome_from (S.call s c v ls)
  unfolding S.call
  call-same c v ls = need-same (ltb (length s.saved) 16) 63 _ _ (λ e. with-pool os s.pool alike.pools s.links (M.add_all M.same_label ls []) v (record { method = s.method; pending = c; labels = s.labels } ∷ s.saved))

  back-same : (r : ℕ) (ks : List M.Saved) → outcome_from (S.back other r ks) ≡ outcome_from (S.back s r ks)
  unfolding S.back
  back-same r [] = refl
  back-same r (k ∷ ks) =
      need-same (S.returns s.labels k.pending r) 62 _ _
      (λ e. need-same (S.room_given k.pending r k.labels) 63 _ _ (λ e'. with-pool os s.pool alike.pools s.links (M.given k.pending r k.labels) k.method ks))

  step-same : (k : M.Step) → outcome_from (S.step P other k) ≡ outcome_from (S.step P s k)
  unfolding S.step
  step-same (M.widen r b) = need-same (S.holds_below P s.labels r b) 62 _ _ (λ e. join-same r b)
  step-same (M.new r b) =
      rw (same-has alike r)
      (need-same (S.permits P s.method 0 b) 61 _ _
      (λ e. need-same (not (S.in_pool s.pool r)) 62 _ _ (λ e'. make-same r b (not-true (S.in_pool s.pool r) e'))))
  step-same (M.checkcast r b) =
      rw (same-is alike P r b)
      (need-same (S.permits P s.method 1 b) 61 _ _
      (λ e. need-same (S.holds_ref s.labels r) 62 _ _ (λ e'. need-same (S.is_a P s.pool r b) 62 _ _ (λ e''. join-same r b))))
  step-same (M.getstatic f q) =
      need-same (S.permits_field P s.method 2 f) 61 _ _
      (λ e. need-same (S.has_link s.links (M.static_link P f q)) 62 _ _ (λ e'. join-same q (field_type P f)))
  step-same (M.putstatic f q) =
      need-same (S.permits_field P s.method 3 f) 61 _ _
      (λ e. need-same (S.holds s.labels q (field_type P f)) 62 _ _ (λ e'. link-same (M.static_link P f q)))
  step-same (M.getfield f p q) =
      need-same (S.permits_field P s.method 4 f) 61 _ _
      (λ e. need-same (S.holds_below P s.labels p (field_class P f)) 62 _ _
      (λ e'. need-same (S.has_link s.links (M.field_link P f p q)) 62 _ _ (λ e''. join-same q (field_type P f))))
  step-same (M.putfield f p q) =
      need-same (S.permits_field P s.method 5 f) 61 _ _
      (λ e. need-same (S.holds_below P s.labels p (field_class P f)) 62 _ _
      (λ e'. need-same (S.holds s.labels q (field_type P f)) 62 _ _ (λ e''. link-same (M.field_link P f p q))))
  step-same (M.invokestatic n rs) =
      need-same (S.permits P s.method 6 n) 61 _ _
      (λ e. need-same (S.holds_all s.labels rs (params_of P n)) 62 _ _ (λ e'. call-same (result_of P n) n (M.passed rs (params_of P n))))
  step-same (M.invokemethod n v r rs) =
      rw (same-is alike P r (owner_of P v))
      (need-same (S.permits P s.method 7 n) 61 _ _
      (λ e. need-same (S.holds_below P s.labels r (owner_of P n)) 62 _ _
      (λ e'. need-same (S.holds_all s.labels rs (params_of P n)) 62 _ _
      (λ e''. need-same (S.is_a P s.pool r (owner_of P v)) 62 _ _
      (λ e'''. need-same (S.runs_for P v n) 62 _ _ (λ e''''. call-same (result_of P n) v (M.label r (owner_of P v) ∷ M.passed rs (params_of P n))))))))
  step-same (M.return r) = back-same r s.saved

-- a state and the one with its objects in rising order have one outcome of each step of the definitions, of any number of arguments and any references
pub order-of-any : (P : Package) (s : M.State) (k : M.Step) → Once s.pool → Small s.pool → outcome_from (S.step P (state_view (snapshot_from s)) k) ≡ outcome_from (S.step P s k)
order-of-any P s k once small =
    ap (λ (t : M.State). outcome_from (S.step P t k)) (state-back s)
    ∙ step-same P s (objects_from 0 (pool_from s.pool))
    (record {
      left = once-rising (pool_from s.pool);
      right = once;
      small_left = λ o m. subst (λ (n : ℕ). o.ref < n) (pool-length s.pool) (small-rising (pool_from s.pool) o m);
      small_right = small;
      pools = refilled (pool_from s.pool) (pool-length s.pool);
    }) k
