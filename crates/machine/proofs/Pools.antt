-- The pool by number is the definitions' pool, where no number is that of two objects.
-- Assumes nothing.
use Rattle.std.proofs.Common.{◌≡◌, ◌≢◌, ℕ, ◌<◌, Bool, true, false, ◌&&◌, ◌||◌, not, Option, Some, None, List, [], ◌∷◌, ◌++◌, length, fold, get_or, set, refl, sym, ap, subst, ◌∙◌, get_or-set_same, get_or-set_other}
use Rattle.std.specs.Prelude.{eqb, is_none, slice_index_or}
use Rattle.std.proofs.lemmas.List.{get_or-replicate, length-set, length-replicate}
use Rattle.std.proofs.lemmas.List.Sums.{fold-append}
use mathlib.Core.Logic.{◌⊎◌, inl, inr}
use mathlib.Core.List.{Memᴰ}
use native.Mathlib.Decide.{ℕ_discrete}
use lib.Dec.{T, eqb→eq, eqb_refl}
use borrow.Author.Tests.{eq-eqb, ne_eqb}
use Rattle.meaning.specs.Lists.{In, any}
use Rattle.meaning.specs.Tables.{Package}
use Rattle.meaning.specs.Tests.{subtype}
use Rattle.meaning.proofs.Bools.{both, and, true-passes, fails-false, false-fails, decides_test, decides-as, decides-same}
use Rattle.meaning.proofs.Lists.{any_sound, any_complete}
use Rattle.runs.specs.Machine as M
use Rattle.runs.specs.Steps as S
use Rattle.runs.proofs.Sets.{add-fresh, joins-last}
use Rattle.runs.proofs.Tests.{decides-in_pool, decides-same_object}
use Rattle.machine.specs.Definitions.{with_class, nobody, pool_from, Once}
use Rattle.machine.specs.Steps.{is_instance}

pub once-tail : {o : M.Object} {os : List M.Object} → Once (o ∷ os) → Once os
once-tail once a b m n e = once a b (Memᴰ.tail m) (Memᴰ.tail n) e

same-bool : (a b : Bool) → (T a → T b) → (T b → T a) → a ≡ b
same-bool a b f g = decides-same (decides-as (decides_test a) f g) (decides_test b)

-- no object has this number: the class is what it was
absent : (os : List M.Object) (pool : List (Option ℕ)) (r : ℕ) → S.in_pool os r ≡ false → get_or (fold with_class pool os) r None ≡ get_or pool r None
unfolding S.in_pool S.is_numbered any
absent [] pool r e = refl
absent (o ∷ os) pool r e = on (ℕ_discrete o.ref r) (λ p. absent os (with_class pool o) r p)
  where
    on : Dec (o.ref ≡ r)
        → (S.in_pool os r ≡ false → get_or (fold with_class (with_class pool o) os) r None ≡ get_or (with_class pool o) r None)
        → get_or (fold with_class (with_class pool o) os) r None ≡ get_or pool r None
    on (yes q) more = let here : (true || S.in_pool os r) ≡ false = rw (eq-eqb o.ref r q) at e in cc
    on (no u) more =
        let other : r ≢ o.ref = λ q. u (sym q) in
        let later : (false || S.in_pool os r) ≡ false = rw (ne_eqb o.ref r u) at e in
        more later ∙ (rw get_or-set_other)

-- the object of this number
present : (os : List M.Object) (pool : List (Option ℕ)) (r c : ℕ) → Once os → r < length pool → In (M.object r c) os → get_or (fold with_class pool os) r None ≡ Some c
unfolding S.in_pool any
present [] pool r c once h m = absurd ((decides-in_pool [] r).complete (c, m, tt))
present (o ∷ os) pool r c once h m =
    on (S.in_pool os r) refl (λ m'. present os (with_class pool o) r c (once-tail once) (rw (length-set pool o.ref (Some o.class)) h) m')
  where
    here : Memᴰ (M.object r c) (o ∷ os) → S.in_pool os r ≡ false → get_or (with_class pool o) r None ≡ Some c
    here (Memᴰ.head e) n =
        let ref : r ≡ o.ref = ap (λ (x : M.Object). x.ref) e in
        let class : c ≡ o.class = ap (λ (x : M.Object). x.class) e in
        let h' : o.ref < length pool = subst (λ (n : ℕ). n < length pool) ref h in
        rw (ref, class) (rw get_or-set_same)
    here (Memᴰ.tail m') n = absurd (false-fails (S.in_pool os r) n ((decides-in_pool os r).complete (c, m', tt)))

    on : (b : Bool) → S.in_pool os r ≡ b → (In (M.object r c) os → get_or (fold with_class (with_class pool o) os) r None ≡ Some c) → get_or (fold with_class (with_class pool o) os) r None ≡ Some c
    on true e more =
        let w = (decides-in_pool os r).sound (true-passes (S.in_pool os r) e) in
        let same : M.object r w.0 ≡ M.object r c = once (M.object r w.0) (M.object r c) (Memᴰ.tail w.1) m refl in
        more (subst (λ (x : M.Object). In x os) same w.1)
    on false e more = absent os (with_class pool o) r e ∙ here m e

fits : (r : ℕ) → r < 256 → r < length nobody
unfolding nobody
fits r h = rw (length-replicate {A = Option ℕ} 256 None) h

nobody-at : (r : ℕ) → r < 256 → get_or nobody r None ≡ None
unfolding nobody
nobody-at r h = get_or-replicate 256 r None None h

module _ (os : List M.Object) (once : Once os) (r : ℕ) (h : r < 256) where
  pub class-none : S.in_pool os r ≡ false → get_or (pool_from os) r None ≡ None
  class-none e = absent os nobody r e ∙ nobody-at r h

  pub class-some : (c : ℕ) → In (M.object r c) os → get_or (pool_from os) r None ≡ Some c
  class-some c m = present os nobody r c once (fits r h) m

  -- is there an object of this number?
  pub in-pool-is : is_none (slice_index_or (pool_from os) r None) ≡ not (S.in_pool os r)
  in-pool-is = on (S.in_pool os r) refl
    where
      on : (b : Bool) → S.in_pool os r ≡ b → is_none (get_or (pool_from os) r None) ≡ not b
      on true e =
          let w = (decides-in_pool os r).sound (true-passes (S.in_pool os r) e) in
          ap is_none (class-some w.0 w.1)
      on false e = ap is_none (class-none e)

  -- and is its class below this one?
  pub is-a-is : (P : Package) (b : ℕ) → is_instance P (slice_index_or (pool_from os) r None) b ≡ S.is_a P os r b
  unfolding S.is_a S.is_object_below
  is-a-is P b = on (S.in_pool os r) refl
    where
      numbered : (o : M.Object) → T (eqb o.ref r && subtype P o.class b) → (o.ref ≡ r) × T (subtype P o.class b)
      numbered o t = let p = both (eqb o.ref r) (subtype P o.class b) t in (eqb→eq o.ref r p.0, p.1)

      on : (c : Bool) → S.in_pool os r ≡ c → is_instance P (get_or (pool_from os) r None) b ≡ any (λ o. eqb o.ref r && subtype P o.class b) os
      on true e =
          let w = (decides-in_pool os r).sound (true-passes (S.in_pool os r) e) in
          ap (λ (class : Option ℕ). is_instance P class b) (class-some w.0 w.1)
          ∙ same-bool (subtype P w.0 b) (any (λ o. eqb o.ref r && subtype P o.class b) os)
          (λ t. any_complete (λ (o : M.Object). eqb o.ref r && subtype P o.class b) {x = M.object r w.0} {xs = os} w.1 (and (eqb r r) (subtype P w.0 b) (eqb_refl r) t))
          (λ t.
          let v = any_sound (λ (o : M.Object). eqb o.ref r && subtype P o.class b) os t in
          let q = numbered v.0 v.2 in
          let same : v.0 ≡ M.object r w.0 = once v.0 (M.object r w.0) v.1 w.1 q.0 in
          subst (λ (o : M.Object). T (subtype P o.class b)) same q.1)
      on false e =
          ap (λ (class : Option ℕ). is_instance P class b) (class-none e)
          ∙ sym (fails-false (any (λ o. eqb o.ref r && subtype P o.class b) os)
          (λ t.
          let v = any_sound (λ (o : M.Object). eqb o.ref r && subtype P o.class b) os t in
          let q = numbered v.0 v.2 in
          let there : In (M.object r v.0.class) os = subst (λ (n : ℕ). In (M.object n v.0.class) os) q.0 v.1 in
          false-fails (S.in_pool os r) e ((decides-in_pool os r).complete (v.0.class, there, tt))))

-- one object more
fresh : (os : List M.Object) (r c : ℕ) → S.in_pool os r ≡ false → In (M.object r c) os → ⊥
fresh os r c e m = false-fails (S.in_pool os r) e ((decides-in_pool os r).complete (c, m, tt))

added : (os : List M.Object) (r c : ℕ) → S.in_pool os r ≡ false → M.add M.same_object (M.object r c) os ≡ os ++ (M.object r c ∷ [])
added os r c e = add-fresh decides-same_object (fresh os r c e)

pub pool-appended : (os : List M.Object) (r c : ℕ) → pool_from (os ++ (M.object r c ∷ [])) ≡ set (pool_from os) r (Some c)
pool-appended os r c = fold-append with_class nobody os (M.object r c ∷ [])

pub pool-more : (os : List M.Object) (r c : ℕ) → S.in_pool os r ≡ false → pool_from (M.add M.same_object (M.object r c) os) ≡ set (pool_from os) r (Some c)
pool-more os r c e = ap pool_from (added os r c e) ∙ pool-appended os r c

-- no number is that of two objects in a pool with a fresh one more
pub once-appended : (os : List M.Object) (r c : ℕ) → Once os → S.in_pool os r ≡ false → Once (os ++ (M.object r c ∷ []))
once-appended os r c once e o o' m m' same = on ((joins-last (M.object r c) os).only o m) ((joins-last (M.object r c) os).only o' m')
  where
    other : {x : M.Object} → In x os → x.ref ≡ r → ⊥
    other {x} n q = fresh os r x.class e (subst (λ (k : ℕ). In (M.object k x.class) os) q n)

    on : (o ≡ M.object r c) ⊎ In o os → (o' ≡ M.object r c) ⊎ In o' os → o ≡ o'
    on (inl p) (inl q) = p ∙ sym q
    on (inl p) (inr n) = absurd (other n (sym same ∙ ap (λ (x : M.Object). x.ref) p))
    on (inr n) (inl q) = absurd (other n (same ∙ ap (λ (x : M.Object). x.ref) q))
    on (inr n) (inr n') = once o o' n n' same

pub once-more : (os : List M.Object) (r c : ℕ) → Once os → S.in_pool os r ≡ false → Once (M.add M.same_object (M.object r c) os)
once-more os r c once e = subst Once (sym (added os r c e)) (once-appended os r c once e)
