-- The order of the objects in a pool does not matter: a state and the one with its objects in rising order have one snapshot, and so
-- one outcome of each step.
-- Assumes nothing.
use Rattle.std.proofs.Common.{◌≡◌, ℕ, suc, ◌-◌, ◌<◌, ◌≤◌, Option, Some, None, List, [], ◌∷◌, ◌++◌, map, length, fold, get_or, set, replicate, refl, sym, ap, ap₂, subst, ◌∙◌, arith, append_assoc, true≢false}
use Rattle.std.proofs.lemmas.List.{length-set, length-replicate}
use mathlib.Core.Logic.{inl, inr}
use native.Mathlib.Decide.{dec_lt}
use lib.ListN.{get_or-eq_default}
use Rattle.std.specs.Prelude.{is_none}
use mathlib.Core.List.Memᴰ
use Rattle.meaning.specs.Lists.{In}
use Rattle.meaning.specs.Tables.{Package}
use Rattle.runs.specs.Machine as M
use Rattle.runs.specs.Steps as S
use Rattle.machine.specs.declared.label.Label.{Label}
use Rattle.machine.specs.declared.link.Link.{Link}
use Rattle.machine.specs.declared.step.Step.{Step}
use Rattle.machine.specs.Definitions.{with_class, nobody, pool_from, link_from, label_from, frame_from, snapshot_from, Once, numbered, outcome_from, object_at, objects_from, state_view, option_from, option_view, label_view, link_view, frame_view}
use Rattle.machine.specs.Fits.{Fits}
use Rattle.machine.specs.Snapshot.{SavedFrame, Snapshot}
use Rattle.machine.specs.Step.{step_view}
use Rattle.machine.specs.Steps.{step_of}
use Rattle.machine.proofs.Back.{mapped-back, labels-back, links-back, saved-back}
use Rattle.machine.proofs.Law.{step-is}

length-filled : (os : List M.Object) (pool : List (Option ℕ)) → length (fold with_class pool os) ≡ length pool
length-filled [] pool = refl
length-filled (o ∷ os) pool = length-filled os (with_class pool o) ∙ length-set pool o.ref (Some o.class)

pub pool-length : (os : List M.Object) → length (pool_from os) ≡ 256
unfolding nobody
pool-length os = length-filled os nobody ∙ length-replicate {A = Option ℕ} 256 None

set-behind : (front : List (Option ℕ)) (x y : Option ℕ) (back : List (Option ℕ)) → set (front ++ (x ∷ back)) (length front) y ≡ front ++ (y ∷ back)
set-behind [] x y back = refl
set-behind (z ∷ front) x y back = ap (λ (xs : List (Option ℕ)). z ∷ xs) (set-behind front x y back)

length-behind : (front : List (Option ℕ)) (x : Option ℕ) → length (front ++ (x ∷ [])) ≡ suc (length front)
length-behind [] x = refl
length-behind (z ∷ front) x = ap suc (length-behind front x)

-- the objects of a pool by number fill it again
refill : (rest front : List (Option ℕ)) (n : ℕ) → n ≡ length front → fold with_class (front ++ replicate (length rest) None) (objects_from n rest) ≡ front ++ rest
refill [] front n e = refl
refill (class ∷ rest) front n e = on class (λ x. refill rest (front ++ (x ∷ [])) (suc n) (ap suc e ∙ sym (length-behind front x)))
  where
    Later : Option ℕ → Type 0
    Later x = fold with_class ((front ++ (x ∷ [])) ++ replicate (length rest) None) (objects_from (suc n) rest) ≡ (front ++ (x ∷ [])) ++ rest

    joined : (x : Option ℕ) → Later x → fold with_class (front ++ (x ∷ replicate (length rest) None)) (objects_from (suc n) rest) ≡ front ++ (x ∷ rest)
    joined x later =
        ap (λ (pool : List (Option ℕ)). fold with_class pool (objects_from (suc n) rest)) (sym (append_assoc front (x ∷ []) (replicate (length rest) None)))
        ∙ later
        ∙ append_assoc front (x ∷ []) rest

    on : (x : Option ℕ) → ((y : Option ℕ) → Later y) → fold with_class (front ++ (None ∷ replicate (length rest) None)) (object_at n x (objects_from (suc n) rest)) ≡ front ++ (x ∷ rest)
    on None later = joined None (later None)
    on (Some c) later =
        ap (λ (pool : List (Option ℕ)). fold with_class pool (objects_from (suc n) rest))
        (ap (λ (k : ℕ). set (front ++ (None ∷ replicate (length rest) None)) k (Some c)) e ∙ set-behind front None (Some c) (replicate (length rest) None))
        ∙ joined (Some c) (later (Some c))

pub refilled : (pool : List (Option ℕ)) → length pool ≡ 256 → pool_from (objects_from 0 pool) ≡ pool
unfolding nobody
refilled pool e =
    ap (λ (n : ℕ). fold with_class (replicate {A = Option ℕ} n None) (objects_from 0 pool)) (sym e)
    ∙ refill pool [] 0 refl

-- a state and the one with its objects in rising order have one snapshot
pub snapshot-back : (s : M.State) → snapshot_from (state_view (snapshot_from s)) ≡ snapshot_from s
snapshot-back s =
    ap₂ (λ (pool : List (Option ℕ)) (rest : List Link × (List Label × List SavedFrame)). record { pool = pool; links = rest.0; labels = rest.1.0; method = s.method; saved = rest.1.1 })
    (refilled (pool_from s.pool) (pool-length s.pool))
    (ap₂ (λ (links : List Link) (rest : List Label × List SavedFrame). (links, rest)) (ap (map link_from) (links-back s.links))
    (ap₂ (λ (labels : List Label) (saved : List SavedFrame). (labels, saved)) (ap (map label_from) (labels-back s.labels)) (ap (map frame_from) (saved-back s.saved))))

-- each object of the pool by number stands at its number
Placed : List (Option ℕ) → ℕ → M.Object → Type 0
Placed pool n o = (n ≤ o.ref) × (get_or pool (o.ref - n) None ≡ Some o.class)

placed : (pool : List (Option ℕ)) (n : ℕ) (o : M.Object) → In o (objects_from n pool) → Placed pool n o
unfolding Placed
placed [] n o m = absurd (Memᴰ.not-nil m)
placed (class ∷ pool) n o m = on class m (λ m'. placed pool (suc n) o m')
  where
    further : (x : Option ℕ) → Placed pool (suc n) o → (n ≤ o.ref) × (get_or (x ∷ pool) (o.ref - n) None ≡ Some o.class)
    further x p =
        let above = p.0 in
        let there : o.ref - n ≡ suc (o.ref - suc n) = omega (arith, above) in
        (omega (arith, above), ap (λ (k : ℕ). get_or (x ∷ pool) k None) there ∙ p.1)

    here : (c : ℕ) → o ≡ M.object n c → (n ≤ o.ref) × (get_or (Some c ∷ pool) (o.ref - n) None ≡ Some o.class)
    here c e =
        let ref : o.ref ≡ n = ap (λ (x : M.Object). x.ref) e in
        let class : o.class ≡ c = ap (λ (x : M.Object). x.class) e in
        let first : o.ref - n ≡ 0 = omega (arith, ref) in
        (omega (arith, ref), ap (λ (k : ℕ). get_or (Some c ∷ pool) k None) first ∙ ap (λ (x : ℕ). Some x) (sym class))

    on : (x : Option ℕ) → In o (object_at n x (objects_from (suc n) pool)) → (In o (objects_from (suc n) pool) → Placed pool (suc n) o)
        → (n ≤ o.ref) × (get_or (x ∷ pool) (o.ref - n) None ≡ Some o.class)
    on None m later = further None (later m)
    on (Some c) m later = elim (Memᴰ.cases_cons m) [ inl e ↦ here c e | inr m' ↦ further (Some c) (later m') ]

-- so its number is one of the pool's
pub small-rising : (pool : List (Option ℕ)) (o : M.Object) → In o (objects_from 0 pool) → o.ref < length pool
unfolding Placed
small-rising pool o m = on (dec_lt o.ref (length pool))
  where
    there : get_or pool o.ref None ≡ Some o.class
    there =
        let first : o.ref - 0 ≡ o.ref = omega arith in
        subst (λ (k : ℕ). get_or pool k None ≡ Some o.class) first (placed pool 0 o m).1

    on : Dec (o.ref < length pool) → o.ref < length pool
    on (yes h) = h
    on (no n) = absurd (true≢false (ap is_none (sym (get_or-eq_default pool None (omega (arith, n))) ∙ there)))

pub once-rising : (pool : List (Option ℕ)) → Once (objects_from 0 pool)
unfolding Placed
once-rising pool o o' m m' e =
    let p = (placed pool 0 o m).1 in
    let q = (placed pool 0 o' m').1 in
    let same : Some o.class ≡ Some o'.class = sym p ∙ ap (λ (r : ℕ). get_or pool (r - 0) None) e ∙ q in
    let class : o.class ≡ o'.class = cc in
    ap₂ (λ (r c : ℕ). M.object r c) e class

-- so it has one outcome of each step
pub order-is : (P : Package) (s : M.State) (k : Step) → Once s.pool → Fits k → outcome_from (S.step P (state_view (snapshot_from s)) (step_view k)) ≡ outcome_from (S.step P s (step_view k))
order-is P s k once fits =
    sym (step-is P (state_view (snapshot_from s)) k (once-rising (pool_from s.pool)) fits)
    ∙ ap (λ (t : Snapshot). numbered (step_of P t k)) (snapshot-back s)
    ∙ step-is P s k once fits

option-whole : (o : Option ℕ) → option_from (option_view o) ≡ o
option-whole None = refl
option-whole (Some x) = refl

labels-whole : (ls : List Label) → map label_from (map label_view ls) ≡ ls
labels-whole ls = mapped-back label_view label_from (λ l. refl) ls

frames-whole : (fs : List SavedFrame) → map frame_from (map frame_view fs) ≡ fs
frames-whole fs =
    mapped-back frame_view frame_from
    (λ f. ap₂ (λ (p : Option ℕ) (ls : List Label). record { method = f.method; pending = p; labels = ls }) (option-whole f.pending) (labels-whole f.labels)) fs

-- each snapshot whose pool has all numbers is that of a state of the definitions
pub snapshot-whole : (s : Snapshot) → length s.pool ≡ 256 → snapshot_from (state_view s) ≡ s
snapshot-whole s all =
    ap₂ (λ (pool : List (Option ℕ)) (rest : List Link × (List Label × List SavedFrame)). record { pool = pool; links = rest.0; labels = rest.1.0; method = s.method; saved = rest.1.1 })
    (refilled s.pool all)
    (ap₂ (λ (links : List Link) (rest : List Label × List SavedFrame). (links, rest)) (mapped-back link_view link_from (λ k. refl) s.links)
    (ap₂ (λ (labels : List Label) (saved : List SavedFrame). (labels, saved)) (labels-whole s.labels) (frames-whole s.saved)))

-- so a step over a snapshot is that of the definitions over its state, whatever the snapshot is
pub step-whole : (P : Package) (s : Snapshot) (k : Step) → length s.pool ≡ 256 → Fits k → numbered (step_of P s k) ≡ outcome_from (S.step P (state_view s) (step_view k))
step-whole P s k all fits =
    ap (λ (t : Snapshot). numbered (step_of P t k)) (sym (snapshot-whole s all))
    ∙ step-is P (state_view s) k (once-rising s.pool) fits
