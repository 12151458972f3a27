-- The tests and changes of labels and links are those of the definitions.
-- Assumes nothing.
use Rattle.std.proofs.Common.{◌≡◌, ℕ, suc, arith, Bool, true, false, ◌&&◌, ◌||◌, cond, List, [], ◌∷◌, ◌++◌, map, length, refl, sym, ap, ap₂, ◌∙◌}
use Rattle.std.specs.Prelude.{eqb, nat_lt, ◌==◌, if◌then◌else◌}
use Rattle.std.specs.List.{list_any, list_all, zip}
use Rattle.std.proofs.lemmas.List.{length-map}
use native.Mathlib.Decide.{ℕ_discrete}
use borrow.Author.Tests.{eq-eqb, ne_eqb}
use Rattle.meaning.specs.Lists.{any}
use Rattle.meaning.specs.Tables.{Package}
use Rattle.meaning.specs.Tests.{subtype}
use Rattle.runs.specs.Machine as M
use Rattle.runs.specs.Steps as S
use Rattle.machine.specs.declared.label.Label.{Label}
use Rattle.machine.specs.Definitions.{label_from, link_from}
use Rattle.machine.specs.Snapshot.{label_of, same_label, same_link, holds, sees, is_linked, add_label, insert_link, has_room, has_link_room}
use Rattle.machine.specs.Steps.{holds_below, holds_all, passed}

pub any-mapped : {A B : Type 0} (h : A → B) (f : A → Bool) (g : B → Bool) → ((x : A) → g (h x) ≡ f x) → (xs : List A) → list_any g (map h xs) ≡ any f xs
unfolding any
any-mapped h f g e [] = refl
any-mapped h f g e (x ∷ xs) = ap₂ (λ (a b : Bool). a || b) (e x) (any-mapped h f g e xs)

map-more : {A B : Type 0} (h : A → B) (xs : List A) (x : A) → map h (xs ++ (x ∷ [])) ≡ map h xs ++ (h x ∷ [])
map-more h [] x = refl
map-more h (y ∷ xs) x = ap (λ (ys : List _). h y ∷ ys) (map-more h xs x)

pub eqb-turned : (m n : ℕ) → eqb m n ≡ eqb n m
eqb-turned m n = on (ℕ_discrete m n)
  where
    on : Dec (m ≡ n) → eqb m n ≡ eqb n m
    on (yes e) = eq-eqb m n e ∙ sym (eq-eqb n m (sym e))
    on (no u) = ne_eqb m n u ∙ sym (ne_eqb n m (λ e. u (sym e)))

eqb-suc : (m n : ℕ) → eqb (suc m) (suc n) ≡ eqb m n
eqb-suc m n = on (ℕ_discrete m n)
  where
    on : Dec (m ≡ n) → eqb (suc m) (suc n) ≡ eqb m n
    on (yes e) = eq-eqb (suc m) (suc n) (ap suc e) ∙ sym (eq-eqb m n e)
    on (no u) = ne_eqb (suc m) (suc n) (λ q. u (omega (arith, q))) ∙ sym (ne_eqb m n u)

-- a set with one element more, where both sides test alike
added : {A B : Type 0} (h : A → B) (xs : List A) (x : A) (b c : Bool) → b ≡ c → (if b then map h xs else (map h xs ++ h x ∷ [])) ≡ map h (cond c xs (xs ++ (x ∷ [])))
added h xs x b true e = rw e refl
added h xs x b false e = rw e (sym (map-more h xs x))

-- ---- labels

same-label : (x y : M.Label) → same_label (label_from y) (label_from x) ≡ M.same_label x y
unfolding M.same_label
same-label x y = ap₂ (λ (a b : Bool). a && b) (eqb-turned y.ref x.ref) (eqb-turned y.type x.type)

pub holds-is : (ls : List M.Label) (r c : ℕ) → holds (map label_from ls) (label_of r c) ≡ S.holds ls r c
unfolding S.holds
holds-is ls r c = any-mapped label_from (M.same_label (M.label r c)) (λ held. same_label held (label_of r c)) (same-label (M.label r c)) ls

pub add-label-is : (ls : List M.Label) (r c : ℕ) → add_label (map label_from ls) (label_of r c) ≡ map label_from (M.add M.same_label (M.label r c) ls)
unfolding M.add S.holds
add-label-is ls r c = added label_from ls (M.label r c) (holds (map label_from ls) (label_of r c)) (S.holds ls r c) (holds-is ls r c)

pub has-room-is : (ls : List M.Label) (r c : ℕ) → has_room (map label_from ls) (label_of r c) ≡ S.room_for M.same_label 32 (M.label r c) ls
unfolding S.room_for S.holds
has-room-is ls r c = ap₂ (λ (a : Bool) (n : ℕ). a || nat_lt n 32) (holds-is ls r c) (length-map ls label_from)

pub sees-is : (ls : List M.Label) (r : ℕ) → sees (map label_from ls) r ≡ S.holds_ref ls r
unfolding S.holds_ref S.is_of
sees-is ls r = any-mapped label_from (S.is_of r) (λ held. held.object == r) (λ x. refl) ls

pub holds-below-is : (P : Package) (ls : List M.Label) (r b : ℕ) → holds_below P (map label_from ls) r b ≡ S.holds_below P ls r b
unfolding S.holds_below S.is_below
holds-below-is P ls r b = any-mapped label_from (S.is_below P r b) (λ held. (held.object == r) && subtype P held.class b) (λ x. refl) ls

pub holds-all-is : (ls : List M.Label) (rs cs : List ℕ) → holds_all (map label_from ls) rs cs ≡ S.holds_all ls rs cs
unfolding S.holds_all
holds-all-is ls [] [] = refl
holds-all-is ls [] (c ∷ cs) = rw (ne_eqb 0 (suc (length cs)) (λ q. absurd (omega (arith, q)))) refl
holds-all-is ls (r ∷ rs) [] = rw (ne_eqb (suc (length rs)) 0 (λ q. absurd (omega (arith, q)))) refl
holds-all-is ls (r ∷ rs) (c ∷ cs) =
    ap (λ (b : Bool). b && (holds (map label_from ls) (label_of r c) && list_all (λ pair. holds (map label_from ls) (label_of pair.0 pair.1)) (zip rs cs))) (eqb-suc (length rs) (length cs))
    ∙ turned (length rs == length cs) (holds (map label_from ls) (label_of r c)) (list_all (λ pair. holds (map label_from ls) (label_of pair.0 pair.1)) (zip rs cs))
    ∙ ap₂ (λ (a b : Bool). a && b) (holds-is ls r c) (holds-all-is ls rs cs)
  where
    turned : (a b c : Bool) → (a && (b && c)) ≡ (b && (a && c))
    turned true true c = refl
    turned true false c = refl
    turned false true c = refl
    turned false false c = refl

pub passed-is : (ls : List M.Label) (rs cs : List ℕ) → passed (map label_from ls) rs cs ≡ map label_from (M.add_all M.same_label (M.passed rs cs) ls)
unfolding M.add_all M.passed
passed-is ls [] [] = refl
passed-is ls [] (c ∷ cs) = refl
passed-is ls (r ∷ rs) [] = refl
passed-is ls (r ∷ rs) (c ∷ cs) =
    ap (λ (held : List Label). passed held rs cs) (add-label-is ls r c)
    ∙ passed-is (M.add M.same_label (M.label r c) ls) rs cs

-- ---- links

same-link : (x y : M.Link) → same_link (link_from y) (link_from x) ≡ M.same_link x y
unfolding M.same_link
same-link x y =
    ap₂ (λ (a b : Bool). a && b) (eqb-turned y.owner x.owner)
    (ap₂ (λ (a b : Bool). a && b) (eqb-turned y.declared x.declared)
    (ap₂ (λ (a b : Bool). a && b) (eqb-turned y.type x.type) (eqb-turned y.target x.target)))

pub is-linked-is : (ks : List M.Link) (k : M.Link) → is_linked (map link_from ks) (link_from k) ≡ S.has_link ks k
unfolding S.has_link
is-linked-is ks k = any-mapped link_from (M.same_link k) (λ other. same_link other (link_from k)) (same-link k) ks

pub insert-link-is : (ks : List M.Link) (k : M.Link) → insert_link (map link_from ks) (link_from k) ≡ map link_from (M.add M.same_link k ks)
unfolding M.add S.has_link
insert-link-is ks k = added link_from ks k (is_linked (map link_from ks) (link_from k)) (S.has_link ks k) (is-linked-is ks k)

pub has-link-room-is : (ks : List M.Link) (k : M.Link) → has_link_room (map link_from ks) (link_from k) ≡ S.room_for M.same_link 256 k ks
unfolding S.room_for S.has_link
has-link-room-is ks k = ap₂ (λ (a : Bool) (n : ℕ). a || nat_lt n 256) (is-linked-is ks k) (length-map ks link_from)
