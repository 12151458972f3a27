-- What `meaning` says of a frame is what the code makes of the frame as it keeps it: refused with that number, or taken.
-- Assumes nothing.
use Rattle.std.proofs.Common.{◌≡◌, ℕ, ◌+◌, ◌*◌, ◌≤◌, ◌<◌, Bool, true, false, ◌&&◌, cond, eqb, leb, ltb, List, [], ◌∷◌, map, length, take, drop, get_or, ◌⊎◌, inl, inr, slice_get, Option, Some, None, Result, Ok, Err, refl, sym, ap, ap₂, ◌∙◌, subst, lit<, arith}
use Rattle.std.specs.List.{list_all}
use Rattle.std.proofs.Math.Bool.{false≢true}
use Rattle.std.proofs.lemmas.Bool.{eqb-true, leb-true, lt-ltb, le-ltb, lt-leb, ne_eqb, cases_lt}
use Rattle.std.proofs.lemmas.List.{length-map}
use Rattle.std.proofs.lemmas.Option.{slice_get_cases}
use Rattle.meaning.specs.Lists.{all}
use Rattle.meaning.specs.Text.{byte}
use Rattle.meaning.specs.Kinds.{row_of, length_of, fits}
use Rattle.meaning.specs.Tables as M
use Rattle.meaning.specs.Tables.{Package, no_field, no_method, field_at, method_at}
use Rattle.meaning.specs.Reading.{Took, takes, refuses, need, is_named, is_type, is_class, is_field, is_method_of}
use Rattle.text.specs.Kinds.{fits_frame}
use Rattle.text.specs.Frames.{first_bytes, pack_frame}
use Rattle.text.proofs.Packed.{first-at}
use Rattle.text.proofs.Fitting.{fits-packed}
use Rattle.sections.specs.declared.refusal.Refusal.{Refusal}
use Rattle.sections.specs.declared.refusal.Refusal.TheVariants.{BadLength, BadNumber, TooMany}
use Rattle.sections.specs.Refusals.{number_of}
use Rattle.tables.specs.declared.elements.Field.{Field}
use Rattle.tables.specs.declared.elements.Method.{Method}
use Rattle.tables.specs.View.{field_view, method_view}
use Rattle.tables.proofs.At.{slice_get-map}
use Rattle.package.specs.Judging.{at, below, counted_in, slot_in, has_field, has_method, of_mode, field_mode, method_mode, named_in}
use Rattle.package.proofs.Packed.{first-counted}

-- what is taken goes on as the reader that it makes, and a refusal has its number
abbrev pub took : {A B : Type 0} → (A → B) → Result A Refusal → Took B
took go (Ok x) = takes (go x)
took go (Err r) = refuses (number_of r)

-- ---- the tests of a row, joined

module _ {A : Type 0} where
  -- each of them refused with k
  unfoldable pub needs : List Bool → ℕ → Took A → Took A
  needs [] k t = t
  needs (b ∷ bs) k t = need b k (needs bs k t)

  pub need-both : (k : ℕ) (t : Took A) (a b : Bool) → need a k (need b k t) ≡ need (a && b) k t
  need-both k t true b = refl
  need-both k t false b = refl

unfoldable pub conj : Bool → List Bool → Bool
conj a [] = a
conj a (b ∷ bs) = conj (a && b) bs

pub joined : {A : Type 0} (k : ℕ) (t : Took A) (a : Bool) (bs : List Bool) → need a k (needs bs k t) ≡ need (conj a bs) k t
unfolding needs conj
joined k t a [] = refl
joined k t a (b ∷ bs) = need-both k (needs bs k t) a b ∙ joined k t (a && b) bs

-- the row of a kind: 8, 6, and the numbers; and what is taken, where all is well
module _ {E B : Type 0} (go : E → B) (f : List ℕ) (t : Took B) (x : E) (room a : Bool) (bs : List Bool) (d : Bool) where
  pub row_judged : (fits f ≡ true → conj a bs ≡ d) → (fits f ≡ true → d ≡ true → t ≡ takes (go x))
      → need room 8 (need (fits f) 6 (need a 7 (needs bs 7 t))) ≡ took go (cond room (cond (fits_frame (pack_frame f)) (cond d (Ok x) (Err BadNumber)) (Err BadLength)) (Err TooMany))
  row_judged h k = rw (fits-packed f) (on room (fits f) h k)
    where
      numbers : (c : Bool) → c ≡ d → (d ≡ true → t ≡ takes (go x)) → need c 7 t ≡ took go (cond d (Ok x) (Err BadNumber))
      numbers c e m = rw e (last d m)
        where
          last : (b : Bool) → (b ≡ true → t ≡ takes (go x)) → need b 7 t ≡ took go (cond b (Ok x) (Err BadNumber))
          last true n = n refl
          last false n = refl

      on : (r l : Bool) → (l ≡ true → conj a bs ≡ d) → (l ≡ true → d ≡ true → t ≡ takes (go x))
          → need r 8 (need l 6 (need a 7 (needs bs 7 t))) ≡ took go (cond r (cond l (cond d (Ok x) (Err BadNumber)) (Err BadLength)) (Err TooMany))
      on false l m n = refl
      on true false m n = refl
      on true true m n = joined 7 t a bs ∙ numbers (conj a bs) (m refl) (n refl)

-- ---- the bytes

pub all-same : (p : ℕ → Bool) (xs : List ℕ) → all p xs ≡ list_all p xs
unfolding all
all-same p [] = refl
all-same p (x ∷ xs) = ap (λ (b : Bool). p x && b) (all-same p xs)

module _ (f : List ℕ) where
  -- each byte that a test asks for is among those that are kept
  pub kept : (test : ℕ → Bool) (i : ℕ) → i < 16 → test (byte f i) ≡ test (at (pack_frame f) i)
  kept test i h = ap test (sym (first-at 16 f i h))

  -- the length of a frame that fits, by its kind's row
  pub sized : (k : ℕ) → byte f 0 ≡ k → fits f ≡ true → length f ≡ length_of (row_of k) f
  unfolding fits
  sized k e h = subst (λ (b : ℕ). length f ≡ length_of (row_of b) f) e (eqb-true (length f) (length_of (row_of (byte f 0)) f) h)

  -- the counted bytes, where the length is right
  pub counted : (i most n : ℕ) → i + most < 16 → length f ≡ i + 1 + byte f i → (leb (byte f i) most && all (below n) (drop (i + 1) f)) ≡ counted_in (pack_frame f) i most n
  unfolding counted_in
  counted i most n l e = rw (first-at 16 f i (omega (arith, l)), all-same (below n) (drop (i + 1) f)) (on (leb (byte f i) most) (leb-true (byte f i) most))
    where
      on : (b : Bool) → (b ≡ true → byte f i ≤ most) → (b && list_all (below n) (drop (i + 1) f)) ≡ (b && list_all (below n) (take (byte f i) (drop (i + 1) (first_bytes 16 f))))
      on true h = ap (list_all (below n)) (sym (first-counted 16 (i + 1) (byte f i) f e (let m = h refl in omega (arith, l, m))))
      on false h = refl

  pub slot_kept : byte f 4 * 256 + byte f 5 ≡ slot_in (pack_frame f)
  slot_kept = ap₂ (λ (x y : ℕ). x * 256 + y) (sym (first-at 16 f 4 (lit< tt))) (sym (first-at 16 f 5 (lit< tt)))

-- ---- what an effect names

pub has_field-is : (fs : List Field) (x s : ℕ) → (ltb x (length (map field_view fs)) && eqb (get_or (map field_view fs) x no_field).static s) ≡ has_field fs x s
unfolding has_field
has_field-is fs x s = on (slice_get_cases fs x).1
  where
    on : ((y : Field) × (x < length fs) × (slice_get fs x ≡ Some y) × (get_or fs x y ≡ y)) ⊎ ((length fs ≤ x) × (slice_get fs x ≡ None))
        → (ltb x (length (map field_view fs)) && eqb (get_or (map field_view fs) x no_field).static s) ≡ of_mode s (field_mode (slice_get fs x))
    on (inl (y, l, q, g)) =
        ap₂ ◌&&◌ (ap (ltb x) (length-map fs field_view) ∙ lt-ltb x (length fs) l) (ap (λ (t : M.Field). eqb t.static s) (slice_get-map field_view fs x no_field y q))
        ∙ ap (λ (o : Option Field). of_mode s (field_mode o)) (sym q)
    on (inr (l, q)) =
        ap (λ (b : Bool). b && eqb (get_or (map field_view fs) x no_field).static s) (ap (ltb x) (length-map fs field_view) ∙ le-ltb x (length fs) l)
        ∙ ap (λ (o : Option Field). of_mode s (field_mode o)) (sym q)

pub has_method-is : (ms : List Method) (x s : ℕ) → (ltb x (length (map method_view ms)) && eqb (get_or (map method_view ms) x no_method).static s) ≡ has_method ms x s
unfolding has_method
has_method-is ms x s = on (slice_get_cases ms x).1
  where
    on : ((y : Method) × (x < length ms) × (slice_get ms x ≡ Some y) × (get_or ms x y ≡ y)) ⊎ ((length ms ≤ x) × (slice_get ms x ≡ None))
        → (ltb x (length (map method_view ms)) && eqb (get_or (map method_view ms) x no_method).static s) ≡ of_mode s (method_mode (slice_get ms x))
    on (inl (y, l, q, g)) =
        ap₂ ◌&&◌ (ap (ltb x) (length-map ms method_view) ∙ lt-ltb x (length ms) l) (ap (λ (t : M.Method). eqb t.static s) (slice_get-map method_view ms x no_method y q))
        ∙ ap (λ (o : Option Method). of_mode s (method_mode o)) (sym q)
    on (inr (l, q)) =
        ap (λ (b : Bool). b && eqb (get_or (map method_view ms) x no_method).static s) (ap (ltb x) (length-map ms method_view) ∙ le-ltb x (length ms) l)
        ∙ ap (λ (o : Option Method). of_mode s (method_mode o)) (sym q)

module _ (P : Package) (fs : List Field) (ms : List Method) (e : P.fields ≡ map field_view fs) (m : P.methods ≡ map method_view ms) where
  field-is : (x k : ℕ) → is_field P x k ≡ has_field fs x k
  unfolding is_field
  field-is x k = ap (λ (t : List M.Field). ltb x (length t) && eqb (get_or t x no_field).static k) e ∙ has_field-is fs x k

  method-is : (x k : ℕ) → is_method_of P x k ≡ has_method ms x k
  unfolding is_method_of
  method-is x k = ap (λ (t : List M.Method). ltb x (length t) && eqb (get_or t x no_method).static k) m ∙ has_method-is ms x k

  pub named : (op x : ℕ) → is_named P op x ≡ named_in (length P.classes) fs ms op x
  unfolding is_named named_in is_type is_class
  named op x =
      ap (cond (leb op 1) (ltb x (length P.classes)))
      (ap₂ (cond (leb op 3)) (field-is x 1)
      (ap₂ (cond (leb op 5)) (field-is x 0)
      (ap₂ (cond (eqb op 6)) (method-is x 1) (ap (λ (b : Bool). cond (eqb op 7) b false) (method-is x 0)))))

-- what is named has an operation
pub operation-known : (nc : ℕ) (fs : List Field) (ms : List Method) (op x : ℕ) → named_in nc fs ms op x ≡ true → op ≤ 7
unfolding named_in
operation-known nc fs ms op x e = on (cases_lt 7 op)
  where
    on : (7 < op) ⊎ (op ≤ 7) → op ≤ 7
    on (inr l) = l
    on (inl l) =
        absurd (false≢true (rw (lt-leb op 1 (omega (arith, l)), lt-leb op 3 (omega (arith, l)), lt-leb op 5 (omega (arith, l)), ne_eqb op 6 (λ z. absurd (omega (arith, l, z))), ne_eqb op 7 (λ z. absurd (omega (arith, l, z)))) at e))
