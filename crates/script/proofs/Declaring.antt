-- The rows of the fields: a bit for each field, one after the other; and what they answer is what a search among the fields answers.
use Prim.Native.Nat.{ℕ, zero, suc, ◌+◌, ◌≤◌, ◌<◌}
use native.Mathlib.Decide.{dec_lt}
use native.Mathlib.Omega.{arith}
use mathlib.Core.Path.{◌≡◌, refl, sym, ap, ◌∙◌}
use mathlib.Core.Bool.{Bool, true, false, ◌&&◌, ◌||◌}
use mathlib.Core.List.{List, [], ◌∷◌, ◌++◌, map}
use lib.Dec.{eqb}
use lib.Seq.{take-nil}
use lib.ListN.{length, get_or, take, replicate, length-map}
use borrow.Author.Tests.{lt-ltb, le-ltb, ne_eqb, ltb-true}
use Rattle.std.proofs.lemmas.List.{take_more}
use Rattle.meaning.specs.Good.{Good}
use Rattle.meaning.specs.Lists.{any}
use Rattle.meaning.specs.Reading.{is_class}
use Rattle.meaning.specs.Tables as M
use Rattle.meaning.specs.Tables.{Package, no_field, field_class, field_type}
use Rattle.meaning.proofs.Bools.{decides_eq, decides_and, decides-as, decides-same}
use Rattle.runs.specs.Script.{is_field_of, some_field}
use Rattle.tables.specs.declared.elements.Field.{Field}
use Rattle.tables.specs.declared.elements.Mode.TheVariants.{Instance}
use Rattle.tables.specs.Contents.{Contents}
use Rattle.tables.specs.View.{view, field_view, mode_number}
use Rattle.tables.proofs.At.{get_or-map}
use Rattle.relation.specs.Rows.{among, row_bit, wide, add_bit}
use Rattle.relation.proofs.BitLaws.{bit-zero}
use Rattle.relation.proofs.RowLaws.{zeros-at, zeros-sized, add_row, add-sized, wide_bit, wide_of, wide-sized, wide-same, wide-is}
use Rattle.script.specs.Taking.{fields_of}

-- ---- rows of one relation on classes

and_none : (b : Bool) → (b && false) ≡ false
and_none true = refl
and_none false = refl

or-none : (b : Bool) → (b || false) ≡ b
or-none true = refl
or-none false = refl

no_pairs : replicate 127 0 ≡ wide 127 (λ (x y : ℕ). false)
unfolding among
no_pairs = wide_of 127 (λ (x y : ℕ). false) (replicate 127 0) (zeros-sized 128 127) (λ x y h l. rw (zeros-at 127, bit-zero, and_none, and_none))

-- one pair more is one bit
one-pair : (f g : ℕ → ℕ → Bool) (a b : ℕ) → a < 127 → b < 127 → ((x y : ℕ) → g x y ≡ (f x y || (eqb x a && eqb y b))) → add_bit a b (wide 127 f) ≡ wide 127 g
one-pair f g a b ha hb e =
    let l : b < 128 = omega arith in
    let long = (wide-sized 127 f).long in
    wide_of 127 g (add_bit a b (wide 127 f)) (add-sized 128 127 a b (wide 127 f) ha l (wide-sized 127 f))
    (λ x y h k.
    add_row (wide 127 f) a b (omega (arith, long)) x y
    ∙ ap (λ (t : Bool). t || (eqb x a && eqb y b)) (wide_bit 127 f x y h k)
    ∙ on x y h (dec_lt y 127))
  where
    on : (x y : ℕ) → x < 127 → Dec (y < 127) → (among 127 f x y || (eqb x a && eqb y b)) ≡ among 127 g x y
    on x y h (yes k) = unfold among in rw (lt-ltb x 127 h, lt-ltb y 127 k) (sym (e x y))
    on x y h (no k) = unfold among in rw (lt-ltb x 127 h, le-ltb y 127 (omega arith), ne_eqb y b (λ q. omega arith)) (and_none (eqb x a))

-- ---- the fields up to a number

-- of the first i fields one has this class, this type and this static byte
abbrev pub first_of : ℕ → List Field → ℕ → ℕ → ℕ → Bool
first_of s l i c t = any (is_field_of c t s) (map field_view (take i l))

abbrev pub zero_field : Field
zero_field = record { class = 0; typ = 0; mode = Instance }

any_last : {A : Type 0} (f : A → Bool) (xs : List A) (x : A) → any f (xs ++ (x ∷ [])) ≡ (any f xs || f x)
unfolding any
any_last f [] x = or-none (f x)
any_last f (y ∷ ys) x = ap (λ (b : Bool). f y || b) (any_last f ys x) ∙ assoc (f y) (any f ys) (f x)
  where
    assoc : (a b c : Bool) → (a || (b || c)) ≡ ((a || b) || c)
    assoc true b c = refl
    assoc false b c = refl

map-last : {A B : Type 0} (f : A → B) (xs : List A) (x : A) → map f (xs ++ (x ∷ [])) ≡ map f xs ++ (f x ∷ [])
map-last f [] x = refl
map-last {B = B} f (y ∷ ys) x = ap (λ (zs : List B). f y ∷ zs) (map-last f ys x)

module _ (s : ℕ) (l : List Field) where
  -- before the first
  pub none-declared : replicate 127 0 ≡ wide 127 (first_of s l 0)
  unfolding any
  none-declared = no_pairs

  module _ (i : ℕ) (h : i < length l) where
    abbrev x : Field
    x = get_or l i zero_field

    first_more : (c t : ℕ) → first_of s l (i + 1) c t ≡ (first_of s l i c t || is_field_of c t s (field_view x))
    first_more c t =
        ap (λ (xs : List Field). any (is_field_of c t s) (map field_view xs)) (take_more l i zero_field h)
        ∙ ap (any (is_field_of c t s)) (map-last field_view (take i l) x)
        ∙ any_last (is_field_of c t s) (map field_view (take i l)) (field_view x)

    -- a field with the static byte, and one with another
    pub declared-more : x.class < 127 → x.typ < 127 → mode_number x.mode ≡ s → add_bit x.class x.typ (wide 127 (first_of s l i)) ≡ wide 127 (first_of s l (i + 1))
    declared-more hc ht e = one-pair (first_of s l i) (first_of s l (i + 1)) x.class x.typ hc ht (λ c t. first_more c t ∙ ap (λ (b : Bool). first_of s l i c t || b) (is c t))
      where
        is : (c t : ℕ) → is_field_of c t s (field_view x) ≡ (eqb c x.class && eqb t x.typ)
        is c t =
            unfold is_field_of in
            decides-same (decides_and (decides_eq x.class c) (decides_and (decides_eq x.typ t) (decides_eq (mode_number x.mode) s)))
            (decides-as (decides_and (decides_eq c x.class) (decides_eq t x.typ)) (λ p. (sym p.0, (sym p.1, e))) (λ p. (sym p.0, sym p.1.0)))

    pub declared_same : (mode_number x.mode ≡ s → ⊥) → wide 127 (first_of s l i) ≡ wide 127 (first_of s l (i + 1))
    declared_same n = wide-same 127 (first_of s l i) (first_of s l (i + 1)) (λ c t _ _. sym (first_more c t ∙ ap (λ (b : Bool). first_of s l i c t || b) (is c t) ∙ or-none (first_of s l i c t)))
      where
        is : (c t : ℕ) → is_field_of c t s (field_view x) ≡ false
        is c t = unfold is_field_of in rw (ne_eqb (mode_number x.mode) s n, and_none, and_none)

take-past : {A : Type 0} (n : ℕ) (xs : List A) → length xs ≤ n → take n xs ≡ xs
take-past n [] past = take-nil n
take-past zero (x ∷ xs) past = absurd (omega arith)
take-past {A = A} (suc n) (x ∷ xs) past = ap (λ (ys : List A). x ∷ ys) (take-past n xs (omega arith))

-- all of them
pub whole : (t : Contents) (s i : ℕ) (rows : List ℕ) → length t.fields ≤ i → rows ≡ wide 127 (first_of s t.fields i) → rows ≡ fields_of (view t) s
unfolding fields_of some_field
whole t s i rows past e = e ∙ ap (λ (l : List Field). wide 127 (λ (c u : ℕ). any (is_field_of c u s) (map field_view l))) (take-past i t.fields past)

-- the fields of tables that are held are small
pub small-held : (t : Contents) → Good (view t) → (i : ℕ) → i < length t.fields → ((get_or t.fields i zero_field).class < 127) × ((get_or t.fields i zero_field).typ < 127)
unfolding field_class field_type
small-held t good i h =
    let within : i < length (view t).fields = rw (length-map t.fields field_view) h in
    let at = get_or-map field_view t.fields i no_field zero_field h in
    let f = good.fields i within in
    let c : field_class (view t) i ≡ (get_or t.fields i zero_field).class = ap (λ (x : M.Field). x.class) at in
    let u : field_type (view t) i ≡ (get_or t.fields i zero_field).typ = ap (λ (x : M.Field). x.type) at in
    (omega (arith, c, f.class, good.few_classes), omega (arith, u, f.type, good.few_classes))

-- ---- what the rows answer

pub declared-is : (t : Contents) (s : ℕ) → Good (view t) → (c u : ℕ) → is_class (view t) c ≡ true → is_class (view t) u ≡ true → row_bit (fields_of (view t) s) c u ≡ some_field (view t) c u s
unfolding is_class fields_of
declared-is t s good c u l k =
    let hc = ltb-true _ _ l in
    let hu = ltb-true _ _ k in
    wide-is 127 (λ (c u : ℕ). some_field (view t) c u s) (omega arith) c u (omega (arith, hc, good.few_classes)) (omega (arith, hu, good.few_classes))

-- a class that is declared has a row
pub class_small : (t : Contents) → Good (view t) → (c : ℕ) → is_class (view t) c ≡ true → c < 127
unfolding is_class
class_small t good c l = omega (arith, ltb-true _ _ l, good.few_classes)

pub ruleset declared = (declared-is, class_small)
