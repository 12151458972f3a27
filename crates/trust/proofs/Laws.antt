-- What is known of a package's trust answers what the package's own definitions say: home, ►, <: and "suspicious".
-- Assumes nothing.
use Prim.Native.Nat.{ℕ, ◌<◌}
use native.Mathlib.Decide.{dec_lt}
use native.Mathlib.Omega.{arith}
use mathlib.Core.Path.{◌≡◌, refl, ap}
use mathlib.Core.Bool.{◌&&◌}
use mathlib.Core.List.{List}
use mathlib.Core.Logic.{◌⊎◌, inl, inr}
use lib.Dec.{T, ltb, lt→ltb}
use lib.ListN.{length, get_or-eq_default}
use Rattle.meaning.specs.Tables.{Package, Class, no_class, home}
use Rattle.meaning.specs.Tests.{dominated, subtype, suspicious}
use Rattle.meaning.specs.Trust.{Subtype}
use Rattle.meaning.specs.Good.{Good}
use Rattle.meaning.proofs.Bools.{both, and, decides_eq, decides-lt, decides_test, decides_and, decides_or, decides-as, decides-same}
use Rattle.meaning.proofs.Trust.{Rising, decides-subtype, subtype_sound, subtype_complete, subtype-le, has-supers, good-rising}
use Rattle.relation.specs.Rows.{row_bit, among}
use Rattle.relation.proofs.RowLaws.{narrow-is, wide_bit, wide-is}
use Rattle.trust.specs.Relations.{dominance_rows, subtype_rows, suspicion_rows}
use Rattle.trust.specs.Known.{Known}
use Rattle.trust.specs.Below.{Supers, below_by}

module _ {P : Package} (g : Good P) where
  pub home_declared : (c : ℕ) → home P c < P.domains
  unfolding home
  home_declared c = on (dec_lt c (length P.classes))
    where
      on : Dec (c < length P.classes) → home P c < P.domains
      on (yes h) = (g.classes c h).domain
      on (no h) = rw (ap (λ (x : Class). x.domain) (get_or-eq_default P.classes no_class {n = c} (omega arith))) g.some_domains

  pub dominance_bit : (e d : ℕ) → e < P.domains → d < P.domains → row_bit (dominance_rows P) e d ≡ dominated P e d
  unfolding dominance_rows
  dominance_bit = narrow-is P.domains (dominated P) g.domains

  pub subtype_bit : (a b : ℕ) → a < length P.classes → b < length P.classes → row_bit (subtype_rows P) a b ≡ subtype P a b
  unfolding subtype_rows
  subtype_bit = wide-is (length P.classes) (subtype P) g.few_classes

  pub suspicion_bit : (a b : ℕ) → a < length P.classes → b < length P.classes → row_bit (suspicion_rows P) a b ≡ suspicious P a b
  unfolding suspicion_rows
  suspicion_bit = wide-is (length P.classes) (suspicious P) g.few_classes

module _ {P : Package} {dominance homes supertypes suspicion : List ℕ} (k : Known P dominance homes supertypes suspicion) where
  pub dominated_is : (e d : ℕ) → e < P.domains → d < P.domains → row_bit dominance e d ≡ dominated P e d
  dominated_is e d h l = rw k.dominance_is (dominance_bit k.good e d h l)

  pub subtype_is : (a b : ℕ) → a < length P.classes → b < length P.classes → row_bit supertypes a b ≡ subtype P a b
  subtype_is a b h l = rw k.supertypes_are (subtype_bit k.good a b h l)

  pub suspicious_is : (a b : ℕ) → a < length P.classes → b < length P.classes → row_bit suspicion a b ≡ suspicious P a b
  suspicious_is a b h l = rw k.suspicion_is (suspicion_bit k.good a b h l)

-- ---- <: of any two numbers

module _ {P : Package} {rows : List ℕ} (s : Supers P rows) where
  abbrev count : ℕ
  count = length P.classes

  row_is : (a b : ℕ) → a < 127 → b < 127 → row_bit rows a b ≡ among count (subtype P) a b
  unfolding subtype_rows
  row_is a b h l = rw s.are (wide_bit count (subtype P) a b h (omega arith))

  up : Rising P
  up = good-rising P s.good

  -- what the code asks of two numbers
  abbrev Asked : ℕ → ℕ → Type 0
  Asked a b = (a ≡ b) ⊎ ((a < 127) × ((b < 127) × T (row_bit rows a b)))

  from_row : (a b : ℕ) → Asked a b → Subtype P a b
  unfolding among
  from_row a b (inl e) = rw e Subtype.itself
  from_row a b (inr w) =
      let t : T (among count (subtype P) a b) = rw (row_is a b w.0 w.1.0) at w.1.1 in
      subtype_sound P (both (ltb b count) (subtype P a b) (both (ltb a count) (ltb b count && subtype P a b) t).1).1

  to_row : {a b : ℕ} → Subtype P a b → Asked a b
  unfolding among
  to_row Subtype.itself = inl refl
  to_row {a} {b} (Subtype.above m r) =
      let h : a < count = has-supers P m in
      let l : b < count = omega (arith, subtype-le P up (Subtype.above m r)) in
      let few = s.good.few_classes in
      let h' : a < 127 = omega arith in
      let l' : b < 127 = omega arith in
      inr (h', (l', rw (row_is a b h' l') (and (ltb a count) (ltb b count && subtype P a b) (lt→ltb a count h) (and (ltb b count) (subtype P a b) (lt→ltb b count l) (subtype_complete P up (Subtype.above m r))))))

  pub below-is : (a b : ℕ) → below_by rows a b ≡ subtype P a b
  below-is a b =
      decides-same
      (decides-as (decides_or (decides_eq a b) (decides_and (decides-lt a 127) (decides_and (decides-lt b 127) (decides_test (row_bit rows a b))))) (from_row a b) to_row)
      (decides-subtype P up a b)
