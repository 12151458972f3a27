-- What the table of kinds says of a section: which frames may follow one, and which kinds it has. A rule of the table is one computed test.
use Prim.Native.Nat.{ℕ, ◌≤◌, ◌<◌}
use native.Mathlib.Omega.{arith}
use mathlib.Core.Path.{◌≡◌, refl, subst}
use mathlib.Core.Logic.{◌⊎◌, inl, inr}
use mathlib.Core.Bool.{Bool, ◌||◌, ◌&&◌, not}
use mathlib.Core.Option.{Option, none, some}
use lib.Dec.{T, eqb, leb, eqb→eq, leb→le, le→leb}
use borrow.Author.Tests.{eqb-false, not-true}
use Rattle.meaning.specs.Lists.{In, all, first}
use Rattle.meaning.specs.Kinds.{row_of, follows, kinds, unknown, or_unknown}
use Rattle.meaning.specs.Kinds as M
use Rattle.meaning.proofs.Bools.{both, either, passes-true, Decides, decides_and, decides-lt}
use Rattle.meaning.proofs.Lists.{all_sound, first_some}

-- a row is the unknown one, or one of the table's with this number
data Row (b : ℕ) : M.Kind → Type 0 where
  other : Row b unknown
  listed : {k : M.Kind} → In k kinds → k.kind ≡ b → Row b k

row_of_lem : (b : ℕ) → Row b (row_of b)
unfolding row_of
row_of_lem b = on (first numbered kinds) refl
  where
    numbered : M.Kind → Bool
    numbered k = eqb k.kind b

    on : (o : Option M.Kind) → first numbered kinds ≡ o → Row b (or_unknown o)
    on none e = other
    on (some k) e = let w = first_some numbered k kinds e in listed w.0 (eqb→eq k.kind b w.1)

decides-le : (m n : ℕ) → Decides (leb m n) (m ≤ n)
decides-le m n = record { sound = leb→le m n; complete = le→leb m n }

pub decides-follows : (o e b s : ℕ) → Decides (follows o e b s) ((o < s) × ((s ≤ e) × ((b ≤ s) × (b < e))))
unfolding follows
decides-follows o e b s = decides_and (decides-lt o s) (decides_and (decides-le s e) (decides_and (decides-le b s) (decides-lt b e)))

-- what the table's rows pass, and the row of what is no kind, every kind's row passes
pub each_row : (p : M.Kind → Bool) → T (all p kinds) → T (p M.unknown) → (b : ℕ) → T (p (row_of b))
each_row p t u b = on (row_of_lem b)
  where
    on : {k : M.Kind} → Row b k → T (p k)
    on other = u
    on (listed i e) = all_sound p t i

-- rows of section k have kinds that pass the test
abbrev pub only : ℕ → (ℕ → Bool) → M.Kind → Bool
only k q x = not (eqb x.section k) || q x.kind

of_section_lem : (k : ℕ) (q : ℕ → Bool) (b : ℕ) → 0 < k → T (all (only k q) kinds) → (row_of b).section ≡ k → T (q b)
of_section_lem k q b h t = on (row_of_lem b)
  where
    on : {x : M.Kind} → Row b x → x.section ≡ k → T (q b)
    on other e = absurd (omega arith)
    on (listed {k = x} i e) g = pick (either (not (eqb x.section k)) (q x.kind) (all_sound (only k q) t i))
      where
        pick : T (not (eqb x.section k)) ⊎ T (q x.kind) → T (q b)
        pick (inl u) = absurd (eqb-false x.section k (not-true (eqb x.section k) (passes-true (not (eqb x.section k)) u)) g)
        pick (inr u) = subst (λ (b : ℕ). T (q b)) e u

-- a section of one kind, which has its number
pub kind-is : (k b : ℕ) → 0 < k → T (all (only k (λ b. eqb b k)) kinds) → (row_of b).section ≡ k → b ≡ k
kind-is k b h t e = eqb→eq b k (of_section_lem k (λ b. eqb b k) b h t e)

-- a kind of step is one of 20 to 29
pub step-kind : (b : ℕ) → (row_of b).section ≡ 0x20 → (0x20 ≤ b) × (b ≤ 0x29)
unfolding all
step-kind b e =
    let t = of_section_lem 0x20 (λ b. leb 0x20 b && leb b 0x29) b (omega arith) tt e in
    let w = both (leb 0x20 b) (leb b 0x29) t in
    (leb→le 0x20 b w.0, leb→le b 0x29 w.1)
