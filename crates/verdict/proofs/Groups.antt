-- The verdict from the two groups of rules, those of the tables and those of the effects.
-- Assumes nothing.
use native.Mathlib.Omega.{arith}
use mathlib.Core.Path.{◌≡◌, refl, sym}
use mathlib.Core.Option.{Option, none, some}
use mathlib.Core.List.{List, [], ◌∷◌, ◌++◌}
use Rattle.meaning.specs.Lists.{Place}
use Rattle.meaning.specs.Tables.{Package}
use Rattle.rules.specs.declared.Rule.{Rule}
use Rattle.rules.specs.declared.Rule.TheVariants.{MutualDominance, SlotTypesDiffer, SlotDeclaredTwice, DistrustedSubtype, LostSuspicion, DistrustingOverride, OverriddenResult, OverriddenParameter, DistrustedCreation, DistrustedType, DistrustedStaticCall, DistrustedInvocation, UngrantedArgument}
use Rattle.rules.specs.Numbers.{number_of}
use Rattle.meaning.specs.Check.{Finding, named, first_found, table_findings, effect_findings, verdict}

-- ---- two groups of rules, one behind the other

abbrev Numbered : List Finding → Type 0
Numbered [] = Unit {0}
Numbered (x ∷ xs) = (x.number ≡ 0 → ⊥) × Numbered xs

some_first : (xs ys : List Finding) → ((first_found xs).number ≡ 0 → ⊥) → first_found (xs ++ ys) ≡ first_found xs
unfolding first_found
some_first [] ys n = absurd (n refl)
some_first (x ∷ xs) ys n = on x.found n (some_first xs ys)
  where
    on : (o : Option Place) → ((named x.number o (first_found xs)).number ≡ 0 → ⊥) → (((first_found xs).number ≡ 0 → ⊥) → first_found (xs ++ ys) ≡ first_found xs)
        → named x.number o (first_found (xs ++ ys)) ≡ named x.number o (first_found xs)
    on none m f = f m
    on (some p) m f = refl

none_first : (xs ys : List Finding) → Numbered xs → (first_found xs).number ≡ 0 → first_found (xs ++ ys) ≡ first_found ys
unfolding first_found
none_first [] ys n e = refl
none_first (x ∷ xs) ys n e = on x.found e (none_first xs ys n.1)
  where
    on : (o : Option Place) → (named x.number o (first_found xs)).number ≡ 0 → ((first_found xs).number ≡ 0 → first_found (xs ++ ys) ≡ first_found ys)
        → named x.number o (first_found (xs ++ ys)) ≡ first_found ys
    on none m f = f m
    on (some p) m f = absurd (n.0 m)

table-numbered : (P : Package) → Numbered (table_findings P)
unfolding table_findings
table-numbered P = ((λ e. omega arith), ((λ e. omega arith), ((λ e. omega arith), ((λ e. omega arith), ((λ e. omega arith), ((λ e. omega arith), ((λ e. omega arith), ((λ e. omega arith), tt))))))))

module _ (P : Package) where
  pub table-first : ((first_found (table_findings P)).number ≡ 0 → ⊥) → first_found (table_findings P) ≡ verdict P
  unfolding verdict
  table-first n = sym (some_first (table_findings P) (effect_findings P) n)

  pub effect-first : (first_found (table_findings P)).number ≡ 0 → first_found (effect_findings P) ≡ verdict P
  unfolding verdict
  effect-first e = sym (none_first (table_findings P) (effect_findings P) (table-numbered P) e)

-- ---- no rule has the number of what is accepted

pub numbered : (rule : Rule) → number_of rule ≡ 0 → ⊥
numbered MutualDominance e = omega arith
numbered SlotTypesDiffer e = omega arith
numbered SlotDeclaredTwice e = omega arith
numbered DistrustedSubtype e = omega arith
numbered LostSuspicion e = omega arith
numbered DistrustingOverride e = omega arith
numbered OverriddenResult e = omega arith
numbered OverriddenParameter e = omega arith
numbered DistrustedCreation e = omega arith
numbered DistrustedType e = omega arith
numbered DistrustedStaticCall e = omega arith
numbered DistrustedInvocation e = omega arith
numbered UngrantedArgument e = omega arith
