-- The answer to a package text (01, "Numbers a package answers with", "Order"): what computes it.
-- Assumes nothing.
use Rattle.std.specs.Prelude.{ℕ, Bool, List, [], ◌∷◌, ◌++◌, length}
use Rattle.std.proofs.Math.Option.{Option, none, some}
use Rattle.meaning.specs.Lists.{Place, first_place}
use Rattle.meaning.specs.Tables.{Package, params_of, named_by}
use Rattle.meaning.specs.Reading.{Answer, answer, Reading, is_read, is_refused, read_text}
use Rattle.meaning.specs.Tests.{breaks10, breaks11, breaks12, breaks21, breaks22, breaks23, breaks24, breaks25, breaks26, breaks27, breaks28, breaks29, breaks30}

-- a rule's number and what it finds
pub record Finding : Type 0 where
  pub number : ℕ
  pub found : Option Place

-- the first place of a rule, by the places at which it is asked (Rules.antt)
abbrev pub of_domains : Package → ℕ → (Package → ℕ → ℕ → Bool) → Finding
of_domains P n breaks = record { number = n; found = first_place P.domains (λ (a : ℕ). P.domains) (breaks P) }

abbrev pub of_classes : Package → ℕ → (Package → ℕ → ℕ → Bool) → Finding
of_classes P n breaks = record { number = n; found = first_place (length P.classes) (λ (a : ℕ). length P.classes) (breaks P) }

abbrev pub of_methods : Package → ℕ → (Package → ℕ → ℕ → Bool) → Finding
of_methods P n breaks = record { number = n; found = first_place (length P.methods) (λ (a : ℕ). length P.methods) (breaks P) }

abbrev pub of_effects : Package → ℕ → (Package → ℕ → ℕ → Bool) → Finding
of_effects P n breaks = record { number = n; found = first_place (length P.effects) (λ (i : ℕ). 1) (breaks P) }

abbrev pub of_parameters : Package → ℕ → (Package → ℕ → ℕ → Bool) → Finding
of_parameters P n breaks = record { number = n; found = first_place (length P.effects) (λ (i : ℕ). length (params_of P (named_by P i))) (breaks P) }

unfoldable pub table_findings : Package → List Finding
unfolding first_place breaks10 breaks11 breaks12 breaks21 breaks22 breaks23 breaks24 breaks25
table_findings P =
    of_domains P 10 breaks10
    ∷ of_methods P 11 breaks11
    ∷ of_methods P 12 breaks12
    ∷ of_classes P 21 breaks21
    ∷ of_classes P 22 breaks22
    ∷ of_methods P 23 breaks23
    ∷ of_methods P 24 breaks24
    ∷ of_methods P 25 breaks25
    ∷ []

unfoldable pub effect_findings : Package → List Finding
unfolding first_place breaks26 breaks27 breaks28 breaks29 breaks30 params_of named_by
effect_findings P =
    of_effects P 26 breaks26 ∷ of_effects P 27 breaks27 ∷ of_effects P 28 breaks28 ∷ of_effects P 29 breaks29 ∷ of_parameters P 30 breaks30 ∷ []

-- the first rule that finds a place; 0 is accepted
abbrev pub named : ℕ → Option Place → Answer → Answer
named n none rest = rest
named n (some p) rest = answer n p.first p.second

unfoldable pub first_found : List Finding → Answer
first_found [] = answer 0 0 0
first_found (x ∷ xs) = named x.number x.found (first_found xs)

unfoldable pub verdict : Package → Answer
unfolding table_findings effect_findings first_found
verdict P = first_found (table_findings P ++ effect_findings P)

abbrev pub answer_of : Reading → Answer
answer_of (is_refused a) = a
answer_of (is_read P) = verdict P

unfoldable pub check_of : List ℕ → Answer
unfolding read_text verdict
check_of s = answer_of (read_text s)
