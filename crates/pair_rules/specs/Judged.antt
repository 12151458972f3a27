-- What the code says of some rules in their order: nothing where none is broken, else the first that is.
-- Assumes nothing.
use Rattle.std.specs.Prelude.{ℕ, ◌<◌, ◌≡◌, Bool, Option, Some, None, Result, Ok, Err, List, [], ◌∷◌, IfSome}
use Rattle.meaning.specs.Lists.{first_place}
use Rattle.meaning.specs.Reading as M
use Rattle.meaning.specs.Check.{Finding, named}
use Rattle.rules.specs.declared.Rule.{Rule}
use Rattle.rules.specs.declared.Broken.{Broken}
use Rattle.rules.specs.Numbers.{number_of}

-- a rule's number and its first pair
abbrev pub finding : ℕ → ℕ → (ℕ → ℕ → Bool) → Finding
finding number count breaks = record { number = number; found = first_place count (λ (a : ℕ). count) breaks }

abbrev pub broken_at : Rule → Option (ℕ × ℕ) → Result (Unit {0}) Broken
broken_at rule None = Ok tt
broken_at rule (Some p) = Err (record { rule = rule; first = p.0; second = p.1 })

-- both places fit an answer
abbrev pub AreSmall : Option (ℕ × ℕ) → Type 0
AreSmall found = IfSome found (λ p. (p.0 < 65536) × (p.1 < 65536))

-- what is answered where the rules that follow answer `rest`
abbrev pub answered_or : {T : Type 0} → Result T Broken → M.Answer → M.Answer
answered_or (Ok x) rest = rest
answered_or (Err b) rest = M.answer (number_of b.rule) b.first b.second

unfoldable pub named_or : List Finding → M.Answer → M.Answer
named_or [] rest = rest
named_or (x ∷ xs) rest = named x.number x.found (named_or xs rest)

-- the result says what these findings do
pub record Says {T : Type 0} (result : Result T Broken) (xs : List Finding) : Type 0 where
  pub says : (rest : M.Answer) → answered_or result rest ≡ named_or xs rest
