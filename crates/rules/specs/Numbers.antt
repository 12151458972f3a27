-- The rules' numbers, and what a search of the rules says, as `meaning` answers it.
-- Assumes nothing.
use Rattle.std.specs.Prelude.{ℕ, Result, Ok, Err}
use Rattle.meaning.specs.Reading as M
use Rattle.rules.specs.declared.Rule.{Rule}
use Rattle.rules.specs.declared.Rule.TheVariants.{MutualDominance, SlotTypesDiffer, SlotDeclaredTwice, DistrustedSubtype, LostSuspicion, DistrustingOverride, OverriddenResult, OverriddenParameter, DistrustedCreation, DistrustedType, DistrustedStaticCall, DistrustedInvocation, UngrantedArgument}
use Rattle.rules.specs.declared.Broken.{Broken}

abbrev pub number_of : Rule → ℕ
number_of MutualDominance = 10
number_of SlotTypesDiffer = 11
number_of SlotDeclaredTwice = 12
number_of DistrustedSubtype = 21
number_of LostSuspicion = 22
number_of DistrustingOverride = 23
number_of OverriddenResult = 24
number_of OverriddenParameter = 25
number_of DistrustedCreation = 26
number_of DistrustedType = 27
number_of DistrustedStaticCall = 28
number_of DistrustedInvocation = 29
number_of UngrantedArgument = 30

-- what is said where no rule is broken is 0; else the rule's number and its places
abbrev pub answered : {T : Type 0} → Result T Broken → M.Answer
answered (Ok x) = M.answer 0 0 0
answered (Err b) = M.answer (number_of b.rule) b.first b.second
