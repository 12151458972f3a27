-- The numbers with which texts are refused.
use Rattle.std.specs.Prelude.{ℕ, ◌+◌}
use Rattle.sections.specs.declared.refusal.Refusal.{Refusal}
use Rattle.sections.specs.declared.refusal.Refusal.TheVariants.{TooLong, BadLine, BadHeader, BadGeneration, BadKind, BadLength, BadNumber, TooMany, NoEnd, IllTyped}

-- a package text
abbrev pub number_of : Refusal → ℕ
number_of TooLong = 1
number_of BadLine = 2
number_of BadHeader = 3
number_of BadGeneration = 4
number_of BadKind = 5
number_of BadLength = 6
number_of BadNumber = 7
number_of TooMany = 8
number_of NoEnd = 9
number_of IllTyped = 10

-- a run text
abbrev pub run_number_of : Refusal → ℕ
run_number_of r = 50 + number_of r
