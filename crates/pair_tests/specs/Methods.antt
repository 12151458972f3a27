-- What the rules of two methods ask of the methods themselves, and these rules together.
-- Assumes nothing.
use Rattle.std.specs.Prelude.{ℕ, Option, Some, None, Bool, ◌&&◌, ◌||◌, not, ◌==◌, eqb, take}
use Rattle.std.proofs.Math.Option as M
use Rattle.std.specs.Option.{option_eq}
use Rattle.std.specs.Cmp.Lexicographic.{pointwise}
use Rattle.meaning.specs.Tables.{Package, params_of, result_of}
use Rattle.meaning.specs.Tests.{same_numbers, same_result, breaks12, breaks23, breaks24, breaks25}
use Rattle.tables.specs.declared.elements.Method.{Method}
use Rattle.tables.specs.View.{mode_number}

-- a return type, as `meaning` has it
abbrev pub type_of : Option ℕ → M.Option ℕ
type_of None = M.none
type_of (Some class) = M.some class

-- their return types or parameters differ
abbrev pub differ_by : Method → Method → Bool
differ_by x y = not (option_eq eqb x.result y.result) || not (pointwise eqb (take x.parameter_count x.parameters) (take y.parameter_count y.parameters))

-- what 11 asks of methods of one slot
abbrev pub types_differ : Package → ℕ → ℕ → Bool
types_differ P m n = not (same_numbers (params_of P m) (params_of P n)) || not (same_result (result_of P m) (result_of P n))

-- both are instance methods of one slot
abbrev pub one_slot_by : Method → Method → Bool
one_slot_by x y = mode_number x.mode == 0 && (mode_number y.mode == 0 && x.slot == y.slot)

-- 12, 23, 24 or 25
abbrev pub breaks_some : Package → ℕ → ℕ → Bool
breaks_some P m n = breaks12 P m n || (breaks23 P m n || (breaks24 P m n || breaks25 P m n))
