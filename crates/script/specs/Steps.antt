-- The step that a frame stands for, and whether what it names is declared.
use Rattle.std.specs.Prelude.{ℕ, Bool, true, ◌&&◌, ◌==◌, ◌≤◌, List, [], ◌∷◌, length, slice_index, slice_index_or, Option, Some, None, if◌then◌else◌, ⊤}
use Rattle.std.proofs.Math.Decide.{dec_le}
use Rattle.std.proofs.Common.{le_trans, lit≤}
use Rattle.machine.specs.Step.{arguments_of, no_step}
use Rattle.std.specs.List.{list_all}
use Rattle.meaning.specs.Tables.{Package, params_of}
use Rattle.meaning.specs.Reading.{is_type, is_field, is_method_of}
use Rattle.runs.specs.Script.{is_reference}
use Rattle.text.specs.declared.frame.Frame.{Frame}
use Rattle.machine.specs.declared.arguments.Arguments.{Arguments}
use Rattle.machine.specs.declared.step.Step.{Step}
use Rattle.machine.specs.declared.step.Placed.{Placed}
use Rattle.machine.specs.declared.step.Step.TheVariants.{Widen, New, CheckCast, GetStatic, PutStatic, GetField, PutField, InvokeStatic, InvokeMethod, Return}

abbrev pub byte : Frame → ℕ → ℕ
byte f i = slice_index f.bytes i

-- what stands behind the sixth argument
abbrev pub no_more : List ℕ
no_more = 0 ∷ 0 ∷ 0 ∷ 0 ∷ 0 ∷ 0 ∷ 0 ∷ []

-- six objects in the places of a step's arguments
abbrev pub places_of : List ℕ → List ℕ
places_of objects = slice_index objects 0 ∷ slice_index objects 1 ∷ slice_index objects 2 ∷ slice_index objects 3 ∷ slice_index objects 4 ∷ slice_index objects 5 ∷ no_more

-- no more than a step has room for
pub within : {count : ℕ} → count ≤ 6 → count ≤ 13
within few = le_trans few (lit≤ tt)

-- so many of these objects, unless they are more than a method takes
abbrev pub arguments_by : (count : ℕ) → List ℕ → Dec (count ≤ 6) → Option Arguments
arguments_by count objects (yes few) = Some (record { count = count; objects = places_of objects; few = within few })
arguments_by count objects (no many) = None

unfoldable pub arguments_in : ℕ → List ℕ → Option Arguments
arguments_in count objects = arguments_by count objects (dec_le count 6)

-- FF returns nothing
abbrev pub value_in : ℕ → Option ℕ
value_in object = if is_reference object then Some object else None

abbrev pub with_arguments : Option Arguments → (Arguments → Step) → Option Step
with_arguments None call = None
with_arguments (Some arguments) call = Some (call arguments)

-- 20 rr bb, 21 rr bb, 22 rr bb; 23 ff qq, 24 ff qq; 25 ff pp qq, 26 ff pp qq; 27 nn k r..; 28 nn vv r0 k r..; 29 rr
unfoldable pub step_by : (kind b1 b2 b3 b4 b5 b6 b7 b8 b9 b10 : ℕ) → Option Step
step_by kind b1 b2 b3 b4 b5 b6 b7 b8 b9 b10 =
    if kind == 0x20 then Some (Widen b1 b2)
    else if kind == 0x21 then Some (New b1 b2)
    else if kind == 0x22 then Some (CheckCast b1 b2)
    else if kind == 0x23 then Some (GetStatic b1 b2)
    else if kind == 0x24 then Some (PutStatic b1 b2)
    else if kind == 0x25 then Some (GetField b1 b2 b3)
    else if kind == 0x26 then Some (PutField b1 b2 b3)
    else if kind == 0x27 then with_arguments (arguments_in b2 (b3 ∷ b4 ∷ b5 ∷ b6 ∷ b7 ∷ b8 ∷ [])) (InvokeStatic b1)
    else if kind == 0x28 then with_arguments (arguments_in b4 (b5 ∷ b6 ∷ b7 ∷ b8 ∷ b9 ∷ b10 ∷ [])) (InvokeMethod b1 b2 b3)
    else Some (Return (value_in b1))

unfoldable pub step_in : Frame → Option Step
unfolding step_by
step_in f = step_by (byte f 0) (byte f 1) (byte f 2) (byte f 3) (byte f 4) (byte f 5) (byte f 6) (byte f 7) (byte f 8) (byte f 9) (byte f 10)

-- the arguments are as many as the method takes, and each is a reference
abbrev pub are_for : Package → ℕ → Arguments → Bool
are_for P m arguments = (length (arguments_of arguments) == length (params_of P m)) && list_all is_reference (arguments_of arguments)

-- a call has at most six arguments, as many as a method may take
abbrev pub HasFewArguments : Step → Type 0
HasFewArguments (Widen r b) = ⊤
HasFewArguments (New r b) = ⊤
HasFewArguments (CheckCast r b) = ⊤
HasFewArguments (GetStatic f q) = ⊤
HasFewArguments (PutStatic f q) = ⊤
HasFewArguments (GetField f p q) = ⊤
HasFewArguments (PutField f p q) = ⊤
HasFewArguments (InvokeStatic n rs) = rs.count ≤ 6
HasFewArguments (InvokeMethod n v r rs) = rs.count ≤ 6
HasFewArguments (Return r) = ⊤

-- each call of these steps
abbrev pub HaveFewArguments : List Placed → Type 0
HaveFewArguments steps = (place : ℕ) → HasFewArguments (slice_index_or steps place no_step).step

-- the numbers that a step names are declared, and each of its references is one. Whether there are such objects is asked when it is taken
abbrev pub is_named : Package → Step → Bool
is_named P (Widen r b) = is_reference r && is_type P b
is_named P (New r b) = is_reference r && is_type P b
is_named P (CheckCast r b) = is_reference r && is_type P b
is_named P (GetStatic f q) = is_field P f 1 && is_reference q
is_named P (PutStatic f q) = is_field P f 1 && is_reference q
is_named P (GetField f p q) = is_field P f 0 && (is_reference p && is_reference q)
is_named P (PutField f p q) = is_field P f 0 && (is_reference p && is_reference q)
is_named P (InvokeStatic n rs) = is_method_of P n 1 && are_for P n rs
is_named P (InvokeMethod n v r rs) = is_method_of P n 0 && (is_method_of P v 0 && (is_reference r && are_for P n rs))
is_named P (Return r) = true
