-- Whether each number in a frame is declared: `meaning`'s tests of each kind, over the frame as the code keeps it and what stands before it.
-- That they are `meaning`'s: proofs/Judged.antt.
-- Assumes nothing.
use Rattle.std.specs.Prelude.{ℕ, ◌+◌, ◌*◌, Bool, false, ◌&&◌, ◌||◌, cond, List, eqb, leb, ltb, length, take, drop, get_or, slice_get, Option, Some, None}
use Rattle.std.specs.List.{list_all}
use Rattle.meaning.specs.Reading.{is_slot}
use Rattle.text.specs.declared.frame.Frame.{Frame}
use Rattle.tables.specs.declared.elements.Field.{Field}
use Rattle.tables.specs.declared.elements.Method.{Method}
use Rattle.tables.specs.View.{mode_number}

-- the byte of a frame at a place
abbrev pub at : Frame → ℕ → ℕ
at f i = get_or f.bytes i 0

-- one of n
abbrev pub below : ℕ → ℕ → Bool
below n x = ltb x n

-- the count byte at a place is at most so much, and the bytes that it counts, behind it, are each one of n
unfoldable pub counted_in : Frame → ℕ → ℕ → ℕ → Bool
counted_in f i most n = leb (at f i) most && list_all (below n) (take (at f i) (drop (i + 1) f.bytes))

abbrev pub slot_in : Frame → ℕ
slot_in f = at f 4 * 256 + at f 5

-- a field, or a method, of this number has the mode of this byte
abbrev pub of_mode : ℕ → Option ℕ → Bool
of_mode mode (Some x) = eqb x mode
of_mode mode None = false

abbrev pub field_mode : Option Field → Option ℕ
field_mode (Some x) = Some (mode_number x.mode)
field_mode None = None

abbrev pub method_mode : Option Method → Option ℕ
method_mode (Some x) = Some (mode_number x.mode)
method_mode None = None

unfoldable pub has_field : List Field → ℕ → ℕ → Bool
has_field fields x mode = of_mode mode (field_mode (slice_get fields x))

unfoldable pub has_method : List Method → ℕ → ℕ → Bool
has_method methods x mode = of_mode mode (method_mode (slice_get methods x))

-- what an operation names
unfoldable pub named_in : ℕ → List Field → List Method → ℕ → ℕ → Bool
named_in nc fs ms op x =
    cond (leb op 1) (below nc x)
    (cond (leb op 3) (has_field fs x 1)
    (cond (leb op 5) (has_field fs x 0)
    (cond (eqb op 6) (has_method ms x 1)
    (cond (eqb op 7) (has_method ms x 0) false))))

abbrev pub pair_declared : ℕ → ℕ → Frame → Bool
pair_declared nd n f = below nd (at f 1) && below nd (at f 2)

abbrev pub class_declared : ℕ → ℕ → Frame → Bool
class_declared nd n f = below nd (at f 1) && counted_in f 2 4 n

abbrev pub field_declared : ℕ → ℕ → Frame → Bool
field_declared nc n f = (below nc (at f 1) && below nc (at f 2)) && leb (at f 3) 1

abbrev pub method_declared : ℕ → ℕ → ℕ → Frame → Bool
method_declared nd nc n f =
    ((((below nc (at f 1) && below nd (at f 2)) && leb (at f 3) 1) && is_slot (at f 3) (slot_in f)) && (eqb (at f 6) 0xFF || below nc (at f 6)))
    && counted_in f 7 6 nc

abbrev pub effect_declared : ℕ → List Field → List Method → ℕ → Frame → Bool
effect_declared nc fs ms n f = below (length ms) (at f 1) && named_in nc fs ms (at f 2) (at f 3)
