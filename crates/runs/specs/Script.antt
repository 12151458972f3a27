-- Reading a run text (01, "Run text" and numbers 51 to 60): from bytes to the start and the steps, or to the first refusal with its number
-- and line. 51 first; then lines in order, and within a line 52; on line 1 then 53, on later lines 55, 58, 56, 57, 60; then 59.
-- Assumes nothing.
use Rattle.std.specs.Prelude.{ℕ, suc, Bool, true, false, ◌&&◌, not, cond, List, [], ◌∷◌, ◌++◌, eqb, leb, ltb, length, drop}
use Rattle.std.proofs.Math.Option.{Option, none, some}
use Rattle.meaning.specs.Lists.{any, all}
use Rattle.meaning.specs.Text.{Line, lines_of, frame_of, byte}
use Rattle.meaning.specs.Kinds.{row_of, fits, follows}
use Rattle.meaning.specs.Tables.{Package, Field, params_of}
use Rattle.meaning.specs.Reading.{Answer, answer, Took, takes, refuses, need, is_class, is_type, is_method, is_field, is_method_of}
use Rattle.runs.specs.Machine.{Object, Link, Label, State, Step, widen, new, checkcast, getstatic, putstatic, getfield, putfield, invokestatic, invokemethod, return, no_owner, object, label, same_link, same_label, add_all}
use Rattle.runs.specs.Steps.{in_pool, is_a}
use Rattle.runs.specs.Run.{Placed, placed}

-- what is read so far: the section of the last line, 0 before line 1; the entry method; the lines 11, 12 and 13, 14 and the steps as they
-- were read, repeated ones too
pub record Reader : Type 0 where
  pub section : ℕ
  pub entry : ℕ
  pub objects : List Object
  pub links : List Link
  pub labels : List Label
  pub steps : List Placed

-- ---- what 57 and 60 ask

-- references are 00 to FE
unfoldable pub is_reference : ℕ → Bool
is_reference r = not (eqb r 0xFF)

-- a declared field with this class, type and static byte
unfoldable pub is_field_of : ℕ → ℕ → ℕ → Field → Bool
is_field_of c t s f = eqb f.class c && (eqb f.type t && eqb f.static s)

unfoldable pub some_field : Package → ℕ → ℕ → ℕ → Bool
unfolding any is_field_of
some_field P c t s = any (is_field_of c t s) P.fields

-- ---- what is read with one line more

abbrev pub with_object_line : Reader → Object → Reader
with_object_line R x = record { section = 0x11; entry = R.entry; objects = R.objects ++ (x ∷ []); links = R.links; labels = R.labels; steps = R.steps }

abbrev pub with_link_line : Reader → ℕ → Link → Reader
with_link_line R k x = record { section = k; entry = R.entry; objects = R.objects; links = R.links ++ (x ∷ []); labels = R.labels; steps = R.steps }

abbrev pub with_label_line : Reader → Label → Reader
with_label_line R x = record { section = 0x14; entry = R.entry; objects = R.objects; links = R.links; labels = R.labels ++ (x ∷ []); steps = R.steps }

abbrev pub with_step : Reader → Placed → Reader
with_step R x = record { section = 0x20; entry = R.entry; objects = R.objects; links = R.links; labels = R.labels; steps = R.steps ++ (x ∷ []) }

abbrev pub at_end : Reader → Reader
at_end R = record { section = 0x2F; entry = R.entry; objects = R.objects; links = R.links; labels = R.labels; steps = R.steps }

-- ---- a frame

-- line 1: 53 where it is not 10 and a declared method
unfoldable pub take_entry : Package → List ℕ → Took Reader
unfolding is_method
take_entry P f =
    need (eqb (length f) 2) 53
    (need (eqb (byte f 0) 0x10) 53
    (need (is_method P (byte f 1)) 53
    (takes (record { section = 0x10; entry = byte f 1; objects = []; links = []; labels = []; steps = [] }))))

-- 11 rr cc
unfoldable pub take_object : Package → Reader → List ℕ → Took Reader
unfolding fits is_reference is_type in_pool
take_object P R f =
    need (fits f) 56
    (need (is_reference (byte f 1)) 57
    (need (is_type P (byte f 2)) 57
    (need (not (in_pool R.objects (byte f 1))) 57
    (takes (with_object_line R (object (byte f 1) (byte f 2)))))))

-- 12 cc tt qq
unfoldable pub take_static_link : Package → Reader → List ℕ → Took Reader
unfolding fits is_class is_type some_field in_pool is_a
take_static_link P R f =
    need (ltb (length R.links) 256) 58
    (need (fits f) 56
    (need (is_class P (byte f 1)) 57
    (need (is_type P (byte f 2)) 57
    (need (some_field P (byte f 1) (byte f 2) 1) 57
    (need (in_pool R.objects (byte f 3)) 57
    (need (is_a P R.objects (byte f 3) (byte f 2)) 60
    (takes (with_link_line R 0x12 (record { owner = no_owner; declared = byte f 1; type = byte f 2; target = byte f 3 })))))))))

-- 13 pp cc tt qq
unfoldable pub take_object_link : Package → Reader → List ℕ → Took Reader
unfolding fits is_class is_type some_field in_pool is_a
take_object_link P R f =
    need (ltb (length R.links) 256) 58
    (need (fits f) 56
    (need (in_pool R.objects (byte f 1)) 57
    (need (is_class P (byte f 2)) 57
    (need (is_type P (byte f 3)) 57
    (need (some_field P (byte f 2) (byte f 3) 0) 57
    (need (in_pool R.objects (byte f 4)) 57
    (need (is_a P R.objects (byte f 4) (byte f 3)) 60
    (need (is_a P R.objects (byte f 1) (byte f 2)) 60
    (takes (with_link_line R 0x13 (record { owner = byte f 1; declared = byte f 2; type = byte f 3; target = byte f 4 })))))))))))

-- 14 rr cc
unfoldable pub take_label : Package → Reader → List ℕ → Took Reader
unfolding fits is_type in_pool is_a
take_label P R f =
    need (ltb (length R.labels) 32) 58
    (need (fits f) 56
    (need (in_pool R.objects (byte f 1)) 57
    (need (is_type P (byte f 2)) 57
    (need (is_a P R.objects (byte f 1) (byte f 2)) 60
    (takes (with_label_line R (label (byte f 1) (byte f 2))))))))

-- the step of a frame, or 57: 20 rr bb, 21 rr bb, 22 rr bb; 23 ff qq, 24 ff qq; 25 ff pp qq, 26 ff pp qq; 27 nn k r..; 28 nn vv r0 k r..; 29 rr
unfoldable pub on_type : Package → List ℕ → Step → Took Step
unfolding is_reference is_type
on_type P f k =
    need (is_reference (byte f 1)) 57
    (need (is_type P (byte f 2)) 57
    (takes k))

unfoldable pub on_static : Package → List ℕ → Step → Took Step
unfolding is_field is_reference
on_static P f k =
    need (is_field P (byte f 1) 1) 57
    (need (is_reference (byte f 2)) 57
    (takes k))

unfoldable pub on_field : Package → List ℕ → Step → Took Step
unfolding is_field is_reference
on_field P f k =
    need (is_field P (byte f 1) 0) 57
    (need (is_reference (byte f 2)) 57
    (need (is_reference (byte f 3)) 57
    (takes k)))

unfoldable pub on_static_method : Package → List ℕ → Step → Took Step
unfolding is_method_of params_of is_reference all
on_static_method P f k =
    need (is_method_of P (byte f 1) 1) 57
    (need (eqb (byte f 2) (length (params_of P (byte f 1)))) 57
    (need (all is_reference (drop 3 f)) 57
    (takes k)))

unfoldable pub on_method : Package → List ℕ → Step → Took Step
unfolding is_method_of params_of is_reference all
on_method P f k =
    need (is_method_of P (byte f 1) 0) 57
    (need (is_method_of P (byte f 2) 0) 57
    (need (is_reference (byte f 3)) 57
    (need (eqb (byte f 4) (length (params_of P (byte f 1)))) 57
    (need (all is_reference (drop 5 f)) 57
    (takes k)))))

unfoldable pub step_of : Package → List ℕ → Took Step
unfolding on_type on_static on_field on_static_method on_method
step_of P f =
    cond (eqb (byte f 0) 0x20) (on_type P f (widen (byte f 1) (byte f 2)))
    (cond (eqb (byte f 0) 0x21) (on_type P f (new (byte f 1) (byte f 2)))
    (cond (eqb (byte f 0) 0x22) (on_type P f (checkcast (byte f 1) (byte f 2)))
    (cond (eqb (byte f 0) 0x23) (on_static P f (getstatic (byte f 1) (byte f 2)))
    (cond (eqb (byte f 0) 0x24) (on_static P f (putstatic (byte f 1) (byte f 2)))
    (cond (eqb (byte f 0) 0x25) (on_field P f (getfield (byte f 1) (byte f 2) (byte f 3)))
    (cond (eqb (byte f 0) 0x26) (on_field P f (putfield (byte f 1) (byte f 2) (byte f 3)))
    (cond (eqb (byte f 0) 0x27) (on_static_method P f (invokestatic (byte f 1) (drop 3 f)))
    (cond (eqb (byte f 0) 0x28) (on_method P f (invokemethod (byte f 1) (byte f 2) (byte f 3) (drop 5 f)))
    (takes (return (byte f 1)))))))))))

abbrev pub place_step : Reader → ℕ → Took Step → Took Reader
place_step R n (refuses x) = refuses x
place_step R n (takes k) = takes (with_step R (placed n k))

unfoldable pub take_step : Package → Reader → ℕ → List ℕ → Took Reader
unfolding fits step_of
take_step P R n f =
    need (ltb (length R.steps) 1024) 58
    (need (fits f) 56
    (place_step R n (step_of P f)))

-- 2F
unfoldable pub take_end : Reader → List ℕ → Took Reader
unfolding fits
take_end R f = need (fits f) 56 (takes (at_end R))

-- 55: unknown kind, falling kind, second 10, a start line after a step, or a line after 2F
unfoldable pub take_later : Package → Reader → ℕ → List ℕ → Took Reader
unfolding follows row_of take_object take_static_link take_object_link take_label take_step take_end
take_later P R n f =
    need (follows 0x10 0x2F R.section (row_of (byte f 0)).section) 55
    (cond (eqb (byte f 0) 0x11) (take_object P R f)
    (cond (eqb (byte f 0) 0x12) (take_static_link P R f)
    (cond (eqb (byte f 0) 0x13) (take_object_link P R f)
    (cond (eqb (byte f 0) 0x14) (take_label P R f)
    (cond (eqb (byte f 0) 0x2F) (take_end R f)
    (take_step P R n f))))))

unfoldable pub take_frame : Package → Reader → ℕ → List ℕ → Took Reader
unfolding take_entry take_later
take_frame P R n f = cond (eqb R.section 0) (take_entry P f) (take_later P R n f)

-- 52: a line breaks the digit rule, or the last lacks LF
abbrev pub take_if : Package → Reader → ℕ → Option (List ℕ) → Took Reader
take_if P R n none = refuses 52
take_if P R n (some f) = take_frame P R n f

-- the line of this number
unfoldable pub take_line : Package → Reader → ℕ → Line → Took Reader
unfolding frame_of take_frame
take_line P R n l = take_if P R n (frame_of l)

-- ---- the whole text

pub record Script : Type 0 where
  pub start : State
  pub steps : List Placed

pub data ScriptReading : Type 0 where
  is_script : Script → ScriptReading
  is_none : Answer → ScriptReading

-- the entry method runs over exactly the labels of the 14 lines
unfoldable pub start_of : Reader → State
unfolding add_all same_link same_label
start_of R = record { pool = R.objects; links = add_all same_link R.links []; labels = add_all same_label R.labels []; method = R.entry; saved = [] }

-- the lines that are left, where n are read: the first refusal, or 59 at lines + 1 where no 2F came
abbrev pub read_next : ℕ → Took Reader → (Reader → ScriptReading) → ScriptReading
read_next n (refuses k) go = is_none (answer k n 0)
read_next n (takes R) go = go R

unfoldable pub read_end : Reader → ℕ → ScriptReading
unfolding start_of
read_end R n = cond (eqb R.section 0x2F) (is_script (record { start = start_of R; steps = R.steps })) (is_none (answer 59 (suc n) 0))

unfoldable pub read_lines : Package → Reader → ℕ → List Line → ScriptReading
unfolding take_line read_end
read_lines P R n [] = read_end R n
read_lines P R n (l ∷ ls) = read_next (suc n) (take_line P R (suc n) l) (λ (Q : Reader). read_lines P Q (suc n) ls)

abbrev pub no_reader : Reader
no_reader = record { section = 0; entry = 0; objects = []; links = []; labels = []; steps = [] }

-- 51: text over 32,768 bytes
abbrev pub read_short : Package → List ℕ → Bool → ScriptReading
read_short P s true = read_lines P no_reader 0 (lines_of s)
read_short P s false = is_none (answer 51 0 0)

unfoldable pub read_script : Package → List ℕ → ScriptReading
unfolding lines_of read_lines
read_script P s = read_short P s (leb (length s) 32768)
