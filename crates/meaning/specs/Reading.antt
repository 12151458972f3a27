-- Reading a package (01, "Package text" and numbers 1 to 9 of "Numbers a package answers with"): from bytes to tables, or to the
-- first refusal with its number and line. 1 first; then lines in order, and within a line 2; on line 1 then 3 and 4, on later
-- lines 5, 8, 6, 7; then 9.
-- Assumes nothing.
use Rattle.std.specs.Prelude.{ℕ, suc, ◌+◌, ◌*◌, Bool, true, false, ◌&&◌, ◌||◌, cond, List, [], ◌∷◌, ◌++◌, eqb, leb, ltb, length, drop}
use Rattle.std.proofs.Math.Option.{Option, none, some}
use Rattle.meaning.specs.Lists.{all}
use Rattle.meaning.specs.Text.{Line, lines_of, frame_of, byte}
use Rattle.meaning.specs.Kinds.{row_of, fits, follows}
use Rattle.meaning.specs.Tables.{Pair, Class, Field, Method, Effect, Package, field_at, method_at}

-- every answer has a number and two places; unused places are 0
pub record Answer : Type 0 where
  pub number : ℕ
  pub first : ℕ
  pub second : ℕ

abbrev pub answer : ℕ → ℕ → ℕ → Answer
answer n a b = record { number = n; first = a; second = b }

-- what a reader of frames says: the next reader's state, or the number of a refusal
pub data Took (A : Type 0) : Type 0 where
  takes : A → Took A
  refuses : ℕ → Took A

-- refused with this number unless the test passes
abbrev pub need : {A : Type 0} → Bool → ℕ → Took A → Took A
need true n t = t
need false n t = refuses n

-- the tables so far, and the section of the last line: 0 before line 1
pub record Reader : Type 0 where
  pub tables : Package
  pub section : ℕ

-- ---- what is declared

unfoldable pub is_domain : Package → ℕ → Bool
is_domain P d = ltb d P.domains

unfoldable pub is_class : Package → ℕ → Bool
is_class P c = ltb c (length P.classes)

-- the types are the classes
unfoldable pub is_type : Package → ℕ → Bool
unfolding is_class
is_type P c = is_class P c

unfoldable pub is_method : Package → ℕ → Bool
is_method P m = ltb m (length P.methods)

-- a declared field, or method, with this static byte
unfoldable pub is_field : Package → ℕ → ℕ → Bool
is_field P f s = ltb f (length P.fields) && eqb (field_at P f).static s

unfoldable pub is_method_of : Package → ℕ → ℕ → Bool
is_method_of P m s = ltb m (length P.methods) && eqb (method_at P m).static s

-- Ops: 00 new and 01 checkcast (class); 02 getstatic, 03 putstatic (static field); 04 getfield, 05 putfield (instance field);
-- 06 invokestatic (static method); 07 invokemethod (instance method)
unfoldable pub is_named : Package → ℕ → ℕ → Bool
unfolding is_type is_field is_method_of
is_named P op x =
    cond (leb op 1) (is_type P x)
    (cond (leb op 3) (is_field P x 1)
    (cond (leb op 5) (is_field P x 0)
    (cond (eqb op 6) (is_method_of P x 1)
    (cond (eqb op 7) (is_method_of P x 0) false))))

-- "0000 for a static method, otherwise not 0"
unfoldable pub is_slot : ℕ → ℕ → Bool
is_slot static slot = cond (eqb static 1) (eqb slot 0) (ltb 0 slot)

-- FF, or a declared type
unfoldable pub is_result : Package → ℕ → Bool
unfolding is_type
is_result P r = eqb r 0xFF || is_type P r

-- ---- the tables with one frame more

abbrev pub header : ℕ → ℕ → Package
header g nd = record { generation = g; domains = nd; pairs = []; classes = []; fields = []; methods = []; effects = [] }

abbrev pub with_pair : Package → Pair → Package
with_pair P x = record { generation = P.generation; domains = P.domains; pairs = P.pairs ++ (x ∷ []); classes = P.classes; fields = P.fields; methods = P.methods; effects = P.effects }

abbrev pub with_class : Package → Class → Package
with_class P x = record { generation = P.generation; domains = P.domains; pairs = P.pairs; classes = P.classes ++ (x ∷ []); fields = P.fields; methods = P.methods; effects = P.effects }

abbrev pub with_field : Package → Field → Package
with_field P x = record { generation = P.generation; domains = P.domains; pairs = P.pairs; classes = P.classes; fields = P.fields ++ (x ∷ []); methods = P.methods; effects = P.effects }

abbrev pub with_method : Package → Method → Package
with_method P x = record { generation = P.generation; domains = P.domains; pairs = P.pairs; classes = P.classes; fields = P.fields; methods = P.methods ++ (x ∷ []); effects = P.effects }

abbrev pub with_effect : Package → Effect → Package
with_effect P x = record { generation = P.generation; domains = P.domains; pairs = P.pairs; classes = P.classes; fields = P.fields; methods = P.methods; effects = P.effects ++ (x ∷ []) }

abbrev pub pair_of : List ℕ → Pair
pair_of f = record { low = byte f 1; high = byte f 2 }

abbrev pub class_of : List ℕ → Class
class_of f = record { domain = byte f 1; supers = drop 3 f }

abbrev pub field_of : List ℕ → Field
field_of f = record { class = byte f 1; type = byte f 2; static = byte f 3 }

-- slots are two bytes, high first
abbrev pub method_of : List ℕ → Method
method_of f = record { class = byte f 1; label = byte f 2; static = byte f 3; slot = byte f 4 * 256 + byte f 5; result = byte f 6; params = drop 8 f }

abbrev pub effect_of : List ℕ → Effect
effect_of f = record { method = byte f 1; op = byte f 2; number = byte f 3 }

-- ---- a frame

abbrev pub reader : Package → ℕ → Took Reader
reader P s = takes (record { tables = P; section = s })

-- line 1: 3 where it is not three bytes starting 01, or nd is not 1 to 32; 4 where the generation byte is not 02
unfoldable pub take_header : List ℕ → Took Reader
take_header f =
    need (eqb (length f) 3) 3
    (need (eqb (byte f 0) 1) 3
    (need (leb 1 (byte f 2)) 3
    (need (leb (byte f 2) 32) 3
    (need (eqb (byte f 1) 2) 4
    (reader (header (byte f 1) (byte f 2)) 1)))))

-- a later line of each kind: 8 one frame too many, 6 the length, 7 the numbers
unfoldable pub take_pair : Package → List ℕ → Took Reader
unfolding fits is_domain
take_pair P f =
    need (ltb (length P.pairs) 128) 8
    (need (fits f) 6
    (need (is_domain P (byte f 1)) 7
    (need (is_domain P (byte f 2)) 7
    (reader (with_pair P (pair_of f)) 2))))

unfoldable pub take_class : Package → List ℕ → Took Reader
unfolding fits is_domain is_class all
take_class P f =
    need (ltb (length P.classes) 127) 8
    (need (fits f) 6
    (need (is_domain P (byte f 1)) 7
    (need (leb (byte f 2) 4) 7
    (need (all (is_class P) (drop 3 f)) 7
    (reader (with_class P (class_of f)) 3)))))

unfoldable pub take_field : Package → List ℕ → Took Reader
unfolding fits is_class is_type
take_field P f =
    need (ltb (length P.fields) 256) 8
    (need (fits f) 6
    (need (is_class P (byte f 1)) 7
    (need (is_type P (byte f 2)) 7
    (need (leb (byte f 3) 1) 7
    (reader (with_field P (field_of f)) 4)))))

unfoldable pub take_method : Package → List ℕ → Took Reader
unfolding fits is_class is_domain is_slot is_result is_type all
take_method P f =
    need (ltb (length P.methods) 256) 8
    (need (fits f) 6
    (need (is_class P (byte f 1)) 7
    (need (is_domain P (byte f 2)) 7
    (need (leb (byte f 3) 1) 7
    (need (is_slot (byte f 3) (byte f 4 * 256 + byte f 5)) 7
    (need (is_result P (byte f 6)) 7
    (need (leb (byte f 7) 6) 7
    (need (all (is_type P) (drop 8 f)) 7
    (reader (with_method P (method_of f)) 5)))))))))

unfoldable pub take_effect : Package → List ℕ → Took Reader
unfolding fits is_method is_named
take_effect P f =
    need (ltb (length P.effects) 1024) 8
    (need (fits f) 6
    (need (is_method P (byte f 1)) 7
    (need (is_named P (byte f 2) (byte f 3)) 7
    (reader (with_effect P (effect_of f)) 6))))

unfoldable pub take_end : Package → List ℕ → Took Reader
unfolding fits
take_end P f = need (fits f) 6 (reader P 7)

-- 5: unknown kind, falling kind, second header, or a line after 07
unfoldable pub take_later : Reader → List ℕ → Took Reader
unfolding follows row_of take_pair take_class take_field take_method take_effect take_end
take_later R f =
    need (follows 1 7 R.section (row_of (byte f 0)).section) 5
    (cond (eqb (byte f 0) 2) (take_pair R.tables f)
    (cond (eqb (byte f 0) 3) (take_class R.tables f)
    (cond (eqb (byte f 0) 4) (take_field R.tables f)
    (cond (eqb (byte f 0) 5) (take_method R.tables f)
    (cond (eqb (byte f 0) 6) (take_effect R.tables f)
    (take_end R.tables f))))))

unfoldable pub take_frame : Reader → List ℕ → Took Reader
unfolding take_header take_later
take_frame R f = cond (eqb R.section 0) (take_header f) (take_later R f)

-- 2: a line breaks the digit rule, or the last lacks LF
abbrev pub take_if : Reader → Option (List ℕ) → Took Reader
take_if R none = refuses 2
take_if R (some f) = take_frame R f

unfoldable pub take_line : Reader → Line → Took Reader
unfolding frame_of take_frame
take_line R l = take_if R (frame_of l)

-- ---- the whole text

pub data Reading : Type 0 where
  is_read : Package → Reading
  is_refused : Answer → Reading

-- the lines that are left, where n are read: the first refusal, or 9 at lines + 1 where no 07 came
abbrev pub read_next : ℕ → Took Reader → (Reader → Reading) → Reading
read_next n (refuses k) go = is_refused (answer k n 0)
read_next n (takes R) go = go R

abbrev pub read_end : Reader → ℕ → Reading
read_end R n = cond (eqb R.section 7) (is_read R.tables) (is_refused (answer 9 (suc n) 0))

unfoldable pub read_lines : Reader → ℕ → List Line → Reading
unfolding take_line
read_lines R n [] = read_end R n
read_lines R n (l ∷ ls) = read_next (suc n) (take_line R l) (λ (Q : Reader). read_lines Q (suc n) ls)

abbrev pub no_reader : Reader
no_reader = record { tables = header 0 0; section = 0 }

-- 1: text over 32,768 bytes
unfoldable pub read_text : List ℕ → Reading
unfolding lines_of read_lines
read_text s = elim (leb (length s) 32768) [ true ↦ read_lines no_reader 0 (lines_of s) | false ↦ is_refused (answer 1 0 0) ]
