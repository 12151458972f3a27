-- The worked run of 01, "Programs", as bytes; a run with a step of each kind; and runs that are refused, with the buffer that each leaves.
-- Assumes nothing.
use Rattle.std.specs.Prelude.{ℕ, zero, suc, ◌≤◌, ◌≡◌, List, [], ◌∷◌, ◌++◌, length, drop}
use Prim.Native.String.{String}
use Rattle.meaning.specs.Reading.{Answer, answer}
use Rattle.meaning.specs.Examples.{bytes, variant}
use Rattle.runs.specs.Holdings.{hex, holding, line_of}
use Rattle.runs.specs.Programs.{run_of}

-- the package: variant (a) of meaning
unfoldable pub sample : List ℕ
unfolding variant
sample = variant "010205\n" "" "" "050404010000FF00\n050303000001FF0101\n" ""

-- what `run` is given
unfoldable pub worked : List ℕ
unfolding bytes sample
worked = sample ++ bytes "1000\n210002\n210103\n200001\n280101010100\n2F\n"

-- and what it prints
unfoldable pub printed : List ℕ
unfolding bytes
printed = bytes "2E0000000004\n30030001\n30030103\n30040001\n30040002\n30040103\n"

-- ---- more runs, with the answer and the bytes that the buffer then begins with

pub record Case : Type 0 where
  pub given : List ℕ
  pub text : List ℕ
  pub answers : Answer
  pub writes : List ℕ

abbrev pub case : List ℕ → List ℕ → Answer → List ℕ → Case
case p t a w = record { given = p; text = t; answers = a; writes = w }

-- with any buffer that is long enough; what stands behind stays
abbrev pub Right : Case → Type 0
Right c = (b : List ℕ) → 7200 ≤ length b → run_of c.given c.text b ≡ record { answer = c.answers; length = length c.writes; buffer = c.writes ++ drop (length c.writes) b }

abbrev pub AllRight : List Case → Type 0
AllRight [] = Unit {0}
AllRight (c ∷ cs) = Right c × AllRight cs

-- the sample with a static and an instance field of class 4 and type 2, a static method 2 that takes and returns class 2, and an effect of method 0 for each op
unfoldable pub fielded : List ℕ
unfolding variant
fielded =
    variant "010205\n" "" "04040201\n04040200\n" "050404010000FF00\n050303000001FF0101\n050404010000020102\n" "06000102\n06000200\n06000300\n06000401\n06000501\n06000602\n"

-- variant (h): method 2 of class 5 overrides method 1 of class 3
unfoldable pub overridden : List ℕ
unfolding variant
overridden = variant "010206\n" "020305\n" "03050103\n" "050404010000FF00\n050303000001FF0101\n050503000001FF0101\n" ""

-- start lines and steps of each kind; a call of method 1 that runs method 2
abbrev pub taken : List Case
taken =
    case fielded (bytes "1000\n110A02\n110B04\n1204020A\n130B04020A\n140B04\n140B00\n210002\n200001\n220002\n23000A\n240000\n25010B0A\n26010B00\n210103\n27020100\n2900\n280101010100\n29FF\n2F\n")
    (answer 0 0 12) (bytes "30040001\n30040002\n30040103\n30040A02\n30040B00\n30040B04\n")
    ∷ case overridden (bytes "1000\n110001\n110505\n140001\n140503\n280102050100\n2F\n") (answer 0 0 1) (bytes "30040001\n30040503\n30050001\n30050505\n")
    ∷ []

-- f 0, f 1, .., f (n - 1) one behind the other
unfoldable pub each : ℕ → (ℕ → List ℕ) → List ℕ
each zero f = []
each (suc n) f = each n f ++ f n

-- 61, 62, 63, 64: new of a class that no effect names; of a number in the pool; a 33rd label; a return from the entry method
abbrev pub refused : List Case
refused =
    case sample (bytes "1000\n210002\n210104\n2F\n") (answer 61 3 1) (bytes "30040002\n")
    ∷ case sample (bytes "1000\n210002\n210003\n2F\n") (answer 62 3 1) (bytes "30040002\n")
    ∷ case sample (bytes "1000\n" ++ (each 33 (λ (r : ℕ). bytes "21" ++ (hex r ++ bytes "02\n")) ++ bytes "2F\n")) (answer 63 34 32) (each 32 (λ (r : ℕ). line_of (holding 4 r 2)))
    ∷ case sample (bytes "1000\n210002\n29FF\n2F\n") (answer 64 3 1) (bytes "30040002\n")
    ∷ []

-- a run text that is not read, and its answer
abbrev pub unread : List ℕ → String → ℕ → ℕ → Case
unread p t x n = case p (bytes t) (answer x n 0) []

-- 52 to 60, each in the ways that 01 names
abbrev pub not_read : List Case
not_read =
    unread sample "" 59 1
    ∷ unread sample "1000\n2f\n" 52 2  -- a small letter
    ∷ unread sample "1000\n2F" 52 2  -- the last line lacks LF
    ∷ unread sample "1002\n2F\n" 53 1  -- no declared method
    ∷ unread sample "100000\n2F\n" 53 1
    ∷ unread sample "2F\n" 53 1
    ∷ unread sample "1000\n1000\n2F\n" 55 2  -- a second 10
    ∷ unread sample "1000\n07\n2F\n" 55 2  -- no kind of a run text
    ∷ unread sample "1000\n210002\n110002\n2F\n" 55 3  -- a start line after a step
    ∷ unread sample "1000\n2F\n2F\n" 55 3
    ∷ unread sample "1000\n2100\n2F\n" 56 2
    ∷ unread sample "1000\n2F00\n" 56 2
    ∷ unread sample "1000\n28010101020000\n2F\n" 57 2  -- k not n's count
    ∷ unread sample "1000\n21FF02\n2F\n" 57 2  -- reference FF
    ∷ unread sample "1000\n210005\n2F\n" 57 2  -- undeclared class
    ∷ unread sample "1000\n270100\n2F\n" 57 2  -- no static method
    ∷ unread sample "1000\n2800010000\n2F\n" 57 2  -- no instance method
    ∷ unread sample "1000\n110002\n110002\n2F\n" 57 3  -- an object declared twice
    ∷ unread sample "1000\n140001\n2F\n" 57 2  -- a start reference without its 11 line
    ∷ unread fielded "1000\n110A02\n1204020B\n2F\n" 57 3
    ∷ unread fielded "1000\n110A02\n130B04020A\n2F\n" 57 3
    ∷ unread fielded "1000\n110A02\n1203020A\n2F\n" 57 3  -- no declared field fits
    ∷ unread fielded "1000\n23010A\n2F\n" 57 2  -- no static field
    ∷ unread fielded "1000\n25000B0A\n2F\n" 57 2  -- no instance field
    ∷ unread fielded "1000\n26010AFF\n2F\n" 57 2
    ∷ unread fielded "1000\n270201FF\n2F\n" 57 2
    ∷ unread sample "1000\n110002\n140003\n2F\n" 60 3  -- no supertype of the object's class
    ∷ unread fielded "1000\n110A03\n1204020A\n2F\n" 60 3  -- of its target's
    ∷ unread fielded "1000\n110A02\n110B02\n130B04020A\n2F\n" 60 4  -- of its owner's
    ∷ unread sample "1000\n" 59 2
    ∷ case sample (bytes "1000\n110002\n" ++ (each 33 (λ (r : ℕ). bytes "140002\n") ++ bytes "2F\n")) (answer 58 35 0) []  -- 33 label lines, repeated ones too
    ∷ []
