-- Holdings (01, "Holdings"): who holds what, and the lines `30 dd rr cc` in which it is written.
-- Assumes nothing.
use Rattle.std.specs.Prelude.{ℕ, ◌+◌, ◌*◌, ◌/◌, ◌%◌, ◌<◌, ◌≡◌, Bool, true, false, cond, List, [], ◌∷◌, ◌++◌, map, eqb, leb, ltb}
use Rattle.meaning.specs.Lists.{In}
use Rattle.meaning.specs.Tables.{Package, home, owner_of}
use Rattle.runs.specs.Machine.{Link, Label, Saved, State, label}

-- domain holds ref labelled type
pub record Holding : Type 0 where
  pub domain : ℕ
  pub ref : ℕ
  pub type : ℕ

abbrev pub holding : ℕ → ℕ → ℕ → Holding
holding d r c = record { domain = d; ref = r; type = c }

-- whose numbers are bytes, so that a line holds them
pub record Bytes (h : Holding) : Type 0 where
  pub domain : h.domain < 256
  pub ref : h.ref < 256
  pub type : h.type < 256

-- "a frame or saved frame whose running class lies in dd holds r labelled cc, or a link whose declaring class lies in dd has target r and type cc"
pub data Holds (P : Package) (s : State) (d r c : ℕ) : Type 0 where
  frame : home P (owner_of P s.method) ≡ d → In (label r c) s.labels → Holds P s d r c
  saved : {k : Saved} → In k s.saved → home P (owner_of P k.method) ≡ d → In (label r c) k.labels → Holds P s d r c
  link : {o b : ℕ} → home P b ≡ d → In (record { owner = o; declared = b; type = c; target = r }) s.links → Holds P s d r c

-- ---- what computes them

unfoldable pub of_label : Package → ℕ → Label → Holding
unfolding home owner_of
of_label P m l = holding (home P (owner_of P m)) l.ref l.type

unfoldable pub of_link : Package → Link → Holding
unfolding home
of_link P k = holding (home P k.declared) k.target k.type

unfoldable pub of_saved : Package → List Saved → List Holding
unfolding of_label
of_saved P [] = []
of_saved P (k ∷ ks) = map (of_label P k.method) k.labels ++ of_saved P ks

unfoldable pub holdings : Package → State → List Holding
unfolding of_label of_saved of_link
holdings P s = map (of_label P s.method) s.labels ++ (of_saved P s.saved ++ map (of_link P) s.links)

-- ---- sorted, each once. The digits 0-9 A-F rise, so lines rise by bytes as these numbers do

unfoldable pub key : Holding → ℕ
key h = (h.domain * 256 + h.ref) * 256 + h.type

abbrev pub put : Bool → Bool → Holding → Holding → List Holding → List Holding → List Holding
put true b h x xs rest = x ∷ rest
put false true h x xs rest = x ∷ xs
put false false h x xs rest = h ∷ x ∷ xs

-- h in its place, unless it is there
unfoldable pub insert : Holding → List Holding → List Holding
unfolding key
insert h [] = h ∷ []
insert h (x ∷ xs) = put (ltb (key x) (key h)) (eqb (key x) (key h)) h x xs (insert h xs)

unfoldable pub sorted : List Holding → List Holding
unfolding insert
sorted [] = []
sorted (h ∷ hs) = insert h (sorted hs)

-- the holdings that are written, in their order
unfoldable pub shown : Package → State → List Holding
unfolding holdings sorted
shown P s = sorted (holdings P s)

-- ---- as text

unfoldable pub hex_digit : ℕ → ℕ
hex_digit n = cond (leb n 9) (48 + n) (55 + n)

-- two digits, the high one first
unfoldable pub hex : ℕ → List ℕ
unfolding hex_digit
hex b = hex_digit (b / 16) ∷ hex_digit (b % 16) ∷ []

-- 30 dd rr cc and LF
unfoldable pub line_of : Holding → List ℕ
unfolding hex
line_of h = hex 0x30 ++ (hex h.domain ++ (hex h.ref ++ (hex h.type ++ (10 ∷ []))))

unfoldable pub text_of : List Holding → List ℕ
unfolding line_of
text_of [] = []
text_of (h ∷ hs) = line_of h ++ text_of hs

unfoldable pub holdings_text : Package → State → List ℕ
unfolding shown text_of
holdings_text P s = text_of (shown P s)

-- ---- the order of the lines

-- one line stands before another by bytes
pub data Before : List ℕ → List ℕ → Type 0 where
  here : {x y : ℕ} {xs ys : List ℕ} → x < y → Before (x ∷ xs) (y ∷ ys)
  later : {x : ℕ} {xs ys : List ℕ} → Before xs ys → Before (x ∷ xs) (x ∷ ys)

-- each line stands before all that follow: sorted by bytes, each once
abbrev pub Rising : List Holding → Type 0
Rising [] = Unit {0}
Rising (h ∷ hs) = ((x : Holding) → In x hs → Before (line_of h) (line_of x)) × Rising hs
