-- The one table of frame kinds for both texts (01, the frame table of "Package text"; "Run text").
-- A kind has its section (what may not fall from line to line: a kind's own number, and 20 for every step), its length without
-- counted bytes, and the place of its count byte k, 0 for none.
-- Assumes nothing.
use Rattle.std.specs.Prelude.{ℕ, ◌+◌, Bool, ◌&&◌, cond, List, [], ◌∷◌, eqb, leb, ltb, length}
use Rattle.std.proofs.Math.Option.{Option, none, some}
use Rattle.meaning.specs.Lists.{first}
use Rattle.meaning.specs.Text.{byte}

pub record Kind : Type 0 where
  pub kind : ℕ
  pub section : ℕ
  pub size : ℕ
  pub counter : ℕ

abbrev pub row : ℕ → ℕ → ℕ → ℕ → Kind
row k s n c = record { kind = k; section = s; size = n; counter = c }

abbrev pub kinds : List Kind
kinds =
    row 0x01 0x01 3 0  -- 01 02 nd
    ∷ row 0x02 0x02 3 0  -- 02 EE DD
    ∷ row 0x03 0x03 3 2  -- 03 dd k s..
    ∷ row 0x04 0x04 4 0  -- 04 cc tt ss
    ∷ row 0x05 0x05 8 7  -- 05 cc ll ss hh hh rr k p..
    ∷ row 0x06 0x06 4 0  -- 06 mm op xx
    ∷ row 0x07 0x07 1 0  -- 07
    ∷ row 0x10 0x10 2 0  -- 10 mm
    ∷ row 0x11 0x11 3 0  -- 11 rr cc
    ∷ row 0x12 0x12 4 0  -- 12 cc tt qq
    ∷ row 0x13 0x13 5 0  -- 13 pp cc tt qq
    ∷ row 0x14 0x14 3 0  -- 14 rr cc
    ∷ row 0x20 0x20 3 0  -- 20 rr bb
    ∷ row 0x21 0x20 3 0  -- 21 rr bb
    ∷ row 0x22 0x20 3 0  -- 22 rr bb
    ∷ row 0x23 0x20 3 0  -- 23 ff qq
    ∷ row 0x24 0x20 3 0  -- 24 ff qq
    ∷ row 0x25 0x20 4 0  -- 25 ff pp qq
    ∷ row 0x26 0x20 4 0  -- 26 ff pp qq
    ∷ row 0x27 0x20 3 2  -- 27 nn k r..
    ∷ row 0x28 0x20 5 4  -- 28 nn vv r0 k r..
    ∷ row 0x29 0x20 2 0  -- 29 rr
    ∷ row 0x2F 0x2F 1 0  -- 2F
    ∷ []

abbrev pub unknown : Kind
unknown = row 0 0 0 0

abbrev pub or_unknown : Option Kind → Kind
or_unknown none = unknown
or_unknown (some k) = k

-- the row of a kind; a number that is no kind has section 0
unfoldable pub row_of : ℕ → Kind
unfolding first
row_of b = or_unknown (first (λ (k : Kind). eqb k.kind b) kinds)

-- the length that a frame of this kind must have, with its k as it stands
unfoldable pub length_of : Kind → List ℕ → ℕ
length_of k f = cond (eqb k.counter 0) k.size (k.size + byte f k.counter)

unfoldable pub fits : List ℕ → Bool
unfolding row_of length_of
fits f = eqb (length f) (length_of (row_of (byte f 0)) f)

-- a frame of section s may follow one of section b, in a text that opens with section o and ends with section e: it is a kind of this text
-- and no second opening, it does not fall, and nothing follows the end
unfoldable pub follows : ℕ → ℕ → ℕ → ℕ → Bool
follows o e b s = ltb o s && (leb s e && (leb b s && ltb b e))
