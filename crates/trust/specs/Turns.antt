-- The turns by which the rows are made.
-- Assumes nothing.
use Rattle.std.specs.Prelude.{ℕ, Bool, ◌&&◌, not, cond, List}
use Rattle.std.specs.List.{fold}
use Rattle.meaning.specs.Tables.{Package, home, supers_of}
use Rattle.tables.specs.declared.elements.Pair.{Pair}
use Rattle.relation.specs.Rows.{row_bit, add_bit, join_from, join_row}
use Rattle.relation.specs.Fold.{up_to}

-- a domain dominates itself and the root
abbrev pub start_at : ℕ → List ℕ → List ℕ
start_at d rows = add_bit 0 d (add_bit d d rows)

-- a pair is listed
abbrev pub list_pair : List ℕ → Pair → List ℕ
list_pair rows pair = add_bit pair.low pair.high rows

-- a class's own bit
abbrev pub own_at : ℕ → List ℕ → List ℕ
own_at a = add_bit a a

-- the row of a direct supertype joins c's own; those of all of them do
abbrev pub join_supertype : ℕ → List ℕ → ℕ → List ℕ
join_supertype c rows s = join_row c s rows

abbrev pub fill_at : Package → ℕ → List ℕ → List ℕ
fill_at P c rows = fold (join_supertype c) rows (supers_of P c)

-- neither of two domains dominates the other
abbrev pub apart_in : List ℕ → ℕ → ℕ → Bool
apart_in dominance d e = not (row_bit dominance d e) && not (row_bit dominance e d)

-- class c's bit in the row of its domain
abbrev pub lay_at : Package → ℕ → List ℕ → List ℕ
lay_at P c = add_bit (home P c) c

-- the classes of a domain e that is apart from d join d's row; those of all do
abbrev pub join_if : List ℕ → List ℕ → ℕ → ℕ → List ℕ → List ℕ
join_if dominance lying d e rows = cond (apart_in dominance d e) (join_from lying d e rows) rows

abbrev pub gather_at : List ℕ → List ℕ → ℕ → ℕ → List ℕ → List ℕ
gather_at dominance lying domains d = up_to domains (join_if dominance lying d)

-- the row of a's domain is a's
abbrev pub spread_at : Package → List ℕ → ℕ → List ℕ → List ℕ
spread_at P found a = join_from found a (home P a)
