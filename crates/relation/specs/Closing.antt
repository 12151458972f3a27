-- The turns by which rows are closed.
-- Assumes nothing.
use Rattle.std.specs.Prelude.{ℕ, cond, List, get_or}
use Rattle.relation.specs.Rows.{or_at, row_bit}
use Rattle.relation.specs.Fold.{up_to}

-- row a, where it has the bit k, or'ed with row k; and each row below n
abbrev pub join_at : ℕ → ℕ → List ℕ → List ℕ
join_at k a rows = cond (row_bit rows a k) (or_at rows a (get_or rows k 0)) rows

abbrev pub through_at : ℕ → ℕ → List ℕ → List ℕ
through_at n k = up_to n (join_at k)
