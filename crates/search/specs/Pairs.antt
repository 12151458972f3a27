-- What a search finds, as the code has it.
-- Assumes nothing.
use Rattle.std.specs.Prelude.{ℕ, Option, Some, None}
use Rattle.std.proofs.Math.Option as M
use Rattle.meaning.specs.Lists.{Place}

abbrev pub pair_of : M.Option Place → Option (ℕ × ℕ)
pair_of M.none = None
pair_of (M.some p) = Some (p.first, p.second)
