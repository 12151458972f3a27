-- The domains of the classes as an array.
-- Assumes nothing.
use Rattle.std.specs.Prelude.{ℕ, ◌<◌, ◌≡◌, List, get_or}
use Rattle.meaning.specs.Tables.{Package, home}

-- the domain of each number that a byte can say: the root's of one that is not declared
abbrev pub Homes : Package → List ℕ → Type 0
Homes P homes = (c : ℕ) → c < 256 → get_or homes c 0 ≡ home P c
