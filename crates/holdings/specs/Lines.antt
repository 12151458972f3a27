-- Keys as lines, each once, and what a buffer then holds.
-- Assumes nothing.
use Rattle.std.specs.Prelude.{ℕ, ◌/◌, ◌%◌, ◌≡◌, nat_eq, if◌then◌else◌, Option, Some, List, [], ◌∷◌, ◌++◌, map, length, drop}
use Rattle.std.specs.Option.{option_eq}
use Rattle.runs.specs.Holdings.{Holding, holding, text_of}

-- what a key says: its last three bytes
abbrev pub holding_of : ℕ → Holding
holding_of key = holding (key / 65536 % 256) (key / 256 % 256) (key % 256)

-- without the keys that repeat the one before, where one may have stood before the first
abbrev pub once : Option ℕ → List ℕ → List ℕ
once last [] = []
once last (key ∷ keys) = if option_eq nat_eq last (Some key) then once last keys else (key ∷ once (Some key) keys)

abbrev pub lines_of : Option ℕ → List ℕ → List ℕ
lines_of last keys = text_of (map holding_of (once last keys))

-- a text of n bytes stands at the buffer's start, and the bytes behind it stay
pub record Put (text out₀ : List ℕ) (n : ℕ) (out : List ℕ) : Type 0 where
  pub count : n ≡ length text
  pub bytes : out ≡ text ++ drop (length text) out₀
