-- A text at the start of a lent buffer: the bytes behind it stay, and a buffer with less room than is asked for stays as it is.
-- Assumes nothing.
use Rattle.std.specs.Prelude.{cond, List, [], ◌++◌, ℕ, ltb, length, drop}

-- what is written of a text: all of it, or nothing
unfoldable pub fitting : ℕ → List ℕ → List ℕ → List ℕ
fitting room text out = cond (ltb (length out) room) [] text

unfoldable pub written : ℕ → List ℕ → List ℕ → List ℕ
written room text out = fitting room text out ++ drop (length (fitting room text out)) out
