-- The relations of `meaning` as rows of bits: each is one list.
-- Assumes nothing.
use Rattle.std.specs.Prelude.{ℕ, Bool, ◌&&◌, List, length}
use Rattle.meaning.specs.Lists.{any_below}
use Rattle.meaning.specs.Tables.{Package}
use Rattle.meaning.specs.Tests.{dominated, subtype, suspicious}
use Rattle.relation.specs.Rows.{narrow, wide}

-- row e has the bit d where E ► D
unfoldable pub dominance_rows : Package → List ℕ
dominance_rows P = narrow P.domains (dominated P)

-- row a has the bit b where A <: B
unfoldable pub subtype_rows : Package → List ℕ
subtype_rows P = wide (length P.classes) (subtype P)

-- row a has the bit b where A and B are suspicious
unfoldable pub suspicion_rows : Package → List ℕ
suspicion_rows P = wide (length P.classes) (suspicious P)

-- f holds of b and a supertype of a
unfoldable pub above : Package → (ℕ → ℕ → Bool) → ℕ → ℕ → Bool
above P f a b = any_below (length P.classes) (λ (s : ℕ). subtype P a s && f s b)

-- row a has the bit b where B and a supertype of A are suspicious
unfoldable pub suspect_rows : Package → List ℕ
suspect_rows P = wide (length P.classes) (above P (suspicious P))
