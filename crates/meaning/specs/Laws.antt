-- The laws that pin the definitions, as types (their proofs: proofs/): what `check_of` answers, said by the propositions of Rules.antt alone.
-- Assumes nothing.
use Rattle.std.specs.Prelude.{ℕ, ◌<◌, ◌≡◌, ◌⊎◌, List, [], ◌∷◌, ◌++◌}
use Rattle.meaning.specs.Lists.{In}
use Rattle.meaning.specs.Tables.{Package}
use Rattle.meaning.specs.Rules.{Rule, table_rules, effect_rules}
use Rattle.meaning.specs.Reading.{Answer, answer}

-- the rule is broken at a place at which it is asked
pub record BrokenAt (r : Rule) (P : Package) (a b : ℕ) : Type 0 where
  pub first : a < r.firsts P
  pub second : b < r.seconds P a
  pub broken : r.Broken P a b

-- all rules in 01's order
abbrev pub rules : List Rule
rules = table_rules ++ effect_rules

-- no rule of the list is broken at any place
abbrev pub NoneBroken : List Rule → Package → Type 1
NoneBroken rs P = (r : Rule) → In r rs → (a b : ℕ) → BrokenAt r P a b → ⊥

-- (c, d) comes before (a, b)
abbrev pub Earlier : ℕ → ℕ → ℕ → ℕ → Type 0
Earlier c d a b = (c < a) ⊎ ((c ≡ a) × (d < b))

-- the answer names the first broken rule of the list at its first place, or 0 where none is broken
pub data Names (P : Package) : List Rule → Answer → Type 1 where
  accepted : Names P [] (answer 0 0 0)
  here : {r : Rule} {rs : List Rule} {a b : ℕ} → BrokenAt r P a b → ((c d : ℕ) → Earlier c d a b → BrokenAt r P c d → ⊥) → Names P (r ∷ rs) (answer r.number a b)
  later : {r : Rule} {rs : List Rule} {x : Answer} → ((a b : ℕ) → BrokenAt r P a b → ⊥) → Names P rs x → Names P (r ∷ rs) x
