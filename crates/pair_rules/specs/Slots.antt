-- The chains of the methods' slots, and rules that methods break nowhere.
-- Assumes nothing.
use Rattle.std.specs.Prelude.{ℕ, Option, Some, None, ◌<◌, ◌≡◌, Bool, false, length, slice_index}
use Rattle.std.specs.Borrow.{Bor}
use Rattle.meaning.specs.Tables.{Package, slot_of}
use Rattle.meaning.specs.Good.{Good}
use Rattle.meaning.specs.Tests.{breaks11, breaks12, breaks23, breaks24, breaks25}
use Rattle.search.specs.declared.chains.Chains.{Chains}
use Rattle.tables.specs.Contents.{Contents}
use Rattle.tables.specs.View.{view}

-- the keys are the methods' slots
pub record AreSlots (t : Contents) (chains : Chains) : Type 0 where
  pub good : Good (view t)
  pub count : chains.count ≡ length t.methods
  pub keys : (m : ℕ) → m < length t.methods → slice_index chains.keys m ≡ slot_of (view t) m

-- no two methods break the rule
abbrev pub IsKept : Package → (ℕ → ℕ → Bool) → Type 0
IsKept P breaks = (m n : ℕ) → m < length P.methods → n < length P.methods → breaks m n ≡ false

abbrev pub HaveOneType : Package → Type 0
HaveOneType P = IsKept P (breaks11 P)

pub record IsKeptByMethods (P : Package) : Type 0 where
  pub types : IsKept P (breaks11 P)
  pub twice : IsKept P (breaks12 P)
  pub labels : IsKept P (breaks23 P)
  pub results : IsKept P (breaks24 P)
  pub parameters : IsKept P (breaks25 P)

-- the slots, or none where methods break no rule
abbrev pub AreInDoubt : Contents → Option (Bor Chains) → Type 0
AreInDoubt t None = IsKeptByMethods (view t)
AreInDoubt t (Some slots) = AreSlots t slots.now
