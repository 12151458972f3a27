-- Trust (01, "Trust"; 003, 3.2): ► and <: as the least relations that 01 names, and what it says over them.
-- Assumes nothing.
use Rattle.std.specs.Prelude.{ℕ, ◌≡◌}
use Rattle.meaning.specs.Lists.{In}
use Rattle.meaning.specs.Tables.{Package, home, supers_of, owner_of, label_of, slot_of, InstanceMethod}

-- E ► D, "D dominates E": the smallest relation that is reflexive, transitive, has 0 ► D for all D, and contains every listed pair
pub data Dominated (P : Package) : ℕ → ℕ → Type 0 where
  itself : {e : ℕ} → Dominated P e e
  through : {e f d : ℕ} → Dominated P e f → Dominated P f d → Dominated P e d
  root : {d : ℕ} → Dominated P 0 d
  listed : {e d : ℕ} → In (record { low = e; high = d }) P.pairs → Dominated P e d

-- B ▷ A, "B trusts A": B's domain ► A's domain
abbrev pub Trusts : Package → ℕ → ℕ → Type 0
Trusts P b a = Dominated P (home P b) (home P a)

-- n ▷ m, of methods: their labels compare alike
abbrev pub MethodTrusts : Package → ℕ → ℕ → Type 0
MethodTrusts P n m = Dominated P (label_of P n) (label_of P m)

-- A ⋈ B: the same domain
abbrev pub Mates : Package → ℕ → ℕ → Type 0
Mates P a b = home P a ≡ home P b

-- suspicious: neither trusts the other
abbrev pub Suspicious : Package → ℕ → ℕ → Type 0
Suspicious P a b = (Trusts P a b → ⊥) × (Trusts P b a → ⊥)

-- A <: B: the reflexive, transitive closure of direct supertypes
pub data Subtype (P : Package) : ℕ → ℕ → Type 0 where
  itself : {a : ℕ} → Subtype P a a
  above : {a s b : ℕ} → In s (supers_of P a) → Subtype P s b → Subtype P a b

-- both are instance methods of one slot
pub record OneSlot (P : Package) (m n : ℕ) : Type 0 where
  pub instance_m : InstanceMethod P m
  pub instance_n : InstanceMethod P n
  pub slot : slot_of P m ≡ slot_of P n

-- v overrides n: both are instance methods of one slot, and v has a class that is a proper subtype of n's
pub record Overrides (P : Package) (v n : ℕ) : Type 0 where
  pub one : OneSlot P v n
  pub below : Subtype P (owner_of P v) (owner_of P n)
  pub proper : owner_of P v ≡ owner_of P n → ⊥
