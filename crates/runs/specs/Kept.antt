-- The rules that confinement rests on, as what they ask of a package (01, "Numbers a package answers with": 21, 23 to 27, 29, 30): of classes,
-- of methods that override, and of the effects that permit a step.
-- Assumes nothing.
use Rattle.std.specs.Prelude.{ℕ, ◌≡◌, ◌⊎◌}
use Rattle.std.proofs.Math.Option.{some}
use Rattle.meaning.specs.Lists.{In}
use Rattle.meaning.specs.Tables.{Package, owner_of, result_of, params_of, field_class, field_type}
use Rattle.meaning.specs.Trust.{Trusts, MethodTrusts, Mates, Subtype, Overrides}
use Rattle.meaning.specs.Rules.{Granted}
use Rattle.runs.specs.Machine.{Permits}

pub record Keeps (P : Package) : Type 0 where
  -- A <: B: B ▷ A
  pub rule21 : {a b : ℕ} → Subtype P a b → Trusts P b a
  -- v overrides n: v ▷ n; of the return type C: C ▷ B or B ⋈ B'; of each parameter type C: C ▷ B' or B ⋈ B'
  pub rule23 : {v n : ℕ} → Overrides P v n → MethodTrusts P v n
  pub rule24 : {v n c : ℕ} → Overrides P v n → result_of P n ≡ some c → Trusts P c (owner_of P n) ⊎ Mates P (owner_of P n) (owner_of P v)
  pub rule25 : {v n c : ℕ} → Overrides P v n → In c (params_of P n) → Trusts P c (owner_of P v) ⊎ Mates P (owner_of P n) (owner_of P v)
  -- new or cast to C in A: C ▷ A
  pub rule26 : {m op c : ℕ} → (op ≡ 0) ⊎ (op ≡ 1) → Permits P m op c → Trusts P c (owner_of P m)
  -- reading a field of B: C ▷ A or A ⋈ B; writing one: C ▷ B or A ⋈ B; calling B.n with return type C: C ▷ A or A ⋈ B
  pub reading27 : {m op f : ℕ} → (op ≡ 2) ⊎ (op ≡ 4) → Permits P m op f → Trusts P (field_type P f) (owner_of P m) ⊎ Mates P (owner_of P m) (field_class P f)
  pub writing27 : {m op f : ℕ} → (op ≡ 3) ⊎ (op ≡ 5) → Permits P m op f → Trusts P (field_type P f) (field_class P f) ⊎ Mates P (owner_of P m) (field_class P f)
  pub calling27 : {m op n c : ℕ} → (op ≡ 6) ⊎ (op ≡ 7) → Permits P m op n → result_of P n ≡ some c → Trusts P c (owner_of P m) ⊎ Mates P (owner_of P m) (owner_of P n)
  -- m invokes n: n ▷ m
  pub rule29 : {m op n : ℕ} → (op ≡ 6) ⊎ (op ≡ 7) → Permits P m op n → MethodTrusts P n m
  -- each parameter type C of B.n called from A.m: C ▷ B, or A ⋈ B, or both B ▷ m and C ▷ m
  pub rule30 : {m op n c : ℕ} → (op ≡ 6) ⊎ (op ≡ 7) → Permits P m op n → In c (params_of P n) → Granted P m (owner_of P m) (owner_of P n) c
