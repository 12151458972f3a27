-- The rules 10 to 30 (01, "Numbers a package answers with") as propositions over the relations, in 01's words and order, and the
-- answer that they ask for. What computes the same is in Tests.antt.
-- Assumes nothing.
use Rattle.std.specs.Prelude.{ℕ, ◌<◌, ◌≡◌, ◌⊎◌, List, [], ◌∷◌, length, get_or}
use Rattle.std.proofs.Math.Option.{some}
use Rattle.meaning.specs.Lists.{In}
use Rattle.meaning.specs.Tables.{Package, home, owner_of, target_of, potency_of, result_of, params_of, field_class, field_type, caller_of, site_of, op_of, named_by}
use Rattle.meaning.specs.Trust.{Dominated, Trusts, MethodTrusts, Mates, Suspicious, Subtype, OneSlot, Overrides}

-- 10: distinct domains dominate each other; the two, lower first
pub record Broken10 (P : Package) (d e : ℕ) : Type 0 where
  pub lower : d < e
  pub up : Dominated P d e
  pub down : Dominated P e d

-- 11: instance methods of one slot differ in parameters or return type
pub record Broken11 (P : Package) (m n : ℕ) : Type 0 where
  pub lower : m < n
  pub one : OneSlot P m n
  pub differ : (params_of P m ≡ params_of P n → ⊥) ⊎ (result_of P m ≡ result_of P n → ⊥)

-- 12: two instance methods of one class and slot
pub record Broken12 (P : Package) (m n : ℕ) : Type 0 where
  pub lower : m < n
  pub one : OneSlot P m n
  pub class : owner_of P m ≡ owner_of P n

-- 21, DCC5: A <: B, not B ▷ A
pub record Broken21 (P : Package) (a b : ℕ) : Type 0 where
  pub below : Subtype P a b
  pub distrusts : Trusts P b a → ⊥

-- 22, DCC7: A, B suspicious, A' <: A, B' <: B, but A', B' not suspicious; A', B' are named
pub record Broken22 (P : Package) (a' b' : ℕ) : Type 0 where
  pub a : ℕ
  pub b : ℕ
  pub suspicious : Suspicious P a b
  pub below_a : Subtype P a' a
  pub below_b : Subtype P b' b
  pub trusting : Suspicious P a' b' → ⊥

-- 23, DCC6.1: n' overrides n, not n' ▷ n. In 23 to 25, n is declared in B and n' in B'
pub record Broken23 (P : Package) (n' n : ℕ) : Type 0 where
  pub overrides : Overrides P n' n
  pub distrusts : MethodTrusts P n' n → ⊥

-- 24, DCC6.2: return type C, neither C ▷ B nor B ⋈ B'
pub record Broken24 (P : Package) (n' n : ℕ) : Type 0 where
  pub overrides : Overrides P n' n
  pub c : ℕ
  pub returns : result_of P n ≡ some c
  pub distrusts : Trusts P c (owner_of P n) → ⊥
  pub apart : Mates P (owner_of P n) (owner_of P n') → ⊥

-- 25, DCC6.3: some parameter type C, neither C ▷ B' nor B ⋈ B'
pub record Broken25 (P : Package) (n' n : ℕ) : Type 0 where
  pub overrides : Overrides P n' n
  pub c : ℕ
  pub takes : In c (params_of P n)
  pub distrusts : Trusts P c (owner_of P n') → ⊥
  pub apart : Mates P (owner_of P n) (owner_of P n') → ⊥

-- ---- effects. The effect i stands in A.m: A is site_of P i, m is caller_of P i

-- 00 new and 01 checkcast; 02 getstatic and 04 getfield; 03 putstatic and 05 putfield; 06 invokestatic and 07 invokemethod
abbrev pub Makes : Package → ℕ → Type 0
Makes P i = (op_of P i ≡ 0) ⊎ (op_of P i ≡ 1)

abbrev pub Reads : Package → ℕ → Type 0
Reads P i = (op_of P i ≡ 2) ⊎ (op_of P i ≡ 4)

abbrev pub Writes : Package → ℕ → Type 0
Writes P i = (op_of P i ≡ 3) ⊎ (op_of P i ≡ 5)

abbrev pub Invokes : Package → ℕ → Type 0
Invokes P i = (op_of P i ≡ 6) ⊎ (op_of P i ≡ 7)

-- 26, DCC2.1: new or cast to C in A, not C ▷ A
pub record Broken26 (P : Package) (i zero : ℕ) : Type 0 where
  pub makes : Makes P i
  pub distrusts : Trusts P (named_by P i) (site_of P i) → ⊥

-- 27, DCC2.2: reading a field of B, or calling B.n with return type C, needs C ▷ A or A ⋈ B; writing a field of B with type C needs
-- C ▷ B or A ⋈ B; no return type, no demand
pub data Broken27 (P : Package) (i zero : ℕ) : Type 0 where
  reading : Reads P i → (Trusts P (field_type P (named_by P i)) (site_of P i) → ⊥) → (Mates P (site_of P i) (field_class P (named_by P i)) → ⊥) → Broken27 P i zero
  writing : Writes P i → (Trusts P (field_type P (named_by P i)) (field_class P (named_by P i)) → ⊥) → (Mates P (site_of P i) (field_class P (named_by P i)) → ⊥) → Broken27 P i zero
  calling : Invokes P i → (c : ℕ) → result_of P (named_by P i) ≡ some c → (Trusts P c (site_of P i) → ⊥) → (Mates P (site_of P i) (owner_of P (named_by P i)) → ⊥) → Broken27 P i zero

-- 28, DCC1: static call of B.n in A, not B ▷ A
pub record Broken28 (P : Package) (i zero : ℕ) : Type 0 where
  pub static : op_of P i ≡ 6
  pub distrusts : Trusts P (owner_of P (named_by P i)) (site_of P i) → ⊥

-- 29, DCC4: m invokes n, not n ▷ m
pub record Broken29 (P : Package) (i zero : ℕ) : Type 0 where
  pub invokes : Invokes P i
  pub distrusts : MethodTrusts P (named_by P i) (caller_of P i) → ⊥

-- 30, DCC3: a parameter type C of B.n called from A.m: C ▷ B, or A ⋈ B, or both B ▷ m and C ▷ m. Each parameter is judged by itself
pub data Granted (P : Package) (m a b c : ℕ) : Type 0 where
  trusted : Trusts P c b → Granted P m a b c
  mates : Mates P a b → Granted P m a b c
  granted : Dominated P (home P b) (target_of P m) → Dominated P (home P c) (potency_of P m) → Granted P m a b c

pub record Broken30 (P : Package) (i j : ℕ) : Type 0 where
  pub invokes : Invokes P i
  pub ungranted : Granted P (caller_of P i) (site_of P i) (owner_of P (named_by P i)) (get_or (params_of P (named_by P i)) j 0) → ⊥

-- ---- the rules in 01's order, with the places at which each is asked

-- first places are below `firsts P`, and beside the first place a the second ones below `seconds P a`
pub record Rule : Type 1 where
  pub number : ℕ
  pub firsts : Package → ℕ
  pub seconds : Package → ℕ → ℕ
  pub Broken : Package → ℕ → ℕ → Type 0

-- two domains, two classes, two methods; an effect, whose unused second place is 0; an effect and a parameter
abbrev pub by_domains : ℕ → (Package → ℕ → ℕ → Type 0) → Rule
by_domains n B = record { number = n; firsts = λ (P : Package). P.domains; seconds = λ (P : Package) (a : ℕ). P.domains; Broken = B }

abbrev pub by_classes : ℕ → (Package → ℕ → ℕ → Type 0) → Rule
by_classes n B = record { number = n; firsts = λ (P : Package). length P.classes; seconds = λ (P : Package) (a : ℕ). length P.classes; Broken = B }

abbrev pub by_methods : ℕ → (Package → ℕ → ℕ → Type 0) → Rule
by_methods n B = record { number = n; firsts = λ (P : Package). length P.methods; seconds = λ (P : Package) (a : ℕ). length P.methods; Broken = B }

abbrev pub by_effects : ℕ → (Package → ℕ → ℕ → Type 0) → Rule
by_effects n B = record { number = n; firsts = λ (P : Package). length P.effects; seconds = λ (P : Package) (i : ℕ). 1; Broken = B }

abbrev pub by_parameters : ℕ → (Package → ℕ → ℕ → Type 0) → Rule
by_parameters n B = record { number = n; firsts = λ (P : Package). length P.effects; seconds = λ (P : Package) (i : ℕ). length (params_of P (named_by P i)); Broken = B }

-- of the tables, and of the effects
abbrev pub table_rules : List Rule
table_rules =
    by_domains 10 Broken10
    ∷ by_methods 11 Broken11
    ∷ by_methods 12 Broken12
    ∷ by_classes 21 Broken21
    ∷ by_classes 22 Broken22
    ∷ by_methods 23 Broken23
    ∷ by_methods 24 Broken24
    ∷ by_methods 25 Broken25
    ∷ []

abbrev pub effect_rules : List Rule
effect_rules = by_effects 26 Broken26 ∷ by_effects 27 Broken27 ∷ by_effects 28 Broken28 ∷ by_effects 29 Broken29 ∷ by_parameters 30 Broken30 ∷ []
