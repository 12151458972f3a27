-- What the tables say of methods is what the definitions say.
-- Assumes nothing.
use Rattle.std.proofs.Common.{◌≡◌, ◌≢◌, ℕ, ◌&&◌, not, Option, Some, None, take, refl, sym, ap, ap₂, ◌∙◌, true}
use Rattle.std.specs.Prelude.{eqb}
use native.Mathlib.Decide.{ℕ_discrete}
use borrow.Author.Tests.{eq-eqb, ne_eqb}
use Rattle.meaning.specs.Tables as M
use Rattle.meaning.specs.Tables.{Package, type_or_none, owner_of, params_of, result_of, slot_of, method_at}
use Rattle.meaning.specs.Tests.{subtype, instance_method, one_slot, overrides}
use Rattle.tables.specs.declared.elements.Method.{Method}
use Rattle.tables.specs.View.{method_view, result_byte}
use Rattle.runs.specs.Steps.{runs_for}
use Rattle.machine.specs.Overriding.{overrides_by}
use Rattle.machine.specs.Definitions.{option_from}

result-back : (r : Option ℕ) → r ≢ Some 0xFF → option_from (type_or_none (result_byte r)) ≡ r
result-back None h = refl
result-back (Some c) h = on (ℕ_discrete c 0xFF)
  where
    on : Dec (c ≡ 0xFF) → option_from (type_or_none c) ≡ Some c
    on (yes e) = absurd (h (ap (λ (x : ℕ). Some x) e))
    on (no u) = rw (ne_eqb c 0xFF u)

module _ (P : Package) (n : ℕ) (m : Method) (e : method_view m ≡ method_at P n) where
  pub class-is : m.class ≡ owner_of P n
  unfolding owner_of
  class-is = ap (λ (x : M.Method). x.class) e

  pub parameters-are : take m.parameter_count m.parameters ≡ params_of P n
  unfolding params_of
  parameters-are = ap (λ (x : M.Method). x.params) e

  pub returned-is : m.result ≡ option_from (result_of P n)
  unfolding result_of
  returned-is = sym (result-back m.result m.result_fits) ∙ ap (λ (x : M.Method). option_from (type_or_none x.result)) e

pub overrides-by : (P : Package) (v n : ℕ) (x y : Method) → method_view x ≡ method_at P v → method_view y ≡ method_at P n → overrides_by P x y ≡ overrides P v n
unfolding overrides one_slot instance_method slot_of owner_of
overrides-by P v n x y e f = ap₂ (λ (a b : M.Method). (eqb a.static 0 && (eqb b.static 0 && eqb a.slot b.slot)) && (not (eqb a.class b.class) && subtype P a.class b.class)) e f

pub runs-itself : (P : Package) (v n : ℕ) → v ≡ n → true ≡ runs_for P v n
unfolding runs_for
runs-itself P v n e = rw (eq-eqb v n e) refl

pub runs-over : (P : Package) (v n : ℕ) (x y : Method) → (v ≡ n → ⊥) → method_view x ≡ method_at P v → method_view y ≡ method_at P n → overrides_by P x y ≡ runs_for P v n
unfolding runs_for
runs-over P v n x y u e f = rw (ne_eqb v n u) (overrides-by P v n x y e f)

pub ruleset runs = (runs-itself, runs-over)

pub ruleset methods = (class-is, parameters-are, returned-is)
