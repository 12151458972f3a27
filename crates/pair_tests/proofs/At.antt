-- A method that is declared, as the package has it.
-- Assumes nothing.
use Rattle.std.proofs.Common.{◌≡◌, ◌≢◌, ◌∙◌, refl, sym, ap, ℕ, ◌<◌, length, get_or, take, Option, Some, None, ne_eqb}
use lib.ListN.{length-map}
use Rattle.meaning.specs.Tables as M
use Rattle.meaning.specs.Tables.{method_at, no_method, type_or_none, owner_of, slot_of, label_of, result_of, params_of}
use Rattle.meaning.specs.Good.{Good, GoodMethod}
use Rattle.tables.specs.declared.elements.Method.{Method}
use Rattle.tables.specs.Contents.{Contents}
use Rattle.tables.specs.View.{view, method_view, result_byte}
use Rattle.tables.proofs.At.{get_or-map}
use Rattle.pair_tests.specs.Methods.{type_of}

pub method_is : (t : Contents) (m : ℕ) → m < length t.methods → (x : Method) → x ≡ get_or t.methods m x → method_at (view t) m ≡ method_view x
method_is t m h x e = get_or-map method_view t.methods m no_method x h ∙ ap method_view (sym e)

-- no return type stands as FF in the package
type_is : (r : Option ℕ) → r ≢ Some 0xFF → type_or_none (result_byte r) ≡ type_of r
type_is None f = refl
type_is (Some x) f = rw (ne_eqb x 0xFF (λ e. f (ap Some e))) refl

-- what is known of it
pub record IsDeclared (t : Contents) (m : ℕ) (x : Method) : Type 0 where
  pub found : method_at (view t) m ≡ method_view x
  pub class : owner_of (view t) m ≡ x.class
  pub slot : slot_of (view t) m ≡ x.slot
  pub label : label_of (view t) m ≡ x.label
  pub return_type : result_of (view t) m ≡ type_of x.result
  pub parameters : params_of (view t) m ≡ take x.parameter_count x.parameters
  pub class_declared : x.class < length (view t).classes
  pub label_declared : x.label < t.domains

pub declared : (t : Contents) (m : ℕ) → m < length t.methods → Good (view t) → (x : Method) → x ≡ get_or t.methods m x → IsDeclared t m x
unfolding owner_of slot_of label_of result_of params_of
declared t m h good x e =
    let found = method_is t m h x e in
    let g : GoodMethod (view t) m = good.methods m (rw (length-map t.methods method_view) h) in
    let class : (method_at (view t) m).class < length (view t).classes = g.class in
    let label : (method_at (view t) m).label < t.domains = g.label in
    record {
      found = found;
      class = ap (λ (z : M.Method). z.class) found;
      slot = ap (λ (z : M.Method). z.slot) found;
      label = ap (λ (z : M.Method). z.label) found;
      return_type = ap (λ (z : M.Method). type_or_none z.result) found ∙ type_is x.result x.result_fits;
      parameters = ap (λ (z : M.Method). z.params) found;
      class_declared = rw found at class;
      label_declared = rw found at label;
    }
