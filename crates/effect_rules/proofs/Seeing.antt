-- What an effect of the tables does and names is what `meaning` says of it.
-- Assumes nothing.
use Rattle.std.proofs.Common.{◌≡◌, ℕ, ◌<◌, Bool, false, length, get_or, refl, sym, ap, ◌∙◌, arith, Option, None, Some}
use Rattle.std.proofs.Math.ListN.{length-map}
use borrow.Author.Tests.{ne_eqb}
use Rattle.meaning.specs.Tables.{Package, no_effect, no_field, no_method, field_at, method_at, effect_at, owner_of, label_of, result_of, type_or_none, params_of, field_class, field_type, op_of, named_by, caller_of}
use Rattle.meaning.specs.Good.{Good}
use Rattle.meaning.specs.Tests.{of_result}
use Rattle.tables.specs.declared.elements.Field.{Field}
use Rattle.tables.specs.declared.elements.Method.{Method}
use Rattle.tables.specs.declared.elements.Effect.{Effect}
use Rattle.tables.specs.Contents.{Contents}
use Rattle.tables.specs.View.{operation_number, result_byte, field_view, method_view, effect_view, view}
use Rattle.tables.proofs.At.{get_or-map}
use Rattle.effect_rules.specs.Sites.{IsField, IsMethod, IsEffect}
use Rattle.effect_rules.proofs.Ops.{names-field, names-method}

-- ---- what stands at a number

pub is_field : (P : Package) (x : ℕ) (f : Field) → field_at P x ≡ field_view f → IsField P x f
unfolding field_class field_type
is_field P x f e = record { class = sym (ap (λ x. x.class) e); typ = sym (ap (λ x. x.type) e) }

result-none : (r : Option ℕ) (f : ℕ → Bool) → r ≡ None → of_result f (type_or_none (result_byte r)) ≡ false
unfolding of_result
result-none r f e = rw e refl

result-some : (r : Option ℕ) → (r ≡ Some 255 → ⊥) → (f : ℕ → Bool) (class : ℕ) → r ≡ Some class → of_result f (type_or_none (result_byte r)) ≡ f class
unfolding of_result
result-some r n f class e = rw (e, ne_eqb class 255 (λ q. n (e ∙ ap Some q))) refl

pub is_method : (P : Package) → Good P → (x : ℕ) (m : Method) → x < length P.methods → method_at P x ≡ method_view m → IsMethod P x m
unfolding owner_of label_of result_of params_of
is_method P g x m l e =
    let label : m.label ≡ label_of P x = sym (ap (λ x. x.label) e) in
    record {
      class = sym (ap (λ x. x.class) e);
      label = label;
      label_declared = omega (arith, label, (g.methods x l).label);
      no_result = λ f q. rw e (result-none m.result f q);
      some_result = λ f class q. rw e (result-some m.result m.result_fits f class q);
      parameters = sym (ap (λ x. x.params) e);
    }

-- ---- the tables at hand

module _ (t : Contents) (g : Good (view t)) (i : ℕ) where
  pub field-seen : (f x : Field) → i < length (view t).fields → x ≡ get_or t.fields i f → IsField (view t) i x
  field-seen f x l e = is_field (view t) i x (get_or-map field_view t.fields i no_field f (rw (length-map t.fields field_view) at l) ∙ sym (ap field_view e))

  pub method-seen : (m x : Method) → i < length (view t).methods → x ≡ get_or t.methods i m → IsMethod (view t) i x
  method-seen m x l e = is_method (view t) g i x l (get_or-map method_view t.methods i no_method m (rw (length-map t.methods method_view) at l) ∙ sym (ap method_view e))

  pub effect-seen : (e : Effect) → i < length t.effects → IsEffect (view t) i (get_or t.effects i e)
  unfolding caller_of op_of named_by
  effect-seen e l =
      let good = g.effects i (rw (length-map t.effects effect_view) l) in
      let here : effect_at (view t) i ≡ effect_view (get_or t.effects i e) = get_or-map effect_view t.effects i no_effect e l in
      let number : named_by (view t) i ≡ (get_or t.effects i e).number = ap (λ x. x.number) here in
      let op : op_of (view t) i ≡ operation_number (get_or t.effects i e).operation = ap (λ x. x.op) here in
      let method : caller_of (view t) i ≡ (get_or t.effects i e).method = ap (λ x. x.method) here in
      record {
        method = sym method;
        op = sym op;
        number = sym number;
        method_declared = rw method at good.method;
        declared = record {
          field = λ h k. rw number at (names-field (view t) (op_of (view t) i) (named_by (view t) i) good.named (rw op h) (rw op k));
          method = λ h. rw number at (names-method (view t) (op_of (view t) i) (named_by (view t) i) good.named (rw op h));
        };
      }
