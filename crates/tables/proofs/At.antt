-- What stands at a number of the tables, as the package says it.
-- Assumes nothing.
use Rattle.std.proofs.Common.{◌≡◌, ℕ, zero, suc, ◌<◌, ◌≤◌, List, [], ◌∷◌, map, length, get_or, refl, arith, Some, slice_get}
use Rattle.meaning.specs.Tables.{no_class, no_field, no_method, no_effect, class_at, field_at, method_at, effect_at}
use Rattle.tables.specs.declared.elements.Class.{Class}
use Rattle.tables.specs.declared.elements.Field.{Field}
use Rattle.tables.specs.declared.elements.Method.{Method}
use Rattle.tables.specs.declared.elements.Effect.{Effect}
use Rattle.tables.specs.Contents.{Contents}
use Rattle.tables.specs.View.{class_view, field_view, method_view, effect_view, view}

-- the element at a number, mapped
pub get_or-map : {A B : Type 0} (f : A → B) (xs : List A) (i : ℕ) (d : B) (e : A) → i < length xs → get_or (map f xs) i d ≡ f (get_or xs i e)
get_or-map f [] i d e h = absurd (omega arith)
get_or-map f (x ∷ xs) zero d e h = refl
get_or-map f (x ∷ xs) (suc i) d e h = get_or-map f xs i d e (omega arith)

pub slice_get-map : {A B : Type 0} (f : A → B) (xs : List A) (i : ℕ) (d : B) (x : A) → slice_get xs i ≡ Some x → get_or (map f xs) i d ≡ f x
slice_get-map f [] i d x e = cc
slice_get-map f (y ∷ xs) zero d x e = cc
slice_get-map f (y ∷ xs) (suc i) d x e = slice_get-map f xs i d x e

-- behind the last element stands the default
pub get_or-map_past : {A B : Type 0} (f : A → B) (xs : List A) (i : ℕ) (d : B) → length xs ≤ i → get_or (map f xs) i d ≡ d
get_or-map_past f [] i d h = refl
get_or-map_past f (x ∷ xs) zero d h = absurd (omega arith)
get_or-map_past f (x ∷ xs) (suc i) d h = get_or-map_past f xs i d (omega arith)

module _ (t : Contents) (i : ℕ) where
  pub class-at : (x : Class) → slice_get t.classes i ≡ Some x → class_at (view t) i ≡ class_view x
  class-at x e = slice_get-map class_view t.classes i no_class x e

  pub field-at : (x : Field) → slice_get t.fields i ≡ Some x → field_at (view t) i ≡ field_view x
  field-at x e = slice_get-map field_view t.fields i no_field x e

  pub method-at : (x : Method) → slice_get t.methods i ≡ Some x → method_at (view t) i ≡ method_view x
  method-at x e = slice_get-map method_view t.methods i no_method x e

  pub effect-at : (x : Effect) → slice_get t.effects i ≡ Some x → effect_at (view t) i ≡ effect_view x
  effect-at x e = slice_get-map effect_view t.effects i no_effect x e
