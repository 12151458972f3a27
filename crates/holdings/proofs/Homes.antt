-- What the tables say of a class or a method, and what the package says: none behind the last one.
-- Assumes nothing.
use Rattle.std.proofs.Common.{◌≡◌, ℕ, zero, suc, List, [], ◌∷◌, map, get_or, refl, ap, Some, None, slice_get}
use Rattle.meaning.specs.Tables.{home, owner_of, no_class, no_method}
use Rattle.meaning.specs.Tables as M
use Rattle.tables.specs.declared.elements.Class.{Class}
use Rattle.tables.specs.declared.elements.Method.{Method}
use Rattle.tables.specs.Contents.{Contents}
use Rattle.tables.specs.View.{class_view, method_view, view}
use Rattle.tables.proofs.At.{class-at, method-at}

none-at : {A B : Type 0} (f : A → B) (xs : List A) (i : ℕ) (d : B) → slice_get xs i ≡ None → get_or (map f xs) i d ≡ d
none-at f [] i d e = refl
none-at f (x ∷ xs) zero d e = cc
none-at f (x ∷ xs) (suc i) d e = none-at f xs i d e

module _ (t : Contents) (i : ℕ) where
  pub home-at : (x : Class) → slice_get t.classes i ≡ Some x → home (view t) i ≡ x.domain
  unfolding home
  home-at x e = ap (λ (c : M.Class). c.domain) (class-at t i x e)

  pub home_none : slice_get t.classes i ≡ None → home (view t) i ≡ 0
  unfolding home
  home_none e = ap (λ (c : M.Class). c.domain) (none-at class_view t.classes i no_class e)

  pub owner-at : (x : Method) → slice_get t.methods i ≡ Some x → owner_of (view t) i ≡ x.class
  unfolding owner_of
  owner-at x e = ap (λ (m : M.Method). m.class) (method-at t i x e)

  pub owner_none : slice_get t.methods i ≡ None → owner_of (view t) i ≡ 0
  unfolding owner_of
  owner_none e = ap (λ (m : M.Method). m.class) (none-at method_view t.methods i no_method e)

pub ruleset looked = (home-at, home_none, owner-at, owner_none)
