-- What stands at a number of the tables, or that nothing does.
use Rattle.std.proofs.Common.{◌≡◌, ℕ, zero, suc, ◌<◌, ◌≤◌, List, [], ◌∷◌, length, arith, Some, None, slice_get, take, ap}
use Rattle.std.proofs.lemmas.List.{length-map}
use Rattle.tables.specs.declared.elements.Method.{Method}
use Rattle.tables.specs.Contents.{Contents}
use Rattle.tables.specs.View.{view}
use Rattle.tables.proofs.At.{method-at}
use Rattle.meaning.specs.Tables.{params_of}
use Rattle.meaning.specs.Tables as M

pub below_some : {A : Type 0} (xs : List A) (i : ℕ) (x : A) → slice_get xs i ≡ Some x → i < length xs
below_some [] i x e = cc
below_some (y ∷ xs) zero x e = omega arith
below_some (y ∷ xs) (suc i) x e = omega (arith, below_some xs i x e)

pub past_none : {A : Type 0} (xs : List A) (i : ℕ) → slice_get xs i ≡ None → length xs ≤ i
past_none [] i e = omega arith
past_none (y ∷ xs) zero e = cc
past_none (y ∷ xs) (suc i) e = omega (arith, past_none xs i e)

-- the parameters of a method that is declared
pub params_at : (t : Contents) (m : ℕ) (x : Method) → slice_get t.methods m ≡ Some x → params_of (view t) m ≡ take x.parameter_count x.parameters
unfolding params_of
params_at t m x e = ap (λ (x : M.Method). x.params) (method-at t m x e)

pub ruleset declared = (below_some, past_none, length-map, params_at)
