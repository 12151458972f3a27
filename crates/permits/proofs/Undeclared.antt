-- What stands at a number, declared or not.
-- Assumes nothing.
use Rattle.std.proofs.Common.{◌≡◌, ℕ, None, slice_get, length, ◌≤◌, zero, suc, List, [], ◌∷◌, arith}
use Rattle.meaning.specs.Tables.{no_field, no_method, field_at, method_at}
use Rattle.tables.specs.Contents.{Contents}
use Rattle.tables.specs.View.{field_view, method_view, view}
use Rattle.tables.proofs.At.{field-at, method-at, get_or-map_past}

none-past : {A : Type 0} (xs : List A) (i : ℕ) → slice_get xs i ≡ None → length xs ≤ i
none-past [] i e = omega arith
none-past (x ∷ xs) zero e = cc
none-past (x ∷ xs) (suc i) e = let h = none-past xs i e in omega arith

pub field-none : (t : Contents) (i : ℕ) → slice_get t.fields i ≡ None → field_at (view t) i ≡ no_field
field-none t i e = get_or-map_past field_view t.fields i no_field (none-past t.fields i e)

pub method-none : (t : Contents) (i : ℕ) → slice_get t.methods i ≡ None → method_at (view t) i ≡ no_method
method-none t i e = get_or-map_past method_view t.methods i no_method (none-past t.methods i e)

pub ruleset at = (field-at, method-at, field-none, method-none)
