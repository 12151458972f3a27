-- The arguments of a frame as the code makes them.
use Rattle.std.proofs.lemmas.Bool.{and_parts}
use Rattle.meaning.specs.Tables.{Package}
use Rattle.meaning.specs.Reading.{is_method, is_method_of}
use Rattle.std.proofs.Common.{true, ◌≡◌, ℕ, ◌≤◌, List, Some, None, ap, refl}
use Rattle.std.proofs.Math.Bridge.{le_prop}
use Rattle.std.proofs.Math.Decide.{dec_le}
use Rattle.script.specs.Steps.{within, places_of, arguments_by, arguments_in}

pub arguments-few : (count : ℕ) (objects : List ℕ) → count ≤ 6 → (few : count ≤ 13) → Some (record { count = count; objects = places_of objects; few = few }) ≡ arguments_in count objects
unfolding arguments_in
arguments-few count objects six few = on (dec_le count 6)
  where
    on : (d : Dec (count ≤ 6)) → Some (record { count = count; objects = places_of objects; few = few }) ≡ arguments_by count objects d
    on (yes p) = ap (λ (p : count ≤ 13). Some (record { count = count; objects = places_of objects; few = p })) (le_prop few (within p))
    on (no n) = absurd (n six)

pub arguments-many : (count : ℕ) (objects : List ℕ) → (count ≤ 6 → ⊥) → arguments_in count objects ≡ None
unfolding arguments_in
arguments-many count objects many = on (dec_le count 6)
  where
    on : (d : Dec (count ≤ 6)) → arguments_by count objects d ≡ None
    on (yes p) = absurd (many p)
    on (no n) = refl

pub ruleset arguments = (arguments-few, arguments-many)

-- a method that is named is declared
pub method_declared : (P : Package) (m s : ℕ) → is_method_of P m s ≡ true → is_method P m ≡ true
unfolding is_method_of is_method
method_declared P m s e = (and_parts _ _ e).0
