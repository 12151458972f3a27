-- What an effect has to name, and the search for one.
-- Assumes nothing.
use Rattle.std.specs.Prelude.{ℕ, Bool, true, ◌&&◌, eqb, ◌≡◌}
use Rattle.meaning.specs.Tables as M
use Rattle.meaning.specs.Tables.{Package, field_class, field_type}
use Rattle.tables.specs.declared.elements.Effect.{Effect}
use Rattle.tables.specs.View.{effect_view}
use Rattle.permits.specs.Chains.{group_of}
use Rattle.permits.specs.declared.chains.Wanted.{Wanted}
use Rattle.permits.specs.declared.chains.Wanted.TheVariants.{Number, Field}

abbrev pub fits : Package → Wanted → ℕ → Bool
fits P (Number other) number = eqb number other
fits P (Field class typ) number = eqb (field_class P number) class && eqb (field_type P number) typ

-- an effect of the method with this operation, on a number that passes the test
abbrev pub passes : ℕ → ℕ → (ℕ → Bool) → M.Effect → Bool
passes m op test e = eqb e.method m && (eqb e.op op && test e.number)

-- all effects that pass are of this group
abbrev pub IsTogether : Package → ℕ → ℕ → Wanted → ℕ → Type 0
IsTogether P m op wanted g = (e : Effect) → passes m op (fits P wanted) (effect_view e) ≡ true → group_of P e ≡ g
