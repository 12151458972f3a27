-- The two searches are those of the definitions.
-- Assumes nothing.
use Rattle.std.proofs.Common.{◌≡◌, ℕ, refl}
use Rattle.meaning.specs.Lists.{any}
use Rattle.meaning.specs.Tables.{Package, field_class, field_type}
use Rattle.runs.specs.Steps.{is_effect, permits, like_field, is_field_effect, permits_field}
use Rattle.permits.specs.Wanted.{fits, passes}
use Rattle.permits.specs.declared.chains.Wanted.TheVariants.{Number, Field}

pub permits-is : (P : Package) (m op x : ℕ) → any (passes m op (fits P (Number x))) P.effects ≡ permits P m op x
unfolding permits is_effect
permits-is P m op x = refl

pub permits-field-is : (P : Package) (m op f : ℕ) → any (passes m op (fits P (Field (field_class P f) (field_type P f)))) P.effects ≡ permits_field P m op f
unfolding permits_field is_field_effect like_field
permits-field-is P m op f = refl
