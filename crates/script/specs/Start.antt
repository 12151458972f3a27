-- What a line asks of the objects of the start.
use Rattle.std.specs.Prelude.{ℕ, Bool, false, Option, Some, None, is_some}
use Rattle.meaning.specs.Tables.{Package}
use Rattle.meaning.specs.Tests.{subtype}
use Rattle.machine.specs.Snapshot.{Snapshot, class_at}

-- the object has this class or one below it
abbrev pub is_instance_of : Package → Option ℕ → ℕ → Bool
is_instance_of P None above = false
is_instance_of P (Some class) above = subtype P class above

abbrev pub is_instance : Package → Snapshot → ℕ → ℕ → Bool
is_instance P s object above = is_instance_of P (class_at s object) above

abbrev pub is_object : Snapshot → ℕ → Bool
is_object s object = is_some (class_at s object)
