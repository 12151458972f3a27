-- What holds of each direct supertype and its class, or of one.
-- Assumes nothing.
use Rattle.std.specs.Prelude.{ℕ, ◌<◌, length}
use Rattle.meaning.specs.Lists.{In}
use Rattle.meaning.specs.Tables.{Package, supers_of}

abbrev pub HoldsAtSteps : Package → (ℕ → ℕ → Type 0) → Type 0
HoldsAtSteps P Q = (c s : ℕ) → c < length P.classes → In s (supers_of P c) → Q s c

pub record FailsAtStep (P : Package) (Q : ℕ → ℕ → Type 0) : Type 0 where
  pub class : ℕ
  pub supertype : ℕ
  pub declared : class < length P.classes
  pub step : In supertype (supers_of P class)
  pub fails : Q supertype class
