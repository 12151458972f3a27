-- What an effect names is a fact.
use Rattle.std.specs.Prelude.{ℕ}
use Rattle.std.proofs.Props.{props}
use Rattle.meaning.specs.Tables.{Package}
use Rattle.effect_rules.specs.declared.site.Named.{Named}
use Rattle.effect_rules.specs.declared.site.Named.TheVariants.{Created, CastTo, Read, Written, CalledStatic, Called}
use Rattle.effect_rules.specs.Sites.{Names}

pub Names-fact : (P : Package) (x : ℕ) (named : Named) → IsProp (Names P x named)
Names-fact P x (Created class) = Prim.hlevel props
Names-fact P x (CastTo class) = Prim.hlevel props
Names-fact P x (Read field) = Prim.hlevel props
Names-fact P x (Written field) = Prim.hlevel props
Names-fact P x (CalledStatic method) = Prim.hlevel props
Names-fact P x (Called method) = Prim.hlevel props
