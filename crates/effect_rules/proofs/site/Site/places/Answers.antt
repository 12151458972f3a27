use Rattle.std.proofs.Common.{◌≡◌, ◌⊎◌, inl, inr, refl, length, take, arith}
use Rattle.std.specs.Borrow.{Bor}
use Rattle.std.proofs.lemmas.Grind.{common_steps}
use Rattle.tables.specs.declared.elements.Method.{Method}
use Rattle.tables.specs.View.{view}
use Rattle.effect_rules.specs.declared.site.Named.{Named}
use Rattle.effect_rules.specs.declared.site.Named.TheVariants.{CalledStatic, Called}
use Rattle.effect_rules.specs.Sites.{arguments_of}
use Rattle.effect_rules.proofs.Laws.{argument}
use Rattle.effect_rules.proofs.site.Site.places.Goals as goal
use Rattle.effect_rules.proofs.site.Site.places.Goals.{in-CalledStatic, in-CalledStatic-2}

pub returns-in-Created-clause-rest : goal.returns-in-Created-clause-rest
returns-in-Created-clause-rest c = λ second _ _. let s = c.args.self.now in grind (arith, common_steps, argument (view s.trust.now) s.number s.does second)

counted : (named : Named) (method : Bor Method) → (named ≡ CalledStatic method) ⊎ (named ≡ Called method) → length (take method.now.parameter_count method.now.parameters) ≡ arguments_of named
counted named method (inl e) = rw e refl
counted named method (inr e) = rw e refl

pub returns-in-CalledStatic-clause-value : goal.returns-in-CalledStatic-clause-value
returns-in-CalledStatic-clause-value c =
    elim c.in-CalledStatic-1.branch [
      | in-CalledStatic w ↦ rw (c.in-Argument.is, c.parameters.ensures.value, w.method-is) (counted _ _ w.in-CalledStatic.is)
      | in-CalledStatic-2 w ↦ rw (c.in-Argument.is, c.parameters.ensures.value, w.method-is) (counted _ _ w.in-CalledStatic.is)
    ]
