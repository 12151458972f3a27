use Rattle.std.proofs.Common.{true, List, ℕ, ap, length, get_or, subst, arith}
use Rattle.meaning.specs.Lists.{In}
use Rattle.meaning.proofs.Lists.{get_or-in}
use Rattle.tables.specs.View.{view}
use Rattle.trust.proofs.Declared.{class-count}
use Rattle.pair_rules.proofs.Steps.{steps_more}
use Rattle.pair_rules.proofs.clearing.holds_at_steps.Given as given
use Rattle.pair_rules.proofs.clearing.holds_at_steps.Goals as goal

pub loop-class-preserved : goal.loop-class-preserved
loop-class-preserved g c =
    steps_more (λ s k. given.F-post g c.args.holds s k true) (view c.args.tables.now) _ _ c.supertypes_of-supertypes.ensures.value (λ j l. c.loop-supertype.invariant j (omega (arith, l, c.loop-supertype-test.false))) c.loop-class.invariant

pub returns-then-not-holds-clause-fails : goal.returns-then-not-holds-clause-fails
returns-then-not-holds-clause-fails g c = λ f.
    let xs = c.supertypes_of-supertypes.result.now in
    let j = c.loop-supertype.supertype-index in
    record {
      class = c.loop-class.class;
      supertype = get_or xs j 0;
      declared = omega (arith, c.loop-class-test.true, ap length c.classes-class-end.ensures.value, class-count c.args.tables.now);
      step = subst (λ (l : List ℕ). In (get_or xs j 0) l) c.supertypes_of-supertypes.ensures.value (get_or-in xs j 0 c.loop-supertype-test.true);
      fails = c.if-not-holds.ensures;
    }
