use Rattle.std.proofs.Common.{ℕ, sym, ◌∙◌, subst, List, get_or, arith}
use Rattle.meaning.specs.Lists.{In}
use Rattle.meaning.proofs.Lists.{get_or-in}
use Rattle.meaning.proofs.Trust.{good-rising}
use Rattle.tables.specs.View.{view}
use Rattle.trust.proofs.Declared.{supers-at, class-count}
use Rattle.pair_rules.proofs.clearing.supertypes_of.Goals as goal

pub returns-clause-value : goal.returns-clause-value
returns-clause-value c =
    let at = rw c.classes.ensures.value at c.index-classes-class.is in
    c.supertypes.ensures.value ∙ sym (supers-at _ _ _ c.requires at)

pub returns-clause-low : goal.returns-clause-low
returns-clause-low c = λ j l.
    let at = rw c.classes.ensures.value at c.index-classes-class.is in
    let s = c.supertypes.ensures.value ∙ sym (supers-at _ _ _ c.requires at) in
    let low = good-rising (view c.args.tables.now) c.classes.ensures.good c.args.class (get_or c.supertypes.result.now j 0) (subst (λ (l : List ℕ). In (get_or c.supertypes.result.now j 0) l) s (get_or-in c.supertypes.result.now j 0 l)) in
    omega (arith, c.requires, low)

pub returns-clause-few : goal.returns-clause-few
returns-clause-few c = omega (arith, c.classes.ensures.good.few_classes, class-count c.args.tables.now)
