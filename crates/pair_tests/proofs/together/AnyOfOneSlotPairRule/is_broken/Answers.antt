use Rattle.std.proofs.Common.{sym, ap₂, ◌∙◌, eqb, eq-eqb, ne_eqb}
use Rattle.tables.specs.View.{view}
use Rattle.meaning.specs.Tests.{subtype}
use Rattle.pair_tests.proofs.Some.{some_same, some_other, some-apart}
use Rattle.pair_tests.proofs.together.AnyOfOneSlotPairRule.is_broken.Goals as goal

pub returns-then-own-class : goal.returns-then-own-class
returns-then-own-class c =
    let t = c.tables-tables.ensures.value in
    let own = rw t at c.method.ensures.class in
    let class = rw t at c.method-2.ensures.class in
    rw t at c.is_broken.ensures ∙ some_same (view c.args.self.now.trust.now) c.args.first c.args.second (ap₂ eqb own class ∙ eq-eqb _ _ c.if-own-class.true)

pub returns-then-is_subtype : goal.returns-then-is_subtype
returns-then-is_subtype c =
    let t = c.tables-tables.ensures.value in
    let own = rw t at c.method.ensures.class in
    let class = rw t at c.method-2.ensures.class in
    c.breaks_overriding.ensures ∙ some_other (view c.args.self.now.trust.now) c.args.first c.args.second (ap₂ eqb own class ∙ ne_eqb _ _ c.if-own-class.false)

pub returns-else-is_subtype : goal.returns-else-is_subtype
returns-else-is_subtype c =
    let t = c.tables-tables.ensures.value in
    let own = rw t at c.method.ensures.class in
    let class = rw t at c.method-2.ensures.class in
    c.if-is_subtype.false ∙ some-apart (view c.args.self.now.trust.now) c.args.first c.args.second (ap₂ eqb own class ∙ ne_eqb _ _ c.if-own-class.false) (ap₂ (subtype (view c.args.self.now.trust.now)) own class ∙ sym c.is_subtype.ensures ∙ c.if-is_subtype.false)
