use Rattle.std.proofs.Common.{rules, tests, ◌∙◌}
use Rattle.std.proofs.lemmas.Iterator.{YieldsList-from_slice}
use Rattle.std.proofs.lemmas.Iterator.Search.{any_from_yields_List}
use Rattle.meaning.specs.Tests.{keeps_from}
use Rattle.tables.specs.View.{view}
use Rattle.pair_tests.proofs.Laws.{any_is}
use Rattle.pair_tests.proofs.overriding.some_is_kept.Goals as goal

pub returns : goal.returns
returns c =
    let kept = keeps_from (view c.args.trust.now) c.args.own c.args.class c.args.own in
    any_from_yields_List kept _ _ _ c.any.ensures.ran (YieldsList-from_slice c.args.parameters.now cc) (λ x b q k. search (rules, tests)) ∙ any_is kept c.args.parameters.now
