use Rattle.std.proofs.Common.{rules, tests, ◌≡◌, ◌∙◌, Bool, List, ap, map}
use Rattle.std.proofs.lemmas.Iterator.{YieldsList-from_slice}
use Rattle.std.proofs.lemmas.Iterator.Search.{any_from_yields_List}
use Rattle.meaning.specs.Lists.{any}
use Rattle.tables.specs.declared.elements.Effect.{Effect}
use Rattle.tables.specs.Contents.{Contents}
use Rattle.tables.specs.View.{view, effect_view, operation_number}
use Rattle.permits.specs.Wanted.{fits, passes}
use Rattle.permits.proofs.Search.{list-any-is}
use Rattle.permits.proofs.chains.Permits.has.Goals as goal

pub returns : goal.returns
returns c =
    let test = passes c.args.method (operation_number c.args.operation) (fits (view c.args.self.now) c.args.wanted) in
    let of_effect : Effect → Bool = λ e. test (effect_view e) in
    let same : c.effects.result.now ≡ c.args.self.now.effects = c.effects.ensures.value ∙ ap (λ (t : Contents). t.effects) c.self.view_is in
    any_from_yields_List of_effect _ _ c.any.result c.any.ensures.ran (YieldsList-from_slice c.effects.result.now cc) (λ x b q k. search (rules, tests))
    ∙ list-any-is test c.effects.result.now
    ∙ ap (λ (es : List Effect). any test (map effect_view es)) same
