use Rattle.std.proofs.Common.{true≢false, sym, ◌∙◌, length, arith}
use lib.ListN.{length-map}
use Rattle.tables.specs.View.{view, method_view}
use Rattle.pair_tests.specs.Methods.{breaks_some}
use Rattle.pair_rules.specs.Slots.{HaveOneType}
use Rattle.pair_rules.proofs.Places.{found_nowhere, nowhere_found, is_none_of}
use Rattle.pair_rules.proofs.Together.{keyed_some, one-is-some, kept_some}
use Rattle.pair_rules.proofs.slots.some_broken.Goals as goal

pub first_broken_in-requires-clause-keyed : goal.first_broken_in-requires-clause-keyed
first_broken_in-requires-clause-keyed c = keyed_some c.args.trust.now c.requires.good c.args.slots.now c.requires

pub returns-then-some_differ : goal.returns-then-some_differ
returns-then-some_differ c = (λ f. absurd (true≢false f), λ k. let types : HaveOneType (view c.tables.result.now) = rw c.tables.ensures.value k.types in sym c.if-some_differ.true ∙ c.some_differ.ensures.1 types)

pub returns : goal.returns
returns c =
    let t = c.args.trust.now in (
      (λ f.
          let none = sym c.first_broken_in.ensures ∙ is_none_of _ (sym c.is_some.ensures ∙ f) in
          let types : HaveOneType (view t) = rw (← c.tables.ensures.value) (c.some_differ.ensures.0 c.if-some_differ.false) in
          one-is-some t c.requires.good c.args.slots.now c.requires types (λ a b h l. found_nowhere _ (breaks_some (view t)) none a b (omega (arith, h, c.requires.count)) (omega (arith, l, c.requires.count)))),
      (λ k.
          let none = nowhere_found (length t.methods) (breaks_some (view t)) (λ a b h l. kept_some (view t) k a b (rw (length-map t.methods method_view) h) (rw (length-map t.methods method_view) l)) in
          c.is_some.ensures ∙ rw c.first_broken_in.ensures none),
    )
