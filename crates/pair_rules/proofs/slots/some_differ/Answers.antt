use Rattle.std.proofs.Common.{◌≡◌, ◌<◌, true, true≢false, sym, ◌∙◌, slice_index, refl, arith}
use Rattle.tables.specs.View.{view}
use Rattle.pair_tests.specs.Methods.{types_differ}
use Rattle.pair_rules.proofs.Together.{none_11, some_11}
use Rattle.pair_rules.proofs.slots.some_differ.Goals as goal

pub returns-then-types_differ : goal.returns-then-types_differ
returns-then-types_differ c =
    let t = c.args.tables.now in
    let s = c.args.slots.now in
    let m = c.loop-number.number in
    let h : m < s.count = omega (arith, c.count-count.ensures.count, c.loop-number-test.true) in
    let l : slice_index s.starts m < s.count = rw (← c.start-first.ensures.value) (omega (arith, c.count-count.ensures.count, c.if-first-count.true)) in
    let d : types_differ (view t) (slice_index s.starts m) m ≡ true = rw (← c.start-first.ensures.value) (sym c.types_differ.ensures ∙ c.if-types_differ.true) in
    (λ f. absurd (true≢false f), λ k. absurd (some_11 t c.requires.good s c.requires m h l d k))

pub returns : goal.returns
returns c = (λ f. none_11 c.args.tables.now c.requires.good c.args.slots.now c.requires (λ m h l. c.loop-number.invariant m (omega (arith, c.count-count.ensures.count)) (omega (arith, c.count-count.ensures.count))), λ k. refl)
