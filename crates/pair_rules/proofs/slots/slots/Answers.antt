use Rattle.std.proofs.Common.{◌≡◌, ap, length, sym, length-set, ◌∙◌, arith}
use lib.ListN.{length-map}
use Rattle.meaning.specs.Tables.{slot_of}
use Rattle.tables.specs.View.{view, method_view}
use Rattle.search.proofs.Filling.{filled_more}
use Rattle.pair_rules.proofs.slots.slots.Goals as goal

pub loop-number-preserved : goal.loop-number-preserved
loop-number-preserved c =
    let few = c.methods-count.ensures.good.few_methods in
    let same = length-map c.args.tables.now.methods method_view in
    let read = ap length c.methods-count.ensures.value in
    record {
      long = length-set c.loop-number.keys c.loop-number.number c.method.result.now.slot ∙ c.loop-number.invariant.long;
      keys = filled_more (λ m k. k ≡ slot_of (view c.args.tables.now) m) _ _ _ (omega (arith, few, same, read, c.loop-number.invariant.long, c.loop-number-test.true)) (sym c.method.ensures.slot) c.loop-number.invariant.keys;
    }
