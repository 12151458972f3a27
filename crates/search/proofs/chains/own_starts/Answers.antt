use Rattle.std.proofs.Common.{length-set, ◌∙◌, arith}
use Rattle.search.specs.Keys.{OwnStart}
use Rattle.search.proofs.Filling.{filled_more}
use Rattle.search.proofs.Starts.{own_started}
use Rattle.search.proofs.chains.own_starts.Goals as goal

pub loop-place-preserved : goal.loop-place-preserved
loop-place-preserved c = record {
  long = length-set c.loop-place.starts c.loop-place.place c.own_start.result ∙ c.loop-place.invariant.long;
  own = filled_more (OwnStart c.args.keys.now c.args.count) _ _ _ (omega (arith, c.loop-place.invariant.long)) c.own_start.ensures c.loop-place.invariant.own;
}

pub returns : goal.returns
returns c = own_started c.loop-place-test.false c.loop-place.invariant.own
