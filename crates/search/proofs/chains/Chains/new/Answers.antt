use Rattle.std.proofs.Common.{◌+◌, get_or, length-set, ◌∙◌, arith}
use Rattle.search.specs.Keys.{FirstFrom}
use Rattle.search.proofs.Filling.{filled_more}
use Rattle.search.proofs.Starts.{started_next, started_last}
use Rattle.search.proofs.chains.Chains.new.Goals as goal
use Rattle.search.proofs.chains.Chains.new.Goals.{then-next-count, else-next-count}

pub loop-place-preserved : goal.loop-place-preserved
loop-place-preserved c = let i = c.loop-place.invariant in record {
  starts_long = elim c.if-next-count.branch [ then-next-count w ↦ rw w.starts-is (length-set c.loop-place.starts _ _ ∙ i.starts_long) | else-next-count w ↦ rw w.starts-is i.starts_long ];
  nexts_long = length-set c.loop-place.nexts c.loop-place.place c.next_of-next.result ∙ i.nexts_long;
  started = elim c.if-next-count.branch [ then-next-count w ↦ rw w.starts-is (started_next i.starts_long c.loop-place-test.true c.requires c.next_of-next.ensures i.started w.if-next-count.true) | else-next-count w ↦ rw w.starts-is (started_last i.starts_long c.loop-place-test.true c.requires c.next_of-next.ensures i.started w.if-next-count.false) ];
  linked = filled_more (λ a r. FirstFrom c.args.keys c.args.count (a + 1) (get_or c.args.keys a 0) r) _ _ _ (omega (arith, i.nexts_long)) c.next_of-next.ensures i.linked;
}
