use Rattle.std.proofs.Common.{arith, ◌∙◌, sym}
use Rattle.search.proofs.Finding.{found_none, found_some}
use Rattle.search.proofs.pairs.first_broken.Goals as goal

pub returns-then-is_broken : goal.returns-then-is_broken
returns-then-is_broken g c = let n = c.count-count.ensures in
    found_some _ _ _ _ (rw (← n) c.loop-first-test.true) (rw (← n) c.loop-second-test.true) (λ a b l m. c.loop-first.invariant a b l (rw n m)) c.loop-second.invariant (sym c.is_broken.ensures ∙ c.if-is_broken.true)

pub returns-after-loop-first : goal.returns-after-loop-first
returns-after-loop-first g c = let n = c.count-count.ensures in
    found_none _ _ (λ a b l m. c.loop-first.invariant a b (omega arith) (rw n m))
