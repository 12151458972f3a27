use Rattle.std.proofs.Common.{rules}
use Rattle.meaning.proofs.Bools.{true-passes}
use Rattle.tables.specs.View.{view}
use Rattle.pair_rules.proofs.Kept.{kept_22}
use Rattle.pair_rules.proofs.Stepwise.{cleared}
use Rattle.pair_rules.proofs.judge.lost_suspicion.Goals as goal

pub returns-then-holds_at_steps : goal.returns-then-holds_at_steps
returns-then-holds_at_steps c =
    let P = view c.args.trust.now in
    let held = c.holds_at_steps.ensures.holds c.if-holds_at_steps.true in
    kept_22 P ((cleared P c.tables.ensures.good).1 (λ k s h m. let p = held k s (rw c.tables.ensures.value h) (rw c.tables.ensures.value m) in true-passes _ (rw (← c.suspicion-suspicion.ensures) (search rules))))
