use Rattle.std.proofs.Common.{◌≡◌, Err, [], ◌∷◌, rules}
use Rattle.meaning.specs.Check.{of_methods}
use Rattle.meaning.specs.Tests.{breaks11, breaks12}
use Rattle.tables.specs.View.{view}
use Rattle.pair_rules.specs.Slots.{AreSlots}
use Rattle.pair_rules.proofs.Together.{keyed_11, keyed_12}
use Rattle.pair_rules.proofs.Kept.{kept_slots, says_of_methods}
use Rattle.pair_rules.proofs.Judged.{says_first, says_then}
use Rattle.pair_rules.proofs.judge.slot_rules.Goals as goal

pub returns-in_default : goal.returns-in_default
returns-in_default c = kept_slots (view c.args.tables.now) (rw c.in_default.is at c.requires)

pub judge_in-requires-clause-keyed : goal.judge_in-requires-clause-keyed
judge_in-requires-clause-keyed c = let slots : AreSlots c.args.tables.now c.in-Some.slots.now = rw c.in-Some.is at c.requires in keyed_11 c.args.tables.now slots.good c.in-Some.slots.now slots

pub judge_in-requires-2-clause-keyed : goal.judge_in-requires-2-clause-keyed
judge_in-requires-2-clause-keyed c = let slots : AreSlots c.args.tables.now c.in-Some.slots.now = rw c.in-Some.is at c.requires in keyed_12 c.args.tables.now slots.good c.in-Some.slots.now slots

pub returns-in_err-judge_in : goal.returns-in_err-judge_in
returns-in_err-judge_in c =
    let t = c.args.tables.now in
    let e : c.from_residual.result ≡ Err c.in_err-judge_in.field-0.0 = search rules in
    rw e (says_first (of_methods (view t) 12 breaks12 ∷ []) _ (says_of_methods t 11 (breaks11 (view t)) _ c.in_err-judge_in.ensures))

pub returns : goal.returns
returns c =
    let t = c.args.tables.now in
    says_then c.in_ok-judge_in.field-0 (says_of_methods t 11 (breaks11 (view t)) _ c.in_ok-judge_in.ensures) (says_of_methods t 12 (breaks12 (view t)) _ c.judge_in-2.ensures)
