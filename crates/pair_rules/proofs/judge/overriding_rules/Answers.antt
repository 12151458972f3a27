use Rattle.std.proofs.Common.{◌≡◌, Err, [], ◌∷◌, rules}
use Rattle.meaning.specs.Check.{of_methods}
use Rattle.meaning.specs.Tests.{breaks23, breaks24, breaks25}
use Rattle.tables.specs.View.{view}
use Rattle.pair_rules.specs.Slots.{AreSlots}
use Rattle.pair_rules.proofs.Together.{keyed_23, keyed_24, keyed_25}
use Rattle.pair_rules.proofs.Kept.{kept_overriding, says_of_methods}
use Rattle.pair_rules.proofs.Judged.{says_first, says_then}
use Rattle.pair_rules.proofs.judge.overriding_rules.Goals as goal

pub returns-in_default : goal.returns-in_default
returns-in_default c = kept_overriding (view c.args.trust.now) (rw c.in_default.is at c.requires)

pub judge_in-requires-clause-keyed : goal.judge_in-requires-clause-keyed
judge_in-requires-clause-keyed c = let slots : AreSlots c.args.trust.now c.in-Some.slots.now = rw c.in-Some.is at c.requires in keyed_23 c.args.trust.now slots.good c.in-Some.slots.now slots

pub judge_in-requires-2-clause-keyed : goal.judge_in-requires-2-clause-keyed
judge_in-requires-2-clause-keyed c = let slots : AreSlots c.args.trust.now c.in-Some.slots.now = rw c.in-Some.is at c.requires in keyed_24 c.args.trust.now slots.good c.in-Some.slots.now slots

pub judge_in-requires-3-clause-keyed : goal.judge_in-requires-3-clause-keyed
judge_in-requires-3-clause-keyed c = let slots : AreSlots c.args.trust.now c.in-Some.slots.now = rw c.in-Some.is at c.requires in keyed_25 c.args.trust.now slots.good c.in-Some.slots.now slots

pub returns-in_err-judge_in : goal.returns-in_err-judge_in
returns-in_err-judge_in c =
    let t = c.args.trust.now in
    let e : c.from_residual.result ≡ Err c.in_err-judge_in.field-0.0 = search rules in
    rw e (says_first (of_methods (view t) 24 breaks24 ∷ of_methods (view t) 25 breaks25 ∷ []) _ (says_of_methods t 23 (breaks23 (view t)) _ c.in_err-judge_in.ensures))

pub returns-in_err-judge_in-2 : goal.returns-in_err-judge_in-2
returns-in_err-judge_in-2 c =
    let t = c.args.trust.now in
    let e : c.from_residual-in_err-judge_in-2.result ≡ Err c.in_err-judge_in-2.field-0.0 = search rules in
    rw e (says_then c.in_ok-judge_in.field-0 (says_of_methods t 23 (breaks23 (view t)) _ c.in_ok-judge_in.ensures) (says_first (of_methods (view t) 25 breaks25 ∷ []) _ (says_of_methods t 24 (breaks24 (view t)) _ c.in_err-judge_in-2.ensures)))

pub returns : goal.returns
returns c =
    let t = c.args.trust.now in
    says_then c.in_ok-judge_in.field-0 (says_of_methods t 23 (breaks23 (view t)) _ c.in_ok-judge_in.ensures)
    (says_then c.in_ok-judge_in-2.field-0 (says_of_methods t 24 (breaks24 (view t)) _ c.in_ok-judge_in-2.ensures) (says_of_methods t 25 (breaks25 (view t)) _ c.judge_in-3.ensures))
