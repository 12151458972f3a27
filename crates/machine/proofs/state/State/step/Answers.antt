use Rattle.std.proofs.Common.{◌≡◌, ap, subst, ◌∙◌}
use Rattle.tables.specs.View.{view}
use Rattle.runs.specs.Steps as S
use Rattle.machine.specs.Definitions.{numbered, outcome_from}
use Rattle.machine.specs.Snapshot.{Snapshot}
use Rattle.machine.specs.Steps.{step_of}
use Rattle.machine.specs.Step.{step_view}
use Rattle.machine.proofs.Law.{step-is}
use Rattle.machine.proofs.Order.{step-whole}
use Rattle.machine.proofs.state.State.step.Goals as goal

pub returns-clause-definition : goal.returns-clause-definition
returns-clause-definition c s e once =
    let P = view c.args.loaded.now in
    ap numbered c.take.ensures.outcome
    ∙ subst (λ (t : Snapshot). numbered (step_of P t c.args.step) ≡ outcome_from (S.step P s (step_view c.args.step))) e (step-is P s c.args.step once c.take.ensures.fits)

pub returns-clause-whole : goal.returns-clause-whole
returns-clause-whole c = ap numbered c.take.ensures.outcome ∙ step-whole (view c.args.loaded.now) c.args.self.now c.args.step c.take.ensures.all_numbers c.take.ensures.fits
