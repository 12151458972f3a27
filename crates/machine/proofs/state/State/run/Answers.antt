use Rattle.std.proofs.Common.{◌≡◌, ◌+◌, ◌<◌, ℕ, suc, Result, Some, None, List, [], ◌∷◌, length, drop, map, get_or, sym, ap, subst, ◌∙◌, arith, add-one, drop-cons, drop_of_length-le}
use Rattle.std.proofs.lemmas.Grind.{common_steps}
use Rattle.tables.specs.View.{view}
use Rattle.runs.specs.Run as R
use Rattle.machine.specs.declared.refusal.Refusal.{Refusal}
use Rattle.machine.specs.declared.step.Placed.{Placed}
use Rattle.machine.specs.Snapshot.{outcome_of}
use Rattle.machine.specs.Reached.{reached, reached_from}
use Rattle.machine.specs.Step.{placed_view}
use Rattle.machine.proofs.Along.{Along, at-end, at-refused, at-taken}
use Rattle.machine.proofs.state.State.run.Goals as goal

-- the next step is the first of those that are left
next : (ks : List Placed) (i : ℕ) (k : Placed) → i < length ks → k ≡ get_or ks i k → map placed_view (drop i ks) ≡ placed_view k ∷ map placed_view (drop (i + 1) ks)
next ks i k h e =
    let one : i + 1 ≡ suc i = add-one i in
    rw one (ap (map placed_view) (drop-cons ks i k h ∙ ap (λ (x : Placed). x ∷ drop (suc i) ks) (sym e)))

pub returns-in-Err-clause-definition : goal.returns-in-Err-clause-definition
returns-in-Err-clause-definition c s e once =
    let P = view c.args.loaded.now in
    let ks = c.args.steps.now in
    let k = c.index-steps-taken.result in
    let taken = c.loop-taken.taken in
    let left = map placed_view (drop taken ks) in
    let rest = map placed_view (drop (taken + 1) ks) in
    let split : left ≡ placed_view k ∷ rest = next ks taken k c.loop-taken-test.true c.index-steps-taken.is in
    ap (reached (record { taken = taken; stopped = Some (record { line = k.line; refusal = c.in-Err.refusal }) })) c.in-Err.ensures.refused
    ∙ at-refused P s c.loop-taken.self taken (map placed_view ks) k left rest (c.loop-taken.invariant.definition s e once) split c.in-Err.refusal (outcome_of c.step.result c.step.new.self)
    (ap (λ (r : Result (Unit {0}) Refusal). outcome_of r c.step.new.self) c.in-Err.is) c.step.ensures.definition

pub loop-taken-preserved : goal.loop-taken-preserved
loop-taken-preserved c =
    let P = view c.args.loaded.now in
    let ks = c.args.steps.now in
    let k = c.index-steps-taken.result in
    let taken = c.loop-taken.taken in
    let left = map placed_view (drop taken ks) in
    let rest = map placed_view (drop (taken + 1) ks) in
    let split : left ≡ placed_view k ∷ rest = next ks taken k c.loop-taken-test.true c.index-steps-taken.is in
    record {
      outcome = grind (arith, common_steps);
      definition = λ s e once.
          subst (λ (n : ℕ). Along P s c.step.new.self n (map placed_view ks) rest) (sym (add-one taken))
          (at-taken P s c.loop-taken.self taken (map placed_view ks) k left rest (c.loop-taken.invariant.definition s e once) split c.step.new.self (outcome_of c.step.result c.step.new.self)
          (ap (λ (r : Result (Unit {0}) Refusal). outcome_of r c.step.new.self) c.in_default.is) c.step.ensures.definition);
    }

pub returns-clause-definition : goal.returns-clause-definition
returns-clause-definition c s e once =
    let ks = c.args.steps.now in
    let taken = c.loop-taken.taken in
    let all_taken : taken ≡ length ks = omega arith in
    let nothing_left : map placed_view (drop taken ks) ≡ [] = ap (map placed_view) (drop_of_length-le ks c.loop-taken-test.false) in
    subst (λ (n : ℕ). reached (record { taken = n; stopped = None }) c.loop-taken.self ≡ reached_from (R.run_from (view c.args.loaded.now) s 0 (map placed_view ks))) all_taken
    (at-end (view c.args.loaded.now) s c.loop-taken.self taken (map placed_view ks)
    (subst (λ (left : List R.Placed). Along (view c.args.loaded.now) s c.loop-taken.self taken (map placed_view ks) left) nothing_left (c.loop-taken.invariant.definition s e once)))
