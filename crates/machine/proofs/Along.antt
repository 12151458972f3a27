-- A run of the machine goes along with one of the definitions.
-- Assumes nothing.
use Rattle.std.proofs.Common.{◌≡◌, ℕ, suc, Bool, true, false, not, Some, None, Result, Ok, Err, List, [], ◌∷◌, length, refl, sym, ap, subst, ◌∙◌}
use Rattle.meaning.specs.Reading.{Took, takes, refuses, need, answer}
use Rattle.std.specs.Prelude.{nat_lt}
use Rattle.std.proofs.Math.Option as O
use Rattle.meaning.specs.Tables.{Package, owner_of, params_of, result_of, field_class, field_type}
use Rattle.runs.specs.Machine as M
use Rattle.runs.specs.Run as R
use Rattle.runs.specs.Run.{run_from}
use Rattle.runs.specs.Steps as S
use Rattle.machine.specs.declared.refusal.Refusal.{Refusal}
use Rattle.machine.specs.declared.step.Placed.{Placed}
use Rattle.machine.specs.Refusal.{number_of}
use Rattle.machine.specs.Snapshot.{Snapshot}
use Rattle.machine.specs.Step.{step_view, placed_view}
use Rattle.machine.specs.Definitions.{snapshot_from, Once, numbered, outcome_from}
use Rattle.machine.specs.Reached.{reached, reached_from}
use Rattle.machine.proofs.Pools.{once-more}

-- ---- a step keeps that no number is that of two objects

abbrev Keeps : Took M.State → Type 0
Keeps (takes t) = Once t.pool
Keeps (refuses number) = Unit {0}

keeps-asked : (b : Bool) (n : ℕ) (t : Took M.State) → (b ≡ true → Keeps t) → Keeps (need b n t)
keeps-asked true n t keeps = keeps refl
keeps-asked false n t keeps = tt

keeps-need : (b : Bool) (n : ℕ) (t : Took M.State) → Keeps t → Keeps (need b n t)
keeps-need b n t keeps = keeps-asked b n t (λ _. keeps)

module _ (s : M.State) (once : Once s.pool) where
  keeps-join : (r c : ℕ) → Keeps (S.join s r c)
  unfolding S.join
  keeps-join r c = keeps-need (S.room_for M.same_label 32 (M.label r c) s.labels) 63 (takes (M.with_label s r c)) once

  keeps-link : (k : M.Link) → Keeps (S.link s k)
  unfolding S.link
  keeps-link k = keeps-need (S.room_for M.same_link 256 k s.links) 63 (takes (M.with_link s k)) once

  keeps-call : (c : O.Option ℕ) (v : ℕ) (ls : List M.Label) → Keeps (S.call s c v ls)
  unfolding S.call
  keeps-call c v ls = keeps-need (nat_lt (length s.saved) 16) 63 (takes (M.called s c v ls)) once

  keeps-make : (r c : ℕ) → S.in_pool s.pool r ≡ false → Keeps (S.make s r c)
  unfolding S.make
  keeps-make r c e = keeps-need (S.room_for M.same_label 32 (M.label r c) s.labels) 63 (takes (M.with_object s r c)) (once-more s.pool r c once e)

  keeps-back : (r : ℕ) (ks : List M.Saved) → Keeps (S.back s r ks)
  unfolding S.back
  keeps-back r [] = tt
  keeps-back r (k ∷ ks) = keeps-need (S.returns s.labels k.pending r) 62 _ (keeps-need (S.room_given k.pending r k.labels) 63 (takes (M.resumed s r k ks)) once)

  not-true : (b : Bool) → not b ≡ true → b ≡ false
  not-true true e = cc
  not-true false e = refl

  keeps-step : (P : Package) (k : M.Step) → Keeps (S.step P s k)
  unfolding S.step
  keeps-step P (M.widen r b) = keeps-need (S.holds_below P s.labels r b) 62 (S.join s r b) (keeps-join r b)
  keeps-step P (M.new r b) =
      keeps-need (S.permits P s.method 0 b) 61 _
      (keeps-asked (not (S.in_pool s.pool r)) 62 (S.make s r b) (λ e. keeps-make r b (not-true (S.in_pool s.pool r) e)))
  keeps-step P (M.checkcast r b) =
      keeps-need (S.permits P s.method 1 b) 61 _
      (keeps-need (S.holds_ref s.labels r) 62 _
      (keeps-need (S.is_a P s.pool r b) 62 (S.join s r b)
      (keeps-join r b)))
  keeps-step P (M.getstatic f q) =
      keeps-need (S.permits_field P s.method 2 f) 61 _
      (keeps-need (S.has_link s.links (M.static_link P f q)) 62 (S.join s q (field_type P f)) (keeps-join q (field_type P f)))
  keeps-step P (M.putstatic f q) =
      keeps-need (S.permits_field P s.method 3 f) 61 _
      (keeps-need (S.holds s.labels q (field_type P f)) 62 (S.link s (M.static_link P f q)) (keeps-link (M.static_link P f q)))
  keeps-step P (M.getfield f p q) =
      keeps-need (S.permits_field P s.method 4 f) 61 _
      (keeps-need (S.holds_below P s.labels p (field_class P f)) 62 _
      (keeps-need (S.has_link s.links (M.field_link P f p q)) 62 (S.join s q (field_type P f)) (keeps-join q (field_type P f))))
  keeps-step P (M.putfield f p q) =
      keeps-need (S.permits_field P s.method 5 f) 61 _
      (keeps-need (S.holds_below P s.labels p (field_class P f)) 62 _
      (keeps-need (S.holds s.labels q (field_type P f)) 62 (S.link s (M.field_link P f p q)) (keeps-link (M.field_link P f p q))))
  keeps-step P (M.invokestatic n rs) =
      let ls = M.passed rs (params_of P n) in
      keeps-need (S.permits P s.method 6 n) 61 _
      (keeps-need (S.holds_all s.labels rs (params_of P n)) 62 (S.call s (result_of P n) n ls) (keeps-call (result_of P n) n ls))
  keeps-step P (M.invokemethod n v r rs) =
      let ls = M.label r (owner_of P v) ∷ M.passed rs (params_of P n) in
      keeps-need (S.permits P s.method 7 n) 61 _
      (keeps-need (S.holds_below P s.labels r (owner_of P n)) 62 _
      (keeps-need (S.holds_all s.labels rs (params_of P n)) 62 _
      (keeps-need (S.is_a P s.pool r (owner_of P v)) 62 _
      (keeps-need (S.runs_for P v n) 62 (S.call s (result_of P n) v ls)
      (keeps-call (result_of P n) v ls)))))
  keeps-step P (M.return r) = keeps-back r s.saved

  pub next-once : (P : Package) (k : M.Step) (t : M.State) → S.step P s k ≡ takes t → Once t.pool
  next-once P k t e = subst Keeps e (keeps-step P k)

-- ---- a run

-- after `taken` steps the machine holds what the definitions' state is, and the steps that are left lead to the same end
pub record Along (P : Package) (s : M.State) (now : Snapshot) (taken : ℕ) (all left : List R.Placed) : Type 0 where
  pub state : M.State
  pub is : snapshot_from state ≡ now
  pub once : Once state.pool
  pub same : run_from P s 0 all ≡ run_from P state taken left

pub along-start : (P : Package) (s : M.State) (now : Snapshot) (ks : List R.Placed) → snapshot_from s ≡ now → Once s.pool → Along P s now 0 ks ks
along-start P s now ks e once = record { state = s; is = e; once = once; same = refl }

refused-as : (t : Took M.State) (n : ℕ) → refuses n ≡ outcome_from t → t ≡ refuses n
refused-as (takes u) n e = cc
refused-as (refuses m) n e = cc

taken-as : (t : Took M.State) (after : Snapshot) → takes after ≡ outcome_from t → (u : M.State) × (t ≡ takes u) × (snapshot_from u ≡ after)
taken-as (takes u) after e = (u, refl, let same : after ≡ snapshot_from u = cc in sym same)
taken-as (refuses m) after e = cc

module _ (P : Package) (s : M.State) (now : Snapshot) (taken : ℕ) (all : List R.Placed) where
  -- no step is left
  pub at-end : Along P s now taken all [] → reached (record { taken = taken; stopped = None }) now ≡ reached_from (run_from P s 0 all)
  unfolding run_from
  at-end a = sym (ap reached_from a.same ∙ ap (λ (t : Snapshot). record { answer = answer 0 0 taken; after = t }) a.is)

  -- what the machine made of the next step
  abbrev pub Law : Placed → Result Snapshot Refusal → Type 0
  Law k x = (t : M.State) → snapshot_from t ≡ now → Once t.pool → numbered x ≡ outcome_from (S.step P t (step_view k.step))

  module _ (k : Placed) (left rest : List R.Placed) (a : Along P s now taken all left) (split : left ≡ placed_view k ∷ rest) where
    -- the next step is refused
    pub at-refused : (why : Refusal) (x : Result Snapshot Refusal) → x ≡ Err why → Law k x
        → reached (record { taken = taken; stopped = Some (record { line = k.line; refusal = why }) }) now ≡ reached_from (run_from P s 0 all)
    unfolding run_from
    at-refused why x is law =
        let e : refuses (number_of why) ≡ outcome_from (S.step P a.state (step_view k.step)) = ap numbered (sym is) ∙ law a.state a.is a.once in
        let t = S.step P a.state (step_view k.step) in
        let refused : t ≡ refuses (number_of why) = refused-as t (number_of why) e in
        let next : run_from P a.state taken (placed_view k ∷ rest) ≡ R.outcome (answer (number_of why) k.line taken) a.state =
        ap (λ (u : Took M.State). R.run_next (placed_view k) a.state taken u (λ (v : M.State). run_from P v (suc taken) rest)) refused in
        sym
        (ap reached_from (a.same ∙ ap (run_from P a.state taken) split ∙ next)
        ∙ ap (λ (u : Snapshot). record { answer = answer (number_of why) k.line taken; after = u }) a.is)

    -- or taken
    pub at-taken : (after : Snapshot) (x : Result Snapshot Refusal) → x ≡ Ok after → Law k x → Along P s after (suc taken) all rest
    unfolding run_from
    at-taken after x is law =
        let e : takes after ≡ outcome_from (S.step P a.state (step_view k.step)) = ap numbered (sym is) ∙ law a.state a.is a.once in
        let t = S.step P a.state (step_view k.step) in
        let w = taken-as t after e in
        let next : run_from P a.state taken (placed_view k ∷ rest) ≡ run_from P w.0 (suc taken) rest =
        ap (λ (u : Took M.State). R.run_next (placed_view k) a.state taken u (λ (v : M.State). run_from P v (suc taken) rest)) w.1 in
        record { state = w.0; is = w.2; once = next-once a.state a.once P (step_view k.step) w.0 w.1; same = a.same ∙ ap (run_from P a.state taken) split ∙ next }
