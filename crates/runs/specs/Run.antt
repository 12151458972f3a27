-- A run (01, "Run text"): the permitted prefix of its steps, said by `Moves` and room alone, and what computes it.
-- "The first refused step ends the run. A refused step changes nothing in the run's state."
-- Assumes nothing.
use Rattle.std.specs.Prelude.{ℕ, suc, List, [], ◌∷◌, length}
use Rattle.meaning.specs.Tables.{Package}
use Rattle.meaning.specs.Reading.{Answer, answer, Took, takes, refuses}
use Rattle.runs.specs.Machine.{State, Step, Moves, Room, FirstMissing}
use Rattle.runs.specs.Steps.{step}

-- a step, with the line of the run text on which it stands
pub record Placed : Type 0 where
  pub line : ℕ
  pub step : Step

abbrev pub placed : ℕ → Step → Placed
placed n k = record { line = n; step = k }

-- ---- 003's →*, without and with the limits of 01

-- `Moves` leads from s along the steps to t
pub data Leads (P : Package) : State → List Placed → State → Type 0 where
  stays : {s : State} → Leads P s [] s
  moves : {s u t : State} {k : Placed} {ks : List Placed} → Moves P s k.step u → Leads P u ks t → Leads P s (k ∷ ks) t

-- the step is permitted: it moves, and there is room
pub record Goes (P : Package) (s : State) (k : Step) (t : State) : Type 0 where
  pub moves : Moves P s k t
  pub room : Room P s k

-- `Prefix P s ks taken t left`: of the steps ks from s, those in `taken` are the permitted prefix and lead to t; `left` is what is left,
-- nothing or a first step that is not permitted
pub data Prefix (P : Package) : State → List Placed → List Placed → State → List Placed → Type 0 where
  ends : {s : State} → Prefix P s [] [] s []
  stops : {s : State} {k : Placed} {ks : List Placed} → ((t : State) → Goes P s k.step t → ⊥) → Prefix P s (k ∷ ks) [] s (k ∷ ks)
  goes : {s u t : State} {k : Placed} {ks taken left : List Placed} → Goes P s k.step u → Prefix P u ks taken t left → Prefix P s (k ∷ ks) (k ∷ taken) t left

-- the answer, and the state after the permitted prefix
pub record Outcome : Type 0 where
  pub answer : Answer
  pub state : State

abbrev pub outcome : Answer → State → Outcome
outcome a s = record { answer = a; state = s }

-- success answers 0, 0, and the number of steps taken; a refused step what is missing first, its line, and the number of steps taken
pub data Answers (P : Package) (s : State) (ks : List Placed) : Outcome → Type 0 where
  success : {taken : List Placed} {t : State} → Prefix P s ks taken t [] → Answers P s ks (outcome (answer 0 0 (length taken)) t)
  refused : {taken left : List Placed} {t : State} {k : Placed} {x : ℕ}
      → Prefix P s ks taken t (k ∷ left)
      → FirstMissing P t k.step x
      → Answers P s ks (outcome (answer x k.line (length taken)) t)

-- ---- what computes it

-- a refused step ends the run in the state before it
abbrev pub run_next : Placed → State → ℕ → Took State → (State → Outcome) → Outcome
run_next k s n (refuses x) go = outcome (answer x k.line n) s
run_next k s n (takes t) go = go t

-- the run from s, where n steps are taken before
unfoldable pub run_from : Package → State → ℕ → List Placed → Outcome
unfolding step
run_from P s n [] = outcome (answer 0 0 n) s
run_from P s n (k ∷ ks) = run_next k s n (step P s k.step) (λ (t : State). run_from P t (suc n) ks)
