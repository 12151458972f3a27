-- Reach (01, "Reach"; 003, Fig. 7 as 01 mends it), and demand 3: what a run can change about who reaches what (003, Theorem 4).
-- Assumes nothing.
use Rattle.std.specs.Prelude.{ℕ, ◌+◌, ◌*◌, ◌≤◌, ◌<◌, ◌≡◌, List, [], take, drop}
use Rattle.meaning.specs.Lists.{In}
use Rattle.meaning.specs.Tables.{Package, home, owner_of, target_of, potency_of}
use Rattle.meaning.specs.Trust.{Dominated, Subtype}
use Rattle.meaning.specs.Reading.{is_read, read_text}
use Rattle.meaning.specs.Good.{Good}
use Rattle.meaning.specs.Laws.{rules, NoneBroken}
use Rattle.runs.specs.Machine.{Saved, State, label}
use Rattle.runs.specs.Run.{Placed, Leads, run_from}
use Rattle.runs.specs.Script.{Script, is_script, read_script}
use Rattle.runs.specs.Admitted.{Admitted}
use Rattle.runs.specs.Holdings.{holding, line_of}
use Rattle.runs.specs.Kept.{Keeps}
use Rattle.runs.specs.Programs.{run_of}

-- "A domain reaches r at C when it holds r with a label that is a subtype of C." Fig. 7 with what 01 mends: the frame's running class must lie in
-- the domain, and links widen too
pub data Reaches (P : Package) (s : State) (d r c : ℕ) : Type 0 where
  frame : {b : ℕ} → home P (owner_of P s.method) ≡ d → In (label r b) s.labels → Subtype P b c → Reaches P s d r c
  saved : {k : Saved} {b : ℕ} → In k s.saved → home P (owner_of P k.method) ≡ d → In (label r b) k.labels → Subtype P b c → Reaches P s d r c
  link : {o a b : ℕ} → home P a ≡ d → In (record { owner = o; declared = a; type = b; target = r }) s.links → Subtype P b c → Reaches P s d r c

-- how d may come to reach r at c in a run of the entry method m from s: it did at the start; c is no capability for d; or it was granted
pub data Allowed (P : Package) (s : State) (m d r c : ℕ) : Type 0 where
  at_start : Reaches P s d r c → Allowed P s m d r c
  dominates : Dominated P (home P c) d → Allowed P s m d r c
  granted : Dominated P (home P c) (potency_of P m) → Dominated P d (target_of P m) → Allowed P s m d r c

-- the package is read and no rule is broken
pub record Accepted (P : Package) : Type 1 where
  pub good : Good P
  pub unbroken : NoneBroken rules P

-- after the steps ks from s
abbrev pub after : Package → State → List Placed → State
after P s ks = (run_from P s 0 ks).state

-- 003's Theorem 4: of every package that keeps the rules, and of any number of moves from an empty stack
abbrev pub Theorem4 : Type 0
Theorem4 =
    (P : Package) → Keeps P
    → (s t : State) (ks : List Placed) → s.saved ≡ [] → Leads P s ks t
    → (d r c : ℕ) → Reaches P t d r c → Allowed P s s.method d r c

-- demand 3: for every accepted package, every admitted start, every list of steps of any length
abbrev pub Demand3 : Type 1
Demand3 =
    (P : Package) → Accepted P
    → (s : State) → Admitted P s
    → (ks : List Placed) (d r c : ℕ) → Reaches P (after P s ks) d r c → Allowed P s s.method d r c

-- the same of a call's own arguments: p and t the two texts, of every line `30 dd rr cc` among the first n bytes of the buffer x and every
-- supertype of cc
abbrev pub Confined : List ℕ → List ℕ → List ℕ → ℕ → Type 0
Confined p t x n =
    (P : Package) → read_text p ≡ is_read P
    → (S : Script) → read_script P t ≡ is_script S
    → (i d r c : ℕ) → d < 256 → r < 256 → c < 256 → 9 * i + 9 ≤ n → take 9 (drop (9 * i) x) ≡ line_of (holding d r c)
    → (c' : ℕ) → Subtype P c c' → Allowed P S.start S.start.method d r c'

abbrev pub RunConfined : List ℕ → List ℕ → List ℕ → Type 0
RunConfined p t b = Confined p t (run_of p t b).buffer (run_of p t b).length
