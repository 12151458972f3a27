-- A step of the machine is a step of the definitions.
-- Assumes nothing.
use Rattle.std.proofs.Common.{◌≡◌, ℕ, Bool, true, false, not, Option, Some, Result, Ok, List, [], ◌∷◌, map, length, refl, sym, ap, ap₂}
use Rattle.std.specs.Prelude.{eqb, nat_lt, ◌==◌}
use Rattle.std.proofs.Math.Option as O
use Rattle.std.proofs.lemmas.List.{length-map}
use Rattle.meaning.specs.Reading.{Took, takes, need}
use Rattle.meaning.specs.Tables.{Package, owner_of, result_of, params_of, field_class}
use Rattle.runs.specs.Machine as M
use Rattle.runs.specs.Steps as S
use Rattle.machine.specs.declared.refusal.Refusal.{Refusal}
use Rattle.machine.specs.declared.refusal.Refusal.TheVariants.{NotPermitted, PremiseMissing, NoRoom}
use Rattle.machine.specs.declared.label.Label.{Label}
use Rattle.machine.specs.declared.link.Link.{Link}
use Rattle.machine.specs.declared.step.Step.{Step}
use Rattle.machine.specs.declared.step.Step.TheVariants.{Widen, New, CheckCast, GetStatic, PutStatic, GetField, PutField, InvokeStatic, InvokeMethod, Return}
use Rattle.machine.specs.Refusal.{number_of}
use Rattle.machine.specs.Step.{step_view, arguments_of, value_number}
use Rattle.machine.specs.Fits.{Fits}
use Rattle.machine.specs.Definitions.{option_from, label_from, link_from, frame_from, snapshot_from, Once, numbered, outcome_from}
use Rattle.machine.specs.Snapshot.{Snapshot, label_of, has_room, has_link_room, add_label, require, join, connect, with_object, pending_in}
use Rattle.machine.specs.Steps.{passed, read, write, call, back, step_of}
use Rattle.machine.proofs.Sets.{holds-is, add-label-is, has-room-is, sees-is, holds-below-is, holds-all-is, passed-is, is-linked-is, insert-link-is, has-link-room-is}
use Rattle.machine.proofs.Pools.{in-pool-is, is-a-is, pool-more}

-- the outcomes are the same
abbrev pub Same : Result Snapshot Refusal → Took M.State → Type 0
Same x t = numbered x ≡ outcome_from t

-- one premise
asks : (b b' : Bool) (why : Refusal) (x : Result Snapshot Refusal) (t : Took M.State)
    → b ≡ b' → (b' ≡ true → Same x t) → Same (require b why x) (need b' (number_of why) t)
asks b true why x t e same = rw e (same refl)
asks b false why x t e same = rw e refl

ask : (b b' : Bool) (why : Refusal) (x : Result Snapshot Refusal) (t : Took M.State)
    → b ≡ b' → Same x t → Same (require b why x) (need b' (number_of why) t)
ask b b' why x t e same = asks b b' why x t e (λ _. same)

not-true : (b : Bool) → not b ≡ true → b ≡ false
not-true true e = cc
not-true false e = refl

module _ (s : M.State) where
  abbrev now : Snapshot
  now = snapshot_from s

  with-labels : (ls : List Label) (ms : List M.Label) → ls ≡ map label_from ms
      → Same (Ok (record now { labels = ls })) (takes (record { pool = s.pool; links = s.links; labels = ms; method = s.method; saved = s.saved }))
  with-labels ls ms e = ap (λ (labels : List Label). takes (record now { labels = labels })) e

  join-is : (r c : ℕ) → Same (join now (label_of r c)) (S.join s r c)
  unfolding S.join
  join-is r c =
      ask (has_room now.labels (label_of r c)) (S.room_for M.same_label 32 (M.label r c) s.labels) NoRoom _ _ (has-room-is s.labels r c)
      (with-labels (add_label now.labels (label_of r c)) (M.add M.same_label (M.label r c) s.labels) (add-label-is s.labels r c))

  link-is : (k : M.Link) → Same (connect now (link_from k)) (S.link s k)
  unfolding S.link
  link-is k =
      ask (has_link_room now.links (link_from k)) (S.room_for M.same_link 256 k s.links) NoRoom _ _ (has-link-room-is s.links k)
      (ap (λ (links : List Link). takes (record now { links = links })) (insert-link-is s.links k))

  make-is : (r c : ℕ) → S.in_pool s.pool r ≡ false → Same (with_object (join now (label_of r c)) r c) (S.make s r c)
  unfolding S.make
  make-is r c e = on (has_room now.labels (label_of r c)) (S.room_for M.same_label 32 (M.label r c) s.labels) (has-room-is s.labels r c)
    where
      on : (b b' : Bool) → b ≡ b' → Same (with_object (require b NoRoom (Ok (record now { labels = add_label now.labels (label_of r c) }))) r c) (need b' 63 (takes (M.with_object s r c)))
      on b false q = rw q refl
      on b true q =
          rw q
          (ap₂ (λ (pool : List (Option ℕ)) (labels : List Label). takes (record now { pool = pool; labels = labels })) (sym (pool-more s.pool r c e)) (add-label-is s.labels r c))

  -- ---- links

  read-is : (k : M.Link) → Same (read now (link_from k)) (need (S.has_link s.links k) 62 (S.join s k.target k.type))
  read-is k = ask _ (S.has_link s.links k) PremiseMissing _ _ (is-linked-is s.links k) (join-is k.target k.type)

  write-is : (k : M.Link) → Same (write now (link_from k)) (need (S.holds s.labels k.target k.type) 62 (S.link s k))
  write-is k = ask _ (S.holds s.labels k.target k.type) PremiseMissing _ _ (holds-is s.labels k.target k.type) (link-is k)

  -- ---- calls

  call-is : (c : O.Option ℕ) (v : ℕ) (labels : List Label) (ls : List M.Label) → labels ≡ map label_from (M.add_all M.same_label ls [])
      → Same (call now (option_from c) v labels) (S.call s c v ls)
  unfolding S.call
  call-is c v labels ls e =
      ask (nat_lt (length now.saved) 16) (nat_lt (length s.saved) 16) NoRoom _ _ (ap (λ (n : ℕ). nat_lt n 16) (length-map s.saved frame_from))
      (ap (λ (xs : List Label). takes (record now { labels = xs; method = v; saved = record { method = s.method; pending = option_from c; labels = now.labels } ∷ now.saved })) e)

  passed-all : (rs cs : List ℕ) → passed [] rs cs ≡ map label_from (M.add_all M.same_label (M.passed rs cs) [])
  passed-all rs cs = passed-is [] rs cs

  passed-behind : (r c : ℕ) (rs cs : List ℕ) → passed (label_of r c ∷ []) rs cs ≡ map label_from (M.add_all M.same_label (M.label r c ∷ M.passed rs cs) [])
  unfolding M.add_all M.add S.holds
  passed-behind r c rs cs = passed-is (M.label r c ∷ []) rs cs

-- ---- returns

abbrev with_saved : M.State → List M.Saved → M.State
with_saved s ks = record { pool = s.pool; links = s.links; labels = s.labels; method = s.method; saved = ks }

abbrev again : M.State → M.Saved → List M.Saved → List M.Label → M.State
again s k ks ls = record { pool = s.pool; links = s.links; labels = ls; method = k.method; saved = ks }

waits-is : (s : M.State) (k : M.Saved) (ks : List M.Saved) (value : ℕ) (p : O.Option ℕ)
    → Same (back (snapshot_from (with_saved s (k ∷ ks))) (Some (option_from p)) value)
    (need (S.returns s.labels p value) 62 (need (S.room_given p value k.labels) 63 (takes (again s k ks (M.given p value k.labels)))))
unfolding S.returns S.room_given S.join
waits-is s k ks value O.none = ask (value == 0xFF) (eqb value M.nothing) PremiseMissing _ (takes (again s k ks k.labels)) refl refl
waits-is s k ks value (O.some c) =
    ask _ (S.holds s.labels value c) PremiseMissing _ (S.join (again s k ks k.labels) value c) (holds-is s.labels value c) (join-is (again s k ks k.labels) value c)

back-is : (s : M.State) (value : ℕ) (ks : List M.Saved) → Same (back (snapshot_from (with_saved s ks)) (pending_in (map frame_from ks)) value) (S.back s value ks)
unfolding S.back
back-is s value [] = refl
back-is s value (k ∷ ks) = waits-is s k ks value k.pending

-- ---- a step

pub step-is : (P : Package) (s : M.State) (k : Step) → Once s.pool → Fits k → Same (step_of P (snapshot_from s) k) (S.step P s (step_view k))
unfolding S.step
step-is P s (Widen r c) once fits = ask _ (S.holds_below P s.labels r c) PremiseMissing _ _ (holds-below-is P s.labels r c) (join-is s r c)
step-is P s (New r c) once fits =
    ask (S.permits P s.method 0 c) _ NotPermitted _ _ refl
    (asks _ (not (S.in_pool s.pool r)) PremiseMissing _ _ (in-pool-is s.pool once r fits) (λ e. make-is s r c (not-true (S.in_pool s.pool r) e)))
step-is P s (CheckCast r c) once fits =
    ask (S.permits P s.method 1 c) _ NotPermitted _ _ refl
    (ask _ (S.holds_ref s.labels r) PremiseMissing _ _ (sees-is s.labels r)
    (ask _ (S.is_a P s.pool r c) PremiseMissing _ _ (is-a-is s.pool once r fits P c)
    (join-is s r c)))
step-is P s (GetStatic f q) once fits = ask (S.permits_field P s.method 2 f) _ NotPermitted _ _ refl (read-is s (M.static_link P f q))
step-is P s (PutStatic f q) once fits = ask (S.permits_field P s.method 3 f) _ NotPermitted _ _ refl (write-is s (M.static_link P f q))
step-is P s (GetField f p q) once fits =
    ask (S.permits_field P s.method 4 f) _ NotPermitted _ _ refl
    (ask _ (S.holds_below P s.labels p (field_class P f)) PremiseMissing _ _ (holds-below-is P s.labels p (field_class P f)) (read-is s (M.field_link P f p q)))
step-is P s (PutField f p q) once fits =
    ask (S.permits_field P s.method 5 f) _ NotPermitted _ _ refl
    (ask _ (S.holds_below P s.labels p (field_class P f)) PremiseMissing _ _ (holds-below-is P s.labels p (field_class P f)) (write-is s (M.field_link P f p q)))
step-is P s (InvokeStatic n a) once fits =
    ask (S.permits P s.method 6 n) _ NotPermitted _ _ refl
    (ask _ (S.holds_all s.labels (arguments_of a) (params_of P n)) PremiseMissing _ _ (holds-all-is s.labels (arguments_of a) (params_of P n))
    (call-is s (result_of P n) n _ (M.passed (arguments_of a) (params_of P n)) (passed-all s (arguments_of a) (params_of P n))))
step-is P s (InvokeMethod n v r a) once fits =
    ask (S.permits P s.method 7 n) _ NotPermitted _ _ refl
    (ask _ (S.holds_below P s.labels r (owner_of P n)) PremiseMissing _ _ (holds-below-is P s.labels r (owner_of P n))
    (ask _ (S.holds_all s.labels (arguments_of a) (params_of P n)) PremiseMissing _ _ (holds-all-is s.labels (arguments_of a) (params_of P n))
    (ask _ (S.is_a P s.pool r (owner_of P v)) PremiseMissing _ _ (is-a-is s.pool once r fits P (owner_of P v))
    (ask (S.runs_for P v n) _ PremiseMissing _ _ refl
    (call-is s (result_of P n) v _ (M.label r (owner_of P v) ∷ M.passed (arguments_of a) (params_of P n)) (passed-behind s r (owner_of P v) (arguments_of a) (params_of P n)))))))
step-is P s (Return value) once fits = back-is s (value_number value) s.saved
