-- What a state of the definitions is as a snapshot.
-- Assumes nothing.
use Rattle.std.specs.Prelude.{ℕ, ◌≡◌, Option, Some, None, Result, Ok, Err, suc, List, [], ◌∷◌, map, fold, replicate, slice_set}
use Rattle.std.proofs.Math.Option as O
use Rattle.meaning.specs.Lists.{In}
use Rattle.meaning.specs.Reading.{Took, takes, refuses}
use Rattle.runs.specs.Machine as M
use Rattle.machine.specs.declared.refusal.Refusal.{Refusal}
use Rattle.machine.specs.declared.label.Label.{Label}
use Rattle.machine.specs.declared.link.Link.{Link}
use Rattle.machine.specs.Refusal.{number_of}
use Rattle.machine.specs.Snapshot.{SavedFrame, Snapshot}

abbrev pub option_from : {A : Type 0} → O.Option A → Option A
option_from O.none = None
option_from (O.some x) = Some x

abbrev pub label_from : M.Label → Label
label_from l = record { object = l.ref; class = l.type }

-- FF is no reference: a link with this owner is static, here and there
abbrev pub link_from : M.Link → Link
link_from k = record { owner = k.owner; declared = k.declared; typ = k.type; target = k.target }

abbrev pub frame_from : M.Saved → SavedFrame
frame_from k = record { method = k.method; pending = option_from k.pending; labels = map label_from k.labels }

-- the pool with one object more
abbrev pub with_class : List (Option ℕ) → M.Object → List (Option ℕ)
with_class pool o = slice_set pool o.ref (Some o.class)

-- no number is that of an object
unfoldable pub nobody : List (Option ℕ)
nobody = replicate 256 None

-- the class of each object, by its number
abbrev pub pool_from : List M.Object → List (Option ℕ)
pool_from os = fold with_class nobody os

abbrev pub snapshot_from : M.State → Snapshot
snapshot_from s =
    record {
      pool = pool_from s.pool;
      links = map link_from s.links;
      labels = map label_from s.labels;
      method = s.method;
      saved = map frame_from s.saved;
    }

-- no number is that of two objects: then the order of the objects does not matter
abbrev pub Once : List M.Object → Type 0
Once os = (o o' : M.Object) → In o os → In o' os → o.ref ≡ o'.ref → o ≡ o'

-- an outcome of the machine, with the number of a refusal, and one of the definitions
abbrev pub numbered : Result Snapshot Refusal → Took Snapshot
numbered (Ok s) = takes s
numbered (Err why) = refuses (number_of why)

abbrev pub outcome_from : Took M.State → Took Snapshot
outcome_from (takes s) = takes (snapshot_from s)
outcome_from (refuses number) = refuses number

-- ---- and back: a state of the definitions with this snapshot, its objects in rising order of their numbers

abbrev pub option_view : {A : Type 0} → Option A → O.Option A
option_view None = O.none
option_view (Some x) = O.some x

abbrev pub label_view : Label → M.Label
label_view l = record { ref = l.object; type = l.class }

abbrev pub link_view : Link → M.Link
link_view k = record { owner = k.owner; declared = k.declared; type = k.typ; target = k.target }

abbrev pub frame_view : SavedFrame → M.Saved
frame_view f = record { method = f.method; pending = option_view f.pending; labels = map label_view f.labels }

abbrev pub object_at : ℕ → Option ℕ → List M.Object → List M.Object
object_at number None os = os
object_at number (Some class) os = M.object number class ∷ os

-- the objects from a number on
abbrev pub objects_from : ℕ → List (Option ℕ) → List M.Object
objects_from number [] = []
objects_from number (class ∷ pool) = object_at number class (objects_from (suc number) pool)

abbrev pub state_view : Snapshot → M.State
state_view s =
    record {
      pool = objects_from 0 s.pool;
      links = map link_view s.links;
      labels = map label_view s.labels;
      method = s.method;
      saved = map frame_view s.saved;
    }
