-- What a run holds at one moment, and the changes that steps are made of.
-- Assumes nothing.
use Rattle.std.specs.Prelude.{ℕ, Bool, ◌&&◌, ◌||◌, ◌==◌, nat_lt, if◌then◌else◌, Option, Some, None, Result, Ok, Err, List, [], ◌∷◌, ◌++◌, length, replicate, slice_set, slice_index_or}
use Rattle.std.specs.List.{list_any}
use Rattle.machine.specs.declared.refusal.Refusal.{Refusal}
use Rattle.machine.specs.declared.refusal.Refusal.TheVariants.{NoRoom}
use Rattle.machine.specs.declared.label.Label.{Label}
use Rattle.machine.specs.declared.link.Link.{Link}

-- a frame that waits for the method that it called
pub record SavedFrame : Type 0 where
  pub method : ℕ
  pub pending : Option ℕ
  pub labels : List Label

-- The class of each object, by its number; the newest saved frame comes first.
pub record Snapshot : Type 0 where
  pub pool : List (Option ℕ)
  pub links : List Link
  pub labels : List Label
  pub method : ℕ
  pub saved : List SavedFrame

-- what stands at the place of no saved frame
abbrev pub no_frame : SavedFrame
no_frame = record { method = 0; pending = None; labels = [] }

abbrev pub label_of : ℕ → ℕ → Label
label_of object class = record { object = object; class = class }

abbrev pub same_label : Label → Label → Bool
same_label x y = (x.object == y.object) && (x.class == y.class)

abbrev pub holds : List Label → Label → Bool
holds labels label = list_any (λ held. same_label held label) labels

abbrev pub same_link : Link → Link → Bool
same_link x y =
    (x.owner == y.owner) && ((x.declared == y.declared) && ((x.typ == y.typ) && (x.target == y.target)))

abbrev pub is_linked : List Link → Link → Bool
is_linked links link = list_any (λ other. same_link other link) links

abbrev pub sees : List Label → ℕ → Bool
sees labels object = list_any (λ held. held.object == object) labels

abbrev pub class_at : Snapshot → ℕ → Option ℕ
class_at s object = slice_index_or s.pool object None

-- a run of this method before anything is there
abbrev pub empty : ℕ → Snapshot
empty method = record { pool = replicate 256 None; links = []; labels = []; method = method; saved = [] }

-- the outcome of a call that may be refused, with the state that it leaves
abbrev pub outcome_of : {T : Type 0} → Result T Refusal → Snapshot → Result Snapshot Refusal
outcome_of (Ok x) after = Ok after
outcome_of (Err why) after = Err why

abbrev pub require : Bool → Refusal → Result Snapshot Refusal → Result Snapshot Refusal
require met why next = if met then next else Err why

-- the labels of a frame as a set: one that is there already is not added again
abbrev pub add_label : List Label → Label → List Label
add_label labels label = if holds labels label then labels else (labels ++ label ∷ [])

abbrev pub has_room : List Label → Label → Bool
has_room labels label = holds labels label || nat_lt (length labels) 32

-- the label joins the running frame, if there is room
abbrev pub join : Snapshot → Label → Result Snapshot Refusal
join s label = require (has_room s.labels label) NoRoom (Ok (record s { labels = add_label s.labels label }))

-- the links as a set
abbrev pub insert_link : List Link → Link → List Link
insert_link links link = if is_linked links link then links else (links ++ link ∷ [])

abbrev pub has_link_room : List Link → Link → Bool
has_link_room links link = is_linked links link || nat_lt (length links) 256

-- the link joins the links, if there is room
abbrev pub connect : Snapshot → Link → Result Snapshot Refusal
connect s link = require (has_link_room s.links link) NoRoom (Ok (record s { links = insert_link s.links link }))

-- the object joins the pool
abbrev pub declared : Snapshot → ℕ → ℕ → Snapshot
declared s object class = record s { pool = slice_set s.pool object (Some class) }

-- the object joins the pool, where the frame could take its label
abbrev pub with_object : Result Snapshot Refusal → ℕ → ℕ → Result Snapshot Refusal
with_object (Ok s) object class = Ok (declared s object class)
with_object (Err why) object class = Err why

-- the running frame is saved, and a method runs over an empty one
abbrev pub called : Snapshot → ℕ → Option ℕ → Snapshot
called s method pending =
    record s {
      labels = [];
      method = method;
      saved = record { method = s.method; pending = pending; labels = s.labels } ∷ s.saved;
    }

-- the newest of these frames runs again
abbrev pub resumed : Snapshot → List SavedFrame → Snapshot
resumed s [] = s
resumed s (caller ∷ older) = record s { labels = caller.labels; method = caller.method; saved = older }

-- what the newest of these frames waits for
abbrev pub pending_in : List SavedFrame → Option (Option ℕ)
pending_in [] = None
pending_in (caller ∷ older) = Some caller.pending
