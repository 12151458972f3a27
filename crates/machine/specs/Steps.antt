-- What one step makes of a run: the next state, or the first reason against the step.
-- Assumes nothing.
use Rattle.std.specs.Prelude.{ℕ, Bool, false, ◌&&◌, ◌==◌, nat_lt, Option, Some, None, is_none, Result, Ok, Err, List, [], ◌∷◌, length, fold}
use Rattle.std.specs.List.{list_any, list_all, zip}
use Rattle.meaning.specs.Tables.{Package, owner_of, result_of, params_of, field_class, field_type}
use Rattle.meaning.specs.Tests.{subtype}
use Rattle.runs.specs.Steps.{runs_for}
use Rattle.machine.specs.declared.refusal.Refusal.{Refusal}
use Rattle.machine.specs.declared.refusal.Refusal.TheVariants.{NoSavedFrame, NotPermitted, PremiseMissing, NoRoom}
use Rattle.machine.specs.declared.step.Step.{Step}
use Rattle.machine.specs.declared.step.Step.TheVariants as step
use Rattle.machine.specs.declared.label.Label.{Label}
use Rattle.machine.specs.declared.link.Link.{Link}
use Rattle.machine.specs.Step.{arguments_of, value_number, need_of}
use Rattle.machine.specs.Allowed.{all_allowed}
use Rattle.machine.specs.Definitions.{option_from}
use Rattle.machine.specs.Snapshot.{Snapshot, label_of, holds, sees, is_linked, class_at, require, add_label, join, connect, with_object, called, resumed, pending_in}

-- the frame has the object at some class that is below this one
abbrev pub holds_below : Package → List Label → ℕ → ℕ → Bool
holds_below P labels object class = list_any (λ held. (held.object == object) && subtype P held.class class) labels

-- an object of this class, if it is one, is an instance of the class above
abbrev pub is_instance : Package → Option ℕ → ℕ → Bool
is_instance P None above = false
is_instance P (Some class) above = subtype P class above

-- the frame has each object at the class in its place
abbrev pub holds_all : List Label → List ℕ → List ℕ → Bool
holds_all labels objects classes =
    (length objects == length classes) && list_all (λ pair. holds labels (label_of pair.0 pair.1)) (zip objects classes)

-- the link of a field, and with it that of a static field and of an object's
abbrev pub link : Package → ℕ → ℕ → ℕ → Link
link P owner f value = record { owner = owner; declared = field_class P f; typ = field_type P f; target = value }

abbrev pub static_link : Package → ℕ → ℕ → Link
static_link P f value = link P 0xFF f value

abbrev pub object_link : Package → ℕ → ℕ → ℕ → Link
object_link P f owner value = link P owner f value

-- the target of a link that is there joins the frame at the link's type
abbrev pub read : Snapshot → Link → Result Snapshot Refusal
read s link = require (is_linked s.links link) PremiseMissing (join s (label_of link.target link.typ))

-- a link whose target the frame has at the link's type joins the links
abbrev pub write : Snapshot → Link → Result Snapshot Refusal
write s link = require (holds s.labels (label_of link.target link.typ)) PremiseMissing (connect s link)

-- the frame with the objects at the classes in their places
abbrev pub passed : List Label → List ℕ → List ℕ → List Label
passed labels objects classes = fold (λ held pair. add_label held (label_of pair.0 pair.1)) labels (zip objects classes)

-- a method runs over a frame of these labels, and owes the caller its result
abbrev pub call : Snapshot → Option ℕ → ℕ → List Label → Result Snapshot Refusal
call s pending method labels = require (nat_lt (length s.saved) 16) NoRoom (Ok (record (called s method pending) { labels = labels }))

-- what is returned has to be what the caller waits for
abbrev pub back : Snapshot → Option (Option ℕ) → ℕ → Result Snapshot Refusal
back s None value = Err NoSavedFrame
back s (Some None) value = require (value == 0xFF) PremiseMissing (Ok (resumed s s.saved))
back s (Some (Some class)) value = require (holds s.labels (label_of value class)) PremiseMissing (join (resumed s s.saved) (label_of value class))

-- the step, where some effect gives what it needs
abbrev pub taken : Package → Snapshot → Step → Result Snapshot Refusal
taken P s (step.Widen object class) = require (holds_below P s.labels object class) PremiseMissing (join s (label_of object class))
taken P s (step.New object class) =
    require (is_none (class_at s object)) PremiseMissing (with_object (join s (label_of object class)) object class)
taken P s (step.CheckCast object class) =
    require (sees s.labels object) PremiseMissing
    (require (is_instance P (class_at s object) class) PremiseMissing
    (join s (label_of object class)))
taken P s (step.GetStatic f value) = read s (static_link P f value)
taken P s (step.PutStatic f value) = write s (static_link P f value)
taken P s (step.GetField f owner value) =
    require (holds_below P s.labels owner (field_class P f)) PremiseMissing (read s (object_link P f owner value))
taken P s (step.PutField f owner value) =
    require (holds_below P s.labels owner (field_class P f)) PremiseMissing (write s (object_link P f owner value))
taken P s (step.InvokeStatic method arguments) =
    require (holds_all s.labels (arguments_of arguments) (params_of P method)) PremiseMissing
    (call s (option_from (result_of P method)) method (passed [] (arguments_of arguments) (params_of P method)))
taken P s (step.InvokeMethod method runs receiver arguments) =
    require (holds_below P s.labels receiver (owner_of P method)) PremiseMissing
    (require (holds_all s.labels (arguments_of arguments) (params_of P method)) PremiseMissing
    (require (is_instance P (class_at s receiver) (owner_of P runs)) PremiseMissing
    (require (runs_for P runs method) PremiseMissing
    (call s (option_from (result_of P method)) runs (passed (label_of receiver (owner_of P runs) ∷ []) (arguments_of arguments) (params_of P method))))))
taken P s (step.Return value) = back s (pending_in s.saved) (value_number value)

abbrev pub step_of : Package → Snapshot → Step → Result Snapshot Refusal
step_of P s k = require (all_allowed P s.method (need_of k)) NotPermitted (taken P s k)
