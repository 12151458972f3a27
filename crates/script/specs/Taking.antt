-- What a line adds to what is read so far, by its frame, or why it may not stand there: room is asked first, then the length, then the numbers,
-- then the types.
use Rattle.std.specs.Prelude.{ℕ, ◌+◌, Bool, true, ◌&&◌, not, cond, eqb, ltb, List, [], ◌∷◌, ◌++◌, length, Option, Some, None, Result, Ok, Err}
use Rattle.meaning.specs.Tables.{Package}
use Rattle.meaning.specs.Reading.{is_class, is_type}
use Rattle.runs.specs.Script.{is_reference, some_field}
use Rattle.tables.specs.declared.elements.Mode.{Mode}
use Rattle.tables.specs.declared.elements.Mode.TheVariants.{Instance, Static}
use Rattle.tables.specs.View.{mode_number}
use Rattle.relation.specs.Rows.{wide}
use Rattle.text.specs.declared.frame.Frame.{Frame}
use Rattle.text.specs.Kinds.{fits_frame}
use Rattle.sections.specs.declared.refusal.Refusal.{Refusal}
use Rattle.sections.specs.declared.refusal.Refusal.TheVariants.{BadLength, BadNumber, TooMany, IllTyped}
use Rattle.machine.specs.declared.label.Label.{Label}
use Rattle.machine.specs.declared.link.Link.{Link}
use Rattle.machine.specs.declared.step.Step.{Step}
use Rattle.machine.specs.declared.step.Placed.{Placed}
use Rattle.machine.specs.Snapshot.{Snapshot, declared, add_label, has_room, insert_link, has_link_room, label_of}
use Rattle.script.specs.Start.{is_object, is_instance}
use Rattle.script.specs.declared.draft.Draft.{Draft}
use Rattle.script.specs.Steps.{byte, step_in, is_named}

abbrev pub require : {A : Type 0} → Bool → Refusal → Result A Refusal → Result A Refusal
require met refusal next = cond met next (Err refusal)

-- row c has the bit t exactly where a field has this class, this type and this static byte
unfoldable pub fields_of : Package → ℕ → List ℕ
fields_of P s = wide 127 (λ c t. some_field P c t s)

-- ---- 11 rr cc

abbrev pub with_object : Draft → ℕ → ℕ → Draft
with_object x object class = record x { script = record { start = declared x.script.start object class; steps = x.script.steps } }

-- a frame that fits or not, of these bytes
abbrev pub object_by : Package → Draft → Bool → ℕ → ℕ → Result Draft Refusal
object_by P x fits object class =
    require fits BadLength
    (require (is_reference object && (is_type P class && not (is_object x.script.start object))) BadNumber
    (Ok (with_object x object class)))

unfoldable pub take_object : Package → Draft → Frame → Result Draft Refusal
take_object P x f = object_by P x (fits_frame f) (byte f 1) (byte f 2)

-- ---- 12 cc tt qq and 13 pp cc tt qq

abbrev pub link_in : Mode → Frame → Link
link_in Static f = record { owner = 0xFF; declared = byte f 1; typ = byte f 2; target = byte f 3 }
link_in Instance f = record { owner = byte f 1; declared = byte f 2; typ = byte f 3; target = byte f 4 }

-- a static link has no owner
abbrev pub owner_passes : Mode → Bool → Bool
owner_passes Static passes = true
owner_passes Instance passes = passes

abbrev pub with_link : Draft → Link → Draft
with_link x link =
    record x {
      script = record { start = record x.script.start { links = insert_link x.script.start.links link }; steps = x.script.steps };
      link_lines = x.link_lines + 1;
    }

-- the lines 12 are of static fields, the lines 13 of instance fields
abbrev pub link_mode : ℕ → Mode
link_mode section = cond (eqb section 0x12) Static Instance

-- a field of this class and type is declared
abbrev pub has_field : Package → Mode → ℕ → ℕ → Bool
has_field P mode class typ = is_class P class && (is_type P typ && some_field P class typ (mode_number mode))

-- what the link names is declared: its objects, and a field of its class and type
abbrev pub is_declared_link : Package → Mode → Snapshot → Link → Bool
is_declared_link P mode s link =
    owner_passes mode (is_object s link.owner)
    && (has_field P mode link.declared link.typ && is_object s link.target)

-- the target is of the type, and the owner of the class
abbrev pub is_typed_link : Package → Mode → Snapshot → Link → Bool
is_typed_link P mode s link = is_instance P s link.target link.typ && owner_passes mode (is_instance P s link.owner link.declared)

abbrev pub link_by : Package → Mode → Draft → Bool → Link → Result Draft Refusal
link_by P mode x fits link =
    require (ltb x.link_lines 256) TooMany
    (require fits BadLength
    (require (is_declared_link P mode x.script.start link) BadNumber
    (require (is_typed_link P mode x.script.start link) IllTyped
    (require (has_link_room x.script.start.links link) TooMany
    (Ok (with_link x link))))))

unfoldable pub take_link : Package → Mode → Draft → Frame → Result Draft Refusal
take_link P mode x f = link_by P mode x (fits_frame f) (link_in mode f)

-- ---- 14 rr cc

abbrev pub with_label : Draft → Label → Draft
with_label x label =
    record x {
      script = record { start = record x.script.start { labels = add_label x.script.start.labels label }; steps = x.script.steps };
      label_lines = x.label_lines + 1;
    }

abbrev pub label_by : Package → Draft → Bool → ℕ → ℕ → Result Draft Refusal
label_by P x fits object class =
    require (ltb x.label_lines 32) TooMany
    (require fits BadLength
    (require (is_object x.script.start object && is_type P class) BadNumber
    (require (is_instance P x.script.start object class) IllTyped
    (require (has_room x.script.start.labels (label_of object class)) TooMany
    (Ok (with_label x (label_of object class)))))))

unfoldable pub take_label : Package → Draft → Frame → Result Draft Refusal
take_label P x f = label_by P x (fits_frame f) (byte f 1) (byte f 2)

-- ---- 20 to 29

abbrev pub with_step : Draft → Placed → Draft
with_step x step = record x { script = record { start = x.script.start; steps = x.script.steps ++ step ∷ [] } }

abbrev pub placed_if : Package → Draft → ℕ → Option Step → Result Draft Refusal
placed_if P x line None = Err BadNumber
placed_if P x line (Some step) = require (is_named P step && ltb line 65536) BadNumber (Ok (with_step x (record { line = line; step = step })))

unfoldable pub take_step : Package → Draft → ℕ → Frame → Result Draft Refusal
take_step P x line f =
    require (ltb (length x.script.steps) 1024) TooMany
    (require (fits_frame f) BadLength
    (placed_if P x line (step_in f)))
