-- A run text that is read has no call of more than six arguments.
use Rattle.std.proofs.Common.{ℕ, zero, suc, ◌+◌, ◌≤◌, ◌≡◌, Bool, true, false, ◌&&◌, cond, eqb, ltb, leb, List, [], ◌∷◌, ◌++◌, Option, Some, None, Result, Ok, Err, refl, ap, subst, length, arith}
use Rattle.std.proofs.Math.Decide.{dec_le}
use Rattle.meaning.specs.Text.{Line, lines_of}
use Rattle.meaning.specs.Tables.{Package}
use Rattle.meaning.specs.Reading.{is_type}
use Rattle.tables.specs.declared.elements.Mode.{Mode}
use Rattle.tables.specs.declared.elements.Mode.TheVariants.{Instance, Static}
use Rattle.text.specs.declared.frame.Frame.{Frame}
use Rattle.text.specs.Kinds.{fits_frame}
use Rattle.text.specs.Reading.{Reading, next_of}
use Rattle.sections.specs.declared.refusal.Refusal.{Refusal}
use Rattle.sections.specs.declared.refusal.Refusal.TheVariants.{TooLong}
use Rattle.sections.specs.declared.refusal.Refused.{Refused}
use Rattle.sections.specs.Sections.{refused, and_then, ending, section, section_from}
use Rattle.machine.specs.declared.arguments.Arguments.{Arguments}
use Rattle.machine.specs.declared.step.Step.{Step}
use Rattle.machine.specs.declared.step.Step.TheVariants.{Widen, New, CheckCast, GetStatic, PutStatic, GetField, PutField, InvokeStatic, InvokeMethod, Return}
use Rattle.machine.specs.declared.step.Placed.{Placed}
use Rattle.machine.specs.Snapshot.{has_room, has_link_room, label_of}
use Rattle.script.specs.declared.draft.Draft.{Draft}
use Rattle.script.specs.Start.{is_object, is_instance}
use Rattle.script.specs.Steps.{byte, HasFewArguments, HaveFewArguments, arguments_by, arguments_in, with_arguments, step_by, step_in, is_named}
use Rattle.script.specs.Taking as T
use Rattle.script.specs.Readings.{entry, begun, starting, whole, read_by}

-- ---- a step

-- the step that a frame stands for, if it stands for one, has at most six arguments where it is a call
record Fits (o : Option Step) : Type 0 where
  fits : (s : Step) → o ≡ Some s → HasFewArguments s

fits-some : (s : Step) → HasFewArguments s → Fits (Some s)
fits-some s few = record { fits = λ r e. subst HasFewArguments (given s r e) few }
  where
    given : (s r : Step) → Some s ≡ Some r → s ≡ r
    given s r e = cc

either : (b : Bool) (o p : Option Step) → Fits o → Fits p → Fits (cond b o p)
either true o p h k = h
either false o p h k = k

called : (count : ℕ) (objects : List ℕ) (call : Arguments → Step) → ((rs : Arguments) → rs.count ≤ 6 → HasFewArguments (call rs)) → Fits (with_arguments (arguments_in count objects) call)
unfolding arguments_in
called count objects call h = on (dec_le count 6)
  where
    on : (d : Dec (count ≤ 6)) → Fits (with_arguments (arguments_by count objects d) call)
    on (yes few) = fits-some _ (h _ few)
    on (no many) = record { fits = λ s e. absurd cc }

step-fits : (f : Frame) → Fits (step_in f)
unfolding step_in step_by
step-fits f =
    either (eqb (byte f 0) 0x20) _ _ (fits-some (Widen _ _) tt)
    (either (eqb (byte f 0) 0x21) _ _ (fits-some (New _ _) tt)
    (either (eqb (byte f 0) 0x22) _ _ (fits-some (CheckCast _ _) tt)
    (either (eqb (byte f 0) 0x23) _ _ (fits-some (GetStatic _ _) tt)
    (either (eqb (byte f 0) 0x24) _ _ (fits-some (PutStatic _ _) tt)
    (either (eqb (byte f 0) 0x25) _ _ (fits-some (GetField _ _ _) tt)
    (either (eqb (byte f 0) 0x26) _ _ (fits-some (PutField _ _ _) tt)
    (either (eqb (byte f 0) 0x27) _ _ (called _ _ (InvokeStatic _) (λ rs few. omega (arith, few)))
    (either (eqb (byte f 0) 0x28) _ _ (called _ _ (InvokeMethod _ _ _) (λ rs few. omega (arith, few))) (fits-some (Return _) tt)))))))))

-- ---- a line that is taken

abbrev Few : Draft → Type 0
Few x = HaveFewArguments x.script.steps

-- the draft that a line leaves, where it is taken, has no call of more than six
record Keeps (o : Result Draft Refusal) : Type 0 where
  keeps : (y : Draft) → o ≡ Ok y → Few y

gives : (x : Draft) → Few x → Keeps (Ok x)
gives x h = record { keeps = λ y e. subst Few (given (Ok x) y refl e) h }
  where
    given : (o : Result Draft Refusal) (y : Draft) → o ≡ Ok x → o ≡ Ok y → x ≡ y
    given o y e f = cc

stops : (r : Refusal) → Keeps (Err r)
stops r = record { keeps = λ y e. absurd cc }

asks : (b : Bool) (r : Refusal) (o : Result Draft Refusal) → Keeps o → Keeps (T.require b r o)
asks true r o h = h
asks false r o h = stops r

one-more : (steps : List Placed) (k : Placed) → HaveFewArguments steps → HasFewArguments k.step → HaveFewArguments (steps ++ k ∷ [])
one-more [] k h few zero = few
one-more [] k h few (suc place) = tt
one-more (s ∷ steps) k h few zero = h zero
one-more (s ∷ steps) k h few (suc place) = one-more steps k (λ i. h (suc i)) few place

module _ (P : Package) (x : Draft) (h : Few x) (f : Frame) where
  step-keeps : (n : ℕ) → Keeps (T.take_step P x n f)
  unfolding T.take_step
  step-keeps n = asks (ltb (length x.script.steps) 1024) _ _ (asks (fits_frame f) _ _ (on (step_in f) (step-fits f)))
    where
      on : (o : Option Step) → Fits o → Keeps (T.placed_if P x n o)
      on None few = stops _
      on (Some s) few = asks (is_named P s && ltb n 65536) _ _ (gives _ (one-more x.script.steps (record { line = n; step = s }) h (few.fits s refl)))

  object-keeps : Keeps (T.take_object P x f)
  unfolding T.take_object
  object-keeps = asks (fits_frame f) _ _ (asks _ _ _ (gives _ h))

  link-keeps : (mode : Mode) → Keeps (T.take_link P mode x f)
  unfolding T.take_link
  link-keeps mode =
      let link = T.link_in mode f in
      asks (ltb x.link_lines 256) _ _
      (asks (fits_frame f) _ _
      (asks (T.is_declared_link P mode x.script.start link) _ _
      (asks (T.is_typed_link P mode x.script.start link) _ _
      (asks (has_link_room x.script.start.links link) _ _ (gives _ h)))))

  label-keeps : Keeps (T.take_label P x f)
  unfolding T.take_label
  label-keeps =
      let object = byte f 1 in
      let class = byte f 2 in
      asks (ltb x.label_lines 32) _ _
      (asks (fits_frame f) _ _
      (asks (is_object x.script.start object && is_type P class) _ _
      (asks (is_instance P x.script.start object class) _ _
      (asks (has_room x.script.start.labels (label_of object class)) _ _ (gives _ h)))))

-- ---- a section

abbrev store-of : {S : Type 0} → S → Result (S × Reading) Refused → S
store-of z (Ok p) = p.0
store-of z (Err r) = z

module _ {S : Type 0} (Q : S → Type 0) (k : ℕ) (take : S → ℕ → Frame → Result S Refusal) (keeps : (x : S) → Q x → (n : ℕ) (f : Frame) (y : S) → take x n f ≡ Ok y → Q y) where
  section-keeps : (x : S) (n : ℕ) (ls : List Line) (y : S) (r : Reading) → section_from k take x n ls ≡ Ok (y, r) → Q x → Q y
  unfolding section_from
  section-keeps x n [] y r e h = subst Q (ap (store-of x) e) h
  section-keeps x n (l ∷ ls) y r e h = on (next_of k (l ∷ ls)) e (λ z q. section-keeps z (n + 1) ls y r q)
    where
      Later : Type 0
      Later = (z : S) → section_from k take z (n + 1) ls ≡ Ok (y, r) → Q z → Q y

      frame : (f : Frame) (t : Result S Refusal) → take x (n + 1) f ≡ t → elim t as (λ (t : Result S Refusal). Result (S × Reading) Refused) [ Ok z ↦ section_from k take z (n + 1) ls | Err r ↦ refused r (n + 1) ] ≡ Ok (y, r) → Later → Q y
      frame f (Ok z) q e later = later z e (keeps x h (n + 1) f z q)
      frame f (Err s) q e later = absurd cc

      on : (o : Option Frame) → elim o as (λ (o : Option Frame). Result (S × Reading) Refused) [ Some f ↦ elim (take x (n + 1) f) [ Ok z ↦ section_from k take z (n + 1) ls | Err r ↦ refused r (n + 1) ] | None ↦ Ok (x, record { number = n; lines = l ∷ ls }) ] ≡ Ok (y, r) → Later → Q y
      on (Some f) e later = frame f (take x (n + 1) f) refl e later
      on None e later = subst Q (ap (store-of x) e) h

-- ---- the text

behind : {A B C : Type 0} (o : Result A Refused) (go : A → Result B Refused) (y : B) → and_then o go ≡ Ok y → ((x : A) → o ≡ Ok x → go x ≡ Ok y → C) → C
behind (Ok x) go y e on = on x refl e
behind (Err r) go y e on = absurd cc

module _ (P : Package) where
  whole-few : (r : Reading) (y : Draft) → whole P r ≡ Ok y → Few y
  whole-few r y e =
      behind (entry P r) _ y e (λ m _ e.
      behind (starting P (begun m.0) m.1) _ y e (λ l start e.
      behind (section 0x20 (λ x line f. T.take_step P x line f) l.0 l.1) _ y e (λ t steps e.
      behind (ending 0x2F t.1) _ y e (λ _ _ e.
      subst Few (given (Ok t.0) t.0 y refl e)
      (section-keeps Few 0x20 _ (λ x h n f. (step-keeps P x h f n).keeps) l.0 l.1.number l.1.lines t.0 t.1 steps (started (begun m.0) m.1 l start (λ place. tt)))))))
    where
      given : (o : Result Draft Refused) (x y : Draft) → o ≡ Ok x → o ≡ Ok y → x ≡ y
      given o x y e f = cc

      started : (x : Draft) (r : Reading) (l : Draft × Reading) → starting P x r ≡ Ok l → Few x → Few l.0
      started x r l e h =
          behind (section 0x11 (λ x line f. T.take_object P x f) x r) _ l e (λ o objects e.
          behind (section 0x12 (λ x line f. T.take_link P Static x f) o.0 o.1) _ l e (λ s statics e.
          behind (section 0x13 (λ x line f. T.take_link P Instance x f) s.0 s.1) _ l e (λ k instances e.
          section-keeps Few 0x14 _ (λ x h n f. (label-keeps P x h f).keeps) k.0 k.1.number k.1.lines l.0 l.1 e
          (section-keeps Few 0x13 _ (λ x h n f. (link-keeps P x h f Instance).keeps) s.0 s.1.number s.1.lines k.0 k.1 instances
          (section-keeps Few 0x12 _ (λ x h n f. (link-keeps P x h f Static).keeps) o.0 o.1.number o.1.lines s.0 s.1 statics
          (section-keeps Few 0x11 _ (λ x h n f. (object-keeps P x h f).keeps) x r.number r.lines o.0 o.1 objects h))))))

  pub few-arguments : (s : List ℕ) (y : Draft) → read_by P s ≡ Ok y → HaveFewArguments y.script.steps
  unfolding read_by
  few-arguments s y = on (leb (length s) 32768)
    where
      on : (b : Bool) → cond b (whole P (record { number = 0; lines = lines_of s })) (refused TooLong 0) ≡ Ok y → Few y
      on true e = whole-few (record { number = 0; lines = lines_of s }) y e
      on false e = absurd cc
