-- What the definition says of a frame of a section is what `take` says: refused with that number, or taken.
use Prim.Native.Nat.{ℕ, ◌+◌, ◌<◌}
use native.Mathlib.Omega.{arith}
use mathlib.Core.Path.{◌≡◌, refl, sym, ap, ap₂, ◌∙◌, subst}
use mathlib.Core.Bool.{Bool, true, false, ◌&&◌, ◌||◌, not}
use mathlib.Core.List.{List, [], ◌∷◌, ◌++◌, map}
use lib.Dec.{eqb, ltb, lit<}
use Rattle.std.proofs.Common.{get_or-set_same, get_or-set_other, length-set}
use lib.ListN.{length, get_or, set, length-append}
use borrow.Author.Tests.{ne_eqb, ltb-true, eqb-true, eqb-false, lt-ltb}
use Rattle.std.specs.Prelude.{Result, Ok, Err, Option, Some, None, is_some}
use Rattle.meaning.specs.Lists.{any, all}
use Rattle.meaning.specs.Text.{byte}
use Rattle.meaning.specs.Kinds.{row_of, follows}
use Rattle.meaning.specs.Tables.{Package}
use Rattle.meaning.specs.Tests.{subtype}
use Rattle.meaning.specs.Reading.{Took, takes, refuses, need, is_class, is_type}
use Rattle.runs.specs.Machine as M
use Rattle.runs.specs.Machine.{Object, object, same_link, same_label, add, add_all}
use Rattle.runs.specs.Steps.{in_pool, is_a, is_numbered, is_object_below, room_for}
use Rattle.runs.specs.Script.{Reader, is_reference, take_frame, take_later, take_object, take_static_link, take_object_link, take_label, take_step, with_object_line, with_link_line, with_label_line, some_field}
use Rattle.runs.proofs.Tests.{decides-same_link, decides-same_label}
use Rattle.runs.proofs.Sets.{length-add_all}
use Rattle.text.specs.Frames.{pack_frame}
use Rattle.text.proofs.Packed.{first-at}
use Rattle.text.proofs.Fitting.{fits-packed}
use Rattle.sections.specs.declared.refusal.Refusal.{Refusal}
use Rattle.sections.specs.declared.refusal.Refusal.TheVariants.{BadLength, BadNumber, TooMany, IllTyped}
use Rattle.sections.specs.Refusals.{run_number_of}
use Rattle.machine.specs.Snapshot.{class_at, declared, label_of, add_label, has_room, insert_link, has_link_room}
use Rattle.machine.specs.Definitions.{link_from, label_from, pool_from}
use Rattle.machine.specs.Step.{placed_view}
use Rattle.machine.specs.declared.label.Label.{Label}
use Rattle.machine.specs.declared.link.Link.{Link}
use Rattle.machine.proofs.Pools.{pool-appended}
use Rattle.text.specs.Kinds.{fits_frame}
use Rattle.machine.proofs.Sets.{has-link-room-is, insert-link-is, has-room-is, add-label-is}
use Rattle.tables.specs.declared.elements.Mode.TheVariants.{Static, Instance}
use Rattle.script.specs.declared.draft.Draft.{Draft}
use Rattle.script.specs.Start.{is_object, is_instance, is_instance_of}
use Rattle.script.specs.Taking as T
use Rattle.script.proofs.KindRows.{kind-is, step-kind}
use Rattle.script.proofs.Order.{in_section}
use Rattle.script.proofs.Goes.{Same, taken, refused}

-- what is read so far, as a reader and as a draft
pub record Holds (P : Package) (R : Reader) (x : Draft) : Type 0 where
  pub pool : x.script.start.pool ≡ pool_from R.objects
  pub long : length x.script.start.pool ≡ 256
  pub objects : (r : ℕ) → in_pool R.objects r ≡ is_object x.script.start r
  pub classes : (r b : ℕ) → is_a P R.objects r b ≡ is_instance P x.script.start r b
  pub none : in_pool R.objects 0xFF ≡ false
  pub links : x.script.start.links ≡ map link_from (add_all same_link R.links [])
  pub link_lines : x.link_lines ≡ length R.links
  pub labels : x.script.start.labels ≡ map label_from (add_all same_label R.labels [])
  pub label_lines : x.label_lines ≡ length R.labels
  pub method : x.script.start.method ≡ R.entry
  pub saved : x.script.start.saved ≡ []
  pub steps : map placed_view x.script.steps ≡ R.steps

-- ---- in its own section a frame is taken by its kind

module _ (P : Package) (Q : Reader) (n : ℕ) (f : List ℕ) where
  taken-object : (row_of (byte f 0)).section ≡ 0x11 → take_frame P (in_section 0x11 Q) n f ≡ take_object P (in_section 0x11 Q) f
  unfolding take_frame take_later follows row_of all
  taken-object e = rw (kind-is 0x11 (byte f 0) (lit< tt) tt e)

  taken-static-link : (row_of (byte f 0)).section ≡ 0x12 → take_frame P (in_section 0x12 Q) n f ≡ take_static_link P (in_section 0x12 Q) f
  unfolding take_frame take_later follows row_of all
  taken-static-link e = rw (kind-is 0x12 (byte f 0) (lit< tt) tt e)

  taken-object-link : (row_of (byte f 0)).section ≡ 0x13 → take_frame P (in_section 0x13 Q) n f ≡ take_object_link P (in_section 0x13 Q) f
  unfolding take_frame take_later follows row_of all
  taken-object-link e = rw (kind-is 0x13 (byte f 0) (lit< tt) tt e)

  taken-label : (row_of (byte f 0)).section ≡ 0x14 → take_frame P (in_section 0x14 Q) n f ≡ take_label P (in_section 0x14 Q) f
  unfolding take_frame take_later follows row_of all
  taken-label e = rw (kind-is 0x14 (byte f 0) (lit< tt) tt e)

  pub taken_step : (row_of (byte f 0)).section ≡ 0x20 → take_frame P (in_section 0x20 Q) n f ≡ take_step P (in_section 0x20 Q) n f
  unfolding take_frame take_later follows
  taken_step e =
      let k = step-kind (byte f 0) e in
      rw (
        e,
        ne_eqb (byte f 0) 0x11 (λ q. absurd (omega (arith, k.0))),
        ne_eqb (byte f 0) 0x12 (λ q. absurd (omega (arith, k.0))),
        ne_eqb (byte f 0) 0x13 (λ q. absurd (omega (arith, k.0))),
        ne_eqb (byte f 0) 0x14 (λ q. absurd (omega (arith, k.0))),
        ne_eqb (byte f 0) 0x2F (λ q. absurd (omega (arith, k.1))),
      )

-- ---- tests one behind the other

need-both : {A : Type 0} (k : ℕ) (t : Took A) (a b : Bool) → need a k (need b k t) ≡ need (a && b) k t
need-both k t true b = refl
need-both k t false b = refl

-- what is taken is H
module _ (P : Package) (k : ℕ) (H : Reader → Draft → Type 0) where
  abbrev Agrees : Took Reader → Result Draft Refusal → Type 0
  Agrees = Same P k H

  -- a test of the definition and one of `take`
  pub asked : {t : Took Reader} {o : Result Draft Refusal} (r : Refusal) {b c : Bool} → b ≡ c → (b ≡ true → Agrees t o) → Agrees (need b (run_number_of r) t) (T.require c r o)
  asked {t} {o} r {b} {c} e h = subst (λ (c : Bool). Agrees (need b (run_number_of r) t) (T.require c r o)) e (on b h)
    where
      on : (b : Bool) → (b ≡ true → Agrees t o) → Agrees (need b (run_number_of r) t) (T.require b r o)
      on true h = h refl
      on false h = refused {r = r}

  -- tests that are refused alike
  asked₂ : {t : Took Reader} {o : Result Draft Refusal} (r : Refusal) (a b : Bool) {c : Bool} → (a && b) ≡ c → ((a && b) ≡ true → Agrees t o) → Agrees (need a (run_number_of r) (need b (run_number_of r) t)) (T.require c r o)
  asked₂ {t} {o} r a b {c} e h = subst (λ (u : Took Reader). Agrees u (T.require c r o)) (sym (need-both (run_number_of r) t a b)) (asked r e h)

  asked₃ : {t : Took Reader} {o : Result Draft Refusal} (r : Refusal) (a b d : Bool) {c : Bool} → (a && (b && d)) ≡ c → ((a && (b && d)) ≡ true → Agrees t o)
      → Agrees (need a (run_number_of r) (need b (run_number_of r) (need d (run_number_of r) t))) (T.require c r o)
  asked₃ {t} {o} r a b d {c} e h =
      subst (λ (u : Took Reader). Agrees u (T.require c r o)) (sym (ap (need a (run_number_of r)) (need-both (run_number_of r) t b d)))
      (asked₂ r a (b && d) e h)

  asked₄ : {t : Took Reader} {o : Result Draft Refusal} (r : Refusal) (a b d m : Bool) {c : Bool} → ((a && (b && d)) && m) ≡ c → (((a && (b && d)) && m) ≡ true → Agrees t o)
      → Agrees (need a (run_number_of r) (need b (run_number_of r) (need d (run_number_of r) (need m (run_number_of r) t)))) (T.require c r o)
  asked₄ {t} {o} r a b d m {c} e h =
      let k = run_number_of r in
      subst (λ (u : Took Reader). Agrees u (T.require c r o)) (sym (ap (need a k) (need-both k (need m k t) b d) ∙ need-both k (need m k t) a (b && d)))
      (asked₂ r (a && (b && d)) m e h)

  asked₅ : {t : Took Reader} {o : Result Draft Refusal} (r : Refusal) (p a b d m : Bool) {c : Bool} → (p && ((a && (b && d)) && m)) ≡ c → ((p && ((a && (b && d)) && m)) ≡ true → Agrees t o)
      → Agrees (need p (run_number_of r) (need a (run_number_of r) (need b (run_number_of r) (need d (run_number_of r) (need m (run_number_of r) t))))) (T.require c r o)
  asked₅ {t} {o} r p a b d m {c} e h =
      let k = run_number_of r in
      subst (λ (u : Took Reader). Agrees u (T.require c r o))
      (sym (ap (need p k) (ap (need a k) (need-both k (need m k t) b d) ∙ need-both k (need m k t) a (b && d) ∙ need-both k t (a && (b && d)) m)))
      (asked₂ r p ((a && (b && d)) && m) e h)

  -- a test of `take` alone, which passes
  passes : {t : Took Reader} {o : Result Draft Refusal} (r : Refusal) {c : Bool} → c ≡ true → Agrees t o → Agrees t (T.require c r o)
  passes {t} {o} r e h = subst (λ (c : Bool). Agrees t (T.require c r o)) (sym e) h

-- ---- objects

any_last : {A : Type 0} (f : A → Bool) (xs : List A) (x : A) → any f (xs ++ (x ∷ [])) ≡ (any f xs || f x)
unfolding any
any_last f [] x = or-none (f x)
  where
    or-none : (b : Bool) → (b || false) ≡ b
    or-none true = refl
    or-none false = refl
any_last f (y ∷ ys) x = ap (λ (b : Bool). f y || b) (any_last f ys x) ∙ assoc (f y) (any f ys) (f x)
  where
    assoc : (a b c : Bool) → (a || (b || c)) ≡ ((a || b) || c)
    assoc true b c = refl
    assoc false b c = refl

or-none : (b : Bool) → (b || false) ≡ b
or-none true = refl
or-none false = refl

or-true : (b : Bool) → (b || true) ≡ true
or-true true = refl
or-true false = refl

not-true' : (b : Bool) → not b ≡ true → b ≡ false
not-true' true e = cc
not-true' false e = refl

none-there : (P : Package) (o : Option ℕ) (b : ℕ) → is_some o ≡ false → is_instance_of P o b ≡ false
none-there P None b e = refl
none-there P (Some c) b e = cc

-- one object more, with a new number
module _ (P : Package) (R : Reader) (x : Draft) (h : Holds P R x) (r c : ℕ) (reference : is_reference r ≡ true) (fresh : in_pool R.objects r ≡ false) (small : r < 256) where
  abbrev more : List Object
  more = R.objects ++ (object r c ∷ [])

  class-same : class_at (declared x.script.start r c) r ≡ Some c
  class-same = get_or-set_same x.script.start.pool r (Some c) None (omega (arith, h.long))

  class-other : (q : ℕ) → (q ≡ r → ⊥) → class_at (declared x.script.start r c) q ≡ class_at x.script.start q
  class-other q n = get_or-set_other x.script.start.pool r q (Some c) None n

  objects-more : (q : ℕ) → in_pool more q ≡ is_object (declared x.script.start r c) q
  unfolding in_pool is_numbered
  objects-more q = any_last (is_numbered q) R.objects (object r c) ∙ on (eqb r q) refl
    where
      on : (b : Bool) → eqb r q ≡ b → (any (is_numbered q) R.objects || b) ≡ is_object (declared x.script.start r c) q
      on true e = or-true _ ∙ sym (ap is_some (subst (λ (q : ℕ). class_at (declared x.script.start r c) q ≡ Some c) (eqb-true r q e) class-same))
      on false e = or-none _ ∙ h.objects q ∙ sym (ap is_some (class-other q (λ s. eqb-false r q e (sym s))))

  classes-more : (q b : ℕ) → is_a P more q b ≡ is_instance P (declared x.script.start r c) q b
  unfolding is_a is_object_below
  classes-more q b = any_last (is_object_below P q b) R.objects (object r c) ∙ on (eqb r q) refl
    where
      on : (d : Bool) → eqb r q ≡ d → (any (is_object_below P q b) R.objects || (d && subtype P c b)) ≡ is_instance P (declared x.script.start r c) q b
      on true e =
          let same = eqb-true r q e in
          let none-is : is_a P R.objects q b ≡ false = h.classes q b ∙ none-there P (class_at x.script.start q) b (sym (h.objects q) ∙ subst (λ (q : ℕ). in_pool R.objects q ≡ false) same fresh) in
          ap (λ (d : Bool). d || subtype P c b) none-is
          ∙ sym (ap (λ (o : Option ℕ). is_instance_of P o b) (subst (λ (q : ℕ). class_at (declared x.script.start r c) q ≡ Some c) same class-same))
      on false e = or-none _ ∙ h.classes q b ∙ sym (ap (λ (o : Option ℕ). is_instance_of P o b) (class-other q (λ s. eqb-false r q e (sym s))))

  none-more : in_pool more 0xFF ≡ false
  unfolding in_pool is_numbered is_reference
  none-more = any_last (is_numbered 0xFF) R.objects (object r c) ∙ ap₂ ◌||◌ h.none (not-true' (eqb r 0xFF) reference)

  pub has_more : Holds P (with_object_line R (object r c)) (T.with_object x r c)
  has_more =
      record {
        pool = ap (λ (pool : List (Option ℕ)). set pool r (Some c)) h.pool ∙ sym (pool-appended R.objects r c);
        long = length-set x.script.start.pool r (Some c) ∙ h.long;
        objects = objects-more;
        classes = classes-more;
        none = none-more;
        links = h.links;
        link_lines = h.link_lines;
        labels = h.labels;
        label_lines = h.label_lines;
        method = h.method;
        saved = h.saved;
        steps = h.steps;
      }

and-first : (a b : Bool) → (a && b) ≡ true → a ≡ true
and-first true b e = refl
and-first false b e = e

and-last : (a b : Bool) → (a && b) ≡ true → b ≡ true
and-last true b e = e
and-last false b e = cc

and-true : (b : Bool) → (b && true) ≡ b
and-true true = refl
and-true false = refl

-- ---- sets that grow by one line

add_all-more : {A : Type 0} (same : A → A → Bool) (xs : List A) (y : A) (ys : List A) → add_all same (xs ++ (y ∷ [])) ys ≡ add same y (add_all same xs ys)
unfolding add_all
add_all-more same [] y ys = refl
add_all-more same (x ∷ xs) y ys = add_all-more same xs y (add same x ys)

one-longer : {A : Type 0} (xs : List A) (y : A) → length xs + 1 ≡ length (xs ++ (y ∷ []))
one-longer xs y = sym (length-append xs (y ∷ []))

module _ (P : Package) (R : Reader) (x : Draft) (h : Holds P R x) where
  -- a set has no more members than lines, so there is room
  link-room : (k : M.Link) → ltb (length R.links) 256 ≡ true → has_link_room x.script.start.links (link_from k) ≡ true
  unfolding room_for
  link-room k e =
      let short = length-add_all decides-same_link R.links [] in
      let less = ltb-true _ _ e in
      ap (λ (links : List Link). has_link_room links (link_from k)) h.links
      ∙ has-link-room-is (add_all same_link R.links []) k
      ∙ rw (lt-ltb (length (add_all same_link R.links [])) 256 (omega (arith, short, less))) (or-true _)

  link-holds : (section : ℕ) (k : M.Link) → Holds P (with_link_line R section k) (T.with_link x (link_from k))
  link-holds section k =
      record {
        pool = h.pool;
        long = h.long;
        objects = h.objects;
        classes = h.classes;
        none = h.none;
        links = ap (λ (links : List Link). insert_link links (link_from k)) h.links ∙ insert-link-is (add_all same_link R.links []) k ∙ sym (ap (map link_from) (add_all-more same_link R.links k []));
        link_lines = ap (λ (n : ℕ). n + 1) h.link_lines ∙ one-longer R.links k;
        labels = h.labels;
        label_lines = h.label_lines;
        method = h.method;
        saved = h.saved;
        steps = h.steps;
      }

  label-room : (r c : ℕ) → ltb (length R.labels) 32 ≡ true → has_room x.script.start.labels (label_of r c) ≡ true
  unfolding room_for
  label-room r c e =
      let short = length-add_all decides-same_label R.labels [] in
      let less = ltb-true _ _ e in
      ap (λ (labels : List Label). has_room labels (label_of r c)) h.labels
      ∙ has-room-is (add_all same_label R.labels []) r c
      ∙ rw (lt-ltb (length (add_all same_label R.labels [])) 32 (omega (arith, short, less))) (or-true _)

  label-holds : (r c : ℕ) → Holds P (with_label_line R (M.label r c)) (T.with_label x (label_of r c))
  label-holds r c =
      record {
        pool = h.pool;
        long = h.long;
        objects = h.objects;
        classes = h.classes;
        none = h.none;
        links = h.links;
        link_lines = h.link_lines;
        labels = ap (λ (labels : List Label). add_label labels (label_of r c)) h.labels ∙ add-label-is (add_all same_label R.labels []) r c ∙ sym (ap (map label_from) (add_all-more same_label R.labels (M.label r c) []));
        label_lines = ap (λ (n : ℕ). n + 1) h.label_lines ∙ one-longer R.labels (M.label r c);
        method = h.method;
        saved = h.saved;
        steps = h.steps;
      }

-- what the definition says of a frame that `take` takes, or refuses
abbrev pub judged : Result Draft Refusal → Took Reader → Took Reader
judged (Ok x) t = t
judged (Err r) t = refuses (run_number_of r)

-- taken as this reader, or refused with one number
as-judged : (P : Package) (k : ℕ) (Q : Reader) {t : Took Reader} {o : Result Draft Refusal} → Same P k (λ (R : Reader) (y : Draft). in_section k R ≡ Q) t o → t ≡ judged o (takes Q)
as-judged P k Q (taken e) = ap takes e
as-judged P k Q refused = refl

module _ (P : Package) (R : Reader) (x : Draft) (h : Holds P R x) (f : List ℕ) where
  abbrev at : ℕ → ℕ
  at i = get_or (pack_frame f).bytes i 0

  -- ---- objects

  abbrev with_its_object : Reader
  with_its_object = with_object_line R (object (byte f 1) (byte f 2))

  object-as : (H : Reader → Draft → Type 0) → (is_reference (byte f 1) ≡ true → in_pool R.objects (byte f 1) ≡ false → H with_its_object (T.with_object x (byte f 1) (byte f 2)))
      → Same P 0x11 H (take_object P R f) (T.take_object P x (pack_frame f))
  unfolding take_object T.take_object
  object-as H more =
      subst (λ (o : Result Draft Refusal). Same P 0x11 H (take_object P R f) o) (λ i. T.object_by P x (sym (fits-packed f) i) (sym (first-at 16 f 1 (lit< tt)) i) (sym (first-at 16 f 2 (lit< tt)) i))
      (asked P 0x11 H {o = T.require (is_reference (byte f 1) && (is_type P (byte f 2) && not (is_object x.script.start (byte f 1)))) BadNumber (Ok (T.with_object x (byte f 1) (byte f 2)))} BadLength refl (λ _.
      asked₃ P 0x11 H BadNumber (is_reference (byte f 1)) (is_type P (byte f 2)) (not (in_pool R.objects (byte f 1)))
      (ap (λ (b : Bool). is_reference (byte f 1) && (is_type P (byte f 2) && not b)) (h.objects (byte f 1))) (λ e.
      taken {R = with_its_object} (more (and-first _ _ e) (not-true' _ (and-last _ _ (and-last _ _ e)))))))

  pub object-judged : take_object P R f ≡ judged (T.take_object P x (pack_frame f)) (takes with_its_object)
  object-judged = as-judged P 0x11 with_its_object (object-as (λ (Q : Reader) (y : Draft). in_section 0x11 Q ≡ with_its_object) (λ a b. refl))

  pub object-same : (n : ℕ) → byte f 1 < 256 → (row_of (byte f 0)).section ≡ 0x11 → Same P 0x11 (Holds P) (take_frame P (in_section 0x11 R) n f) (T.take_object P x (pack_frame f))
  unfolding take_object
  object-same n small e =
      subst (λ (t : Took Reader). Same P 0x11 (Holds P) t (T.take_object P x (pack_frame f))) (sym (taken-object P R n f e))
      (object-as (Holds P) (λ a b. has_more P R x h (byte f 1) (byte f 2) a b small))

  -- ---- labels

  abbrev with_its_label : Reader
  with_its_label = with_label_line R (M.label (byte f 1) (byte f 2))

  label-as : (H : Reader → Draft → Type 0) → H with_its_label (T.with_label x (label_of (byte f 1) (byte f 2))) → Same P 0x14 H (take_label P R f) (T.take_label P x (pack_frame f))
  unfolding take_label T.take_label
  label-as H more =
      subst (λ (o : Result Draft Refusal). Same P 0x14 H (take_label P R f) o) (λ i. T.label_by P x (sym (fits-packed f) i) (sym (first-at 16 f 1 (lit< tt)) i) (sym (first-at 16 f 2 (lit< tt)) i))
      (asked P 0x14 H TooMany (ap (λ (n : ℕ). ltb n 32) (sym h.label_lines)) (λ few.
      asked P 0x14 H BadLength refl (λ _.
      asked₂ P 0x14 H BadNumber (in_pool R.objects (byte f 1)) (is_type P (byte f 2)) (ap (λ (b : Bool). b && is_type P (byte f 2)) (h.objects (byte f 1))) (λ _.
      asked P 0x14 H IllTyped (h.classes (byte f 1) (byte f 2)) (λ _.
      passes P 0x14 H TooMany (label-room P R x h (byte f 1) (byte f 2) few)
      (taken {R = with_its_label} more))))))

  pub label-judged : take_label P R f ≡ judged (T.take_label P x (pack_frame f)) (takes with_its_label)
  label-judged = as-judged P 0x14 with_its_label (label-as (λ (Q : Reader) (y : Draft). in_section 0x14 Q ≡ with_its_label) refl)

  pub label-same : (n : ℕ) → (row_of (byte f 0)).section ≡ 0x14 → Same P 0x14 (Holds P) (take_frame P (in_section 0x14 R) n f) (T.take_label P x (pack_frame f))
  unfolding take_label
  label-same n e =
      subst (λ (t : Took Reader). Same P 0x14 (Holds P) t (T.take_label P x (pack_frame f))) (sym (taken-label P R n f e))
      (label-as (Holds P) (label-holds P R x h (byte f 1) (byte f 2)))

  -- the label and the links of a frame, as the code keeps it
  pub label-packed : label_of (at 1) (at 2) ≡ label_from (M.label (byte f 1) (byte f 2))
  label-packed = λ i. label_of (first-at 16 f 1 (lit< tt) i) (first-at 16 f 2 (lit< tt) i)

  -- ---- links

  abbrev static_link : M.Link
  static_link = record { owner = M.no_owner; declared = byte f 1; type = byte f 2; target = byte f 3 }

  pub static-link-packed : T.link_in Static (pack_frame f) ≡ link_from static_link
  static-link-packed = λ i. record { owner = 0xFF; declared = first-at 16 f 1 (lit< tt) i; typ = first-at 16 f 2 (lit< tt) i; target = first-at 16 f 3 (lit< tt) i }

  abbrev with_its_static_link : Reader
  with_its_static_link = with_link_line R 0x12 static_link

  static-link-as : (H : Reader → Draft → Type 0) → H with_its_static_link (T.with_link x (link_from static_link)) → Same P 0x12 H (take_static_link P R f) (T.take_link P Static x (pack_frame f))
  unfolding take_static_link T.take_link
  static-link-as H more =
      let c = byte f 1 in
      let t = byte f 2 in
      let q = byte f 3 in
      subst (λ (o : Result Draft Refusal). Same P 0x12 H (take_static_link P R f) o)
      (λ i. T.link_by P Static x (sym (fits-packed f) i) (sym static-link-packed i))
      (asked P 0x12 H TooMany (ap (λ (n : ℕ). ltb n 256) (sym h.link_lines)) (λ few.
      asked P 0x12 H BadLength refl (λ _.
      asked₄ P 0x12 H BadNumber (is_class P c) (is_type P t) (some_field P c t 1) (in_pool R.objects q) (ap (λ (b : Bool). (is_class P c && (is_type P t && some_field P c t 1)) && b) (h.objects q)) (λ _.
      asked P 0x12 H IllTyped (h.classes q t ∙ sym (and-true _)) (λ _.
      passes P 0x12 H TooMany (link-room P R x h static_link few)
      (taken {R = with_its_static_link} more))))))

  pub static-link-judged : take_static_link P R f ≡ judged (T.take_link P Static x (pack_frame f)) (takes with_its_static_link)
  static-link-judged = as-judged P 0x12 with_its_static_link (static-link-as (λ (Q : Reader) (y : Draft). in_section 0x12 Q ≡ with_its_static_link) refl)

  pub static-link-same : (n : ℕ) → (row_of (byte f 0)).section ≡ 0x12 → Same P 0x12 (Holds P) (take_frame P (in_section 0x12 R) n f) (T.take_link P Static x (pack_frame f))
  unfolding take_static_link
  static-link-same n e =
      subst (λ (t : Took Reader). Same P 0x12 (Holds P) t (T.take_link P Static x (pack_frame f))) (sym (taken-static-link P R n f e))
      (static-link-as (Holds P) (link-holds P R x h 0x12 static_link))

  abbrev object_link : M.Link
  object_link = record { owner = byte f 1; declared = byte f 2; type = byte f 3; target = byte f 4 }

  pub object-link-packed : T.link_in Instance (pack_frame f) ≡ link_from object_link
  object-link-packed = λ i. record { owner = first-at 16 f 1 (lit< tt) i; declared = first-at 16 f 2 (lit< tt) i; typ = first-at 16 f 3 (lit< tt) i; target = first-at 16 f 4 (lit< tt) i }

  abbrev with_its_object_link : Reader
  with_its_object_link = with_link_line R 0x13 object_link

  object-link-as : (H : Reader → Draft → Type 0) → H with_its_object_link (T.with_link x (link_from object_link)) → Same P 0x13 H (take_object_link P R f) (T.take_link P Instance x (pack_frame f))
  unfolding take_object_link T.take_link
  object-link-as H more =
      let p = byte f 1 in
      let c = byte f 2 in
      let t = byte f 3 in
      let q = byte f 4 in
      subst (λ (o : Result Draft Refusal). Same P 0x13 H (take_object_link P R f) o)
      (λ i. T.link_by P Instance x (sym (fits-packed f) i) (sym object-link-packed i))
      (asked P 0x13 H TooMany (ap (λ (n : ℕ). ltb n 256) (sym h.link_lines)) (λ few.
      asked P 0x13 H BadLength refl (λ _.
      asked₅ P 0x13 H BadNumber (in_pool R.objects p) (is_class P c) (is_type P t) (some_field P c t 0) (in_pool R.objects q)
      (ap₂ (λ (a b : Bool). a && ((is_class P c && (is_type P t && some_field P c t 0)) && b)) (h.objects p) (h.objects q)) (λ _.
      asked₂ P 0x13 H IllTyped (is_a P R.objects q t) (is_a P R.objects p c) (ap₂ ◌&&◌ (h.classes q t) (h.classes p c)) (λ _.
      passes P 0x13 H TooMany (link-room P R x h object_link few)
      (taken {R = with_its_object_link} more))))))

  pub object-link-judged : take_object_link P R f ≡ judged (T.take_link P Instance x (pack_frame f)) (takes with_its_object_link)
  object-link-judged = as-judged P 0x13 with_its_object_link (object-link-as (λ (Q : Reader) (y : Draft). in_section 0x13 Q ≡ with_its_object_link) refl)

  pub object-link-same : (n : ℕ) → (row_of (byte f 0)).section ≡ 0x13 → Same P 0x13 (Holds P) (take_frame P (in_section 0x13 R) n f) (T.take_link P Instance x (pack_frame f))
  unfolding take_object_link
  object-link-same n e =
      subst (λ (t : Took Reader). Same P 0x13 (Holds P) t (T.take_link P Instance x (pack_frame f))) (sym (taken-object-link P R n f e))
      (object-link-as (Holds P) (link-holds P R x h 0x13 object_link))
