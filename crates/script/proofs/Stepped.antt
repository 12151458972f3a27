-- What the definition says of a step's frame is what `take_step` says: refused with that number, or taken as the step that the code makes of it.
use Prim.Native.Nat.{ℕ, ◌+◌, ◌≤◌, ◌<◌}
use native.Mathlib.Omega.{arith}
use mathlib.Core.Path.{◌≡◌, refl, sym, ap, ◌∙◌, subst}
use mathlib.Core.Bool.{Bool, true, false, ◌&&◌, not, cond}
use mathlib.Core.List.{List, [], ◌∷◌, ◌++◌, map}
use lib.Dec.{eqb, ltb, lit<}
use lib.ListN.{length, get_or, take, drop, length-drop, length-map}
use borrow.Author.Tests.{ne_eqb, eqb-true, ltb-true, lt-ltb}
use Rattle.std.proofs.lemmas.List.{get_or-drop}
use Rattle.std.proofs.Math.Decide.{dec_le}
use Rattle.std.specs.Prelude.{Result, Ok, Option, Some, None}
use Rattle.std.specs.List.{list_all}
use Rattle.meaning.specs.Good.{Good}
use Rattle.meaning.specs.Lists.{all}
use Rattle.meaning.specs.Text.{byte}
use Rattle.meaning.specs.Kinds.{row_of, length_of, fits}
use Rattle.meaning.specs.Tables.{Package, params_of}
use Rattle.meaning.specs.Reading.{Took, takes, refuses, need, is_type, is_field, is_method_of}
use Rattle.runs.specs.Machine as M
use Rattle.runs.specs.Run.{placed}
use Rattle.runs.specs.Script.{Reader, is_reference, with_step, take_frame, on_type, on_static, on_field, on_static_method, on_method, step_of, place_step, take_step}
use Rattle.text.specs.Frames.{pack_frame}
use Rattle.text.proofs.Packed.{first-at}
use Rattle.text.proofs.Fitting.{fits-packed}
use Rattle.sections.specs.declared.refusal.Refusal.{Refusal}
use Rattle.sections.specs.declared.refusal.Refusal.TheVariants.{BadLength, BadNumber, TooMany}
use Rattle.machine.specs.declared.step.Step.{Step}
use Rattle.machine.specs.declared.step.Step.TheVariants.{Widen, New, CheckCast, GetStatic, PutStatic, GetField, PutField, InvokeStatic, InvokeMethod, Return}
use Rattle.machine.specs.Step.{value_number, step_view, placed_view}
use Rattle.script.specs.declared.draft.Draft.{Draft}
use Rattle.script.specs.Steps.{no_more, places_of, within, arguments_by, arguments_in, with_arguments, value_in, step_by, step_in, is_named}
use Rattle.script.specs.Taking as T
use Rattle.script.proofs.Order.{in_section}
use Rattle.script.proofs.Goes.{Same, taken, refused}
use Rattle.script.proofs.Taken.{Holds, asked, taken_step}

-- ---- the arguments, where the length is right

-- six places are enough for a list that is no longer
six : (xs : List ℕ) → length xs ≤ 6 → take (length xs) (get_or xs 0 0 ∷ get_or xs 1 0 ∷ get_or xs 2 0 ∷ get_or xs 3 0 ∷ get_or xs 4 0 ∷ get_or xs 5 0 ∷ no_more) ≡ xs
six [] h = refl
six (a ∷ []) h = refl
six (a ∷ b ∷ []) h = refl
six (a ∷ b ∷ c ∷ []) h = refl
six (a ∷ b ∷ c ∷ d ∷ []) h = refl
six (a ∷ b ∷ c ∷ d ∷ e ∷ []) h = refl
six (a ∷ b ∷ c ∷ d ∷ e ∷ g ∷ []) h = refl
six (a ∷ b ∷ c ∷ d ∷ e ∷ g ∷ i ∷ xs) h = absurd (omega arith)

list_all-is : {A : Type 0} (p : A → Bool) (xs : List A) → list_all p xs ≡ all p xs
unfolding all
list_all-is p [] = refl
list_all-is p (x ∷ xs) = ap (λ (b : Bool). p x && b) (list_all-is p xs)

module _ (f : List ℕ) (i : ℕ) (long : length f ≡ i + 1 + byte f i) (few : byte f i ≤ 6) where
  counted : length (drop (i + 1) f) ≡ byte f i
  counted = length-drop (i + 1) f ∙ omega (arith, long)

  kept : take (byte f i) (byte f (i + 1 + 0) ∷ byte f (i + 1 + 1) ∷ byte f (i + 1 + 2) ∷ byte f (i + 1 + 3) ∷ byte f (i + 1 + 4) ∷ byte f (i + 1 + 5) ∷ no_more) ≡ drop (i + 1) f
  kept =
      let at : (j : ℕ) → byte f (i + 1 + j) ≡ get_or (drop (i + 1) f) j 0 = λ j. sym (get_or-drop (i + 1) f j 0) in
      (λ k. take (sym counted k) (at 0 k ∷ at 1 k ∷ at 2 k ∷ at 3 k ∷ at 4 k ∷ at 5 k ∷ no_more))
      ∙ six (drop (i + 1) f) (omega (arith, counted, few))

  -- the count and the arguments pass as those that the code keeps
  are-kept : (m : ℕ) → (eqb (byte f i) m && all is_reference (drop (i + 1) f))
      ≡ (eqb (length (take (byte f i) (byte f (i + 1 + 0) ∷ byte f (i + 1 + 1) ∷ byte f (i + 1 + 2) ∷ byte f (i + 1 + 3) ∷ byte f (i + 1 + 4) ∷ byte f (i + 1 + 5) ∷ no_more))) m
      && list_all is_reference (take (byte f i) (byte f (i + 1 + 0) ∷ byte f (i + 1 + 1) ∷ byte f (i + 1 + 2) ∷ byte f (i + 1 + 3) ∷ byte f (i + 1 + 4) ∷ byte f (i + 1 + 5) ∷ no_more)))
  are-kept m =
      (λ k. eqb (sym counted k) m && sym (list_all-is is_reference (drop (i + 1) f)) k)
      ∙ sym (ap (λ (xs : List ℕ). eqb (length xs) m && list_all is_reference xs) kept)

map-last : {A B : Type 0} (f : A → B) (xs : List A) (x : A) → map f (xs ++ (x ∷ [])) ≡ map f xs ++ (f x ∷ [])
map-last f [] x = refl
map-last {B = B} f (y ∷ ys) x = ap (λ (zs : List B). f y ∷ zs) (map-last f ys x)

need-both : {A : Type 0} (k : ℕ) (t : Took A) (a b : Bool) → need a k (need b k t) ≡ need (a && b) k t
need-both k t true b = refl
need-both k t false b = refl

-- the step of the bytes that are kept is that of the frame's
pub step-packed : (f : List ℕ) → step_by (byte f 0) (byte f 1) (byte f 2) (byte f 3) (byte f 4) (byte f 5) (byte f 6) (byte f 7) (byte f 8) (byte f 9) (byte f 10) ≡ step_in (pack_frame f)
unfolding step_in
step-packed f = λ i. step_by (k 0 (lit< tt) i) (k 1 (lit< tt) i) (k 2 (lit< tt) i) (k 3 (lit< tt) i) (k 4 (lit< tt) i) (k 5 (lit< tt) i) (k 6 (lit< tt) i) (k 7 (lit< tt) i) (k 8 (lit< tt) i) (k 9 (lit< tt) i) (k 10 (lit< tt) i)
  where
    k : (i : ℕ) → i < 16 → byte f i ≡ get_or (pack_frame f).bytes i 0
    k i h = sym (first-at 16 f i h)

-- ---- one step

-- one step more: with which the definition reads on, and which is what the code's means
pub record OneMore (R : Reader) (x : Draft) (n : ℕ) (Q : Reader) (y : Draft) : Type 0 where
  pub step : Step
  pub read : in_section 0x20 Q ≡ with_step R (placed n (step_view step))
  pub taken : y ≡ T.with_step x (record { line = n; step = step })

module _ (P : Package) (R : Reader) (x : Draft) (h : Holds P R x) (n : ℕ) where
  step-holds : (s : Step) → Holds P (with_step R (placed n (step_view s))) (T.with_step x (record { line = n; step = s }))
  step-holds s =
      record {
        pool = h.pool;
        long = h.long;
        objects = h.objects;
        classes = h.classes;
        none = h.none;
        links = h.links;
        link_lines = h.link_lines;
        labels = h.labels;
        label_lines = h.label_lines;
        method = h.method;
        saved = h.saved;
        steps = map-last placed_view x.script.steps (record { line = n; step = s }) ∙ ap (λ (ks : List _). ks ++ (placed n (step_view s) ∷ [])) h.steps;
      }

-- what is taken is H
module _ (P : Package) (R : Reader) (x : Draft) (n : ℕ) (line : n < 65536) (H : Reader → Draft → Type 0) (more : (s : Step) → H (with_step R (placed n (step_view s))) (T.with_step x (record { line = n; step = s }))) where
  abbrev Agrees : Took Reader → Result Draft Refusal → Type 0
  Agrees = Same P 0x20 H

  -- the step of the definition, and the code's, or none where its numbers are not declared
  record Ag (t : Took M.Step) (o : Option Step) : Type 0 where
    ag : Agrees (place_step R n t) (T.placed_if P x n o)

  leaf : (c : Bool) (k : M.Step) (s : Step) → step_view s ≡ k → c ≡ is_named P s → Ag (need c 57 (takes k)) (Some s)
  leaf c k s v e =
      record {
        ag =
            subst (λ (k : M.Step). Agrees (place_step R n (need c 57 (takes k))) (T.placed_if P x n (Some s))) v
            (subst (λ (d : Bool). Agrees (place_step R n (need c 57 (takes (step_view s)))) (T.require d BadNumber (Ok (T.with_step x (record { line = n; step = s })))))
            (e ∙ sym (rw (lt-ltb n 65536 line) (and-true (is_named P s))))
            (on c));
      }
    where
      and-true : (b : Bool) → (b && true) ≡ b
      and-true true = refl
      and-true false = refl

      on : (c : Bool) → Agrees (place_step R n (need c 57 (takes (step_view s)))) (T.require c BadNumber (Ok (T.with_step x (record { line = n; step = s }))))
      on true = taken {R = with_step R (placed n (step_view s))} (more s)
      on false = refused {r = BadNumber}

  none-named : Ag (refuses 57) None
  none-named = record { ag = refused {r = BadNumber} }

  cond-ag : (b : Bool) {t t' : Took M.Step} {o o' : Option Step} → (b ≡ true → Ag t o) → (b ≡ false → Ag t' o') → Ag (cond b t t') (cond b o o')
  cond-ag true f g = f refl
  cond-ag false f g = g refl

  alike : {t u : Took M.Step} {o : Option Step} → t ≡ u → Ag u o → Ag t o
  alike {t} {u} {o} e a = subst (λ (t : Took M.Step). Ag t o) (sym e) a

  other : {t : Took M.Step} {o p : Option Step} → o ≡ p → Ag t o → Ag t p
  other {t} {o} {p} e a = subst (λ (o : Option Step). Ag t o) e a

  -- ---- each kind of step

  module _ (f : List ℕ) where
    types : (k : M.Step) (s : Step) → step_view s ≡ k → (is_reference (byte f 1) && is_type P (byte f 2)) ≡ is_named P s → Ag (on_type P f k) (Some s)
    unfolding on_type
    types k s v e = alike (need-both 57 (takes k) (is_reference (byte f 1)) (is_type P (byte f 2))) (leaf _ k s v e)

    statics : (k : M.Step) (s : Step) → step_view s ≡ k → (is_field P (byte f 1) 1 && is_reference (byte f 2)) ≡ is_named P s → Ag (on_static P f k) (Some s)
    unfolding on_static
    statics k s v e = alike (need-both 57 (takes k) (is_field P (byte f 1) 1) (is_reference (byte f 2))) (leaf _ k s v e)

    fields : (k : M.Step) (s : Step) → step_view s ≡ k → (is_field P (byte f 1) 0 && (is_reference (byte f 2) && is_reference (byte f 3))) ≡ is_named P s → Ag (on_field P f k) (Some s)
    unfolding on_field
    fields k s v e =
        let a = is_field P (byte f 1) 0 in
        alike (ap (need a 57) (need-both 57 (takes k) (is_reference (byte f 2)) (is_reference (byte f 3))) ∙ need-both 57 (takes k) a (is_reference (byte f 2) && is_reference (byte f 3))) (leaf _ k s v e)

  module _ (good : Good P) (f : List ℕ) where
    -- a method takes six arguments at most
    many : (m s c : ℕ) → (c ≤ 6 → ⊥) → is_method_of P m s ≡ true → eqb c (length (params_of P m)) ≡ false
    unfolding is_method_of
    many m s c n e =
        let below = ltb-true _ _ (and-first _ _ e) in
        let few = (good.methods m below).few in
        ne_eqb _ _ (λ q. n (omega (arith, few, q)))
      where
        and-first : (a b : Bool) → (a && b) ≡ true → a ≡ true
        and-first true b e = refl
        and-first false b e = e

    need-none : (b c : Bool) (t : Took M.Step) → (b ≡ true → c ≡ false) → need b 57 (need c 57 t) ≡ refuses 57
    need-none true c t e = rw (e refl)
    need-none false c t e = refl

    static-methods : length f ≡ 2 + 1 + byte f 2
        → Ag (on_static_method P f (M.invokestatic (byte f 1) (drop 3 f))) (with_arguments (arguments_in (byte f 2) (byte f 3 ∷ byte f 4 ∷ byte f 5 ∷ byte f 6 ∷ byte f 7 ∷ byte f 8 ∷ [])) (InvokeStatic (byte f 1)))
    unfolding on_static_method arguments_in
    static-methods long = on (dec_le (byte f 2) 6)
      where
        m : ℕ
        m = byte f 1

        objects : List ℕ
        objects = byte f 3 ∷ byte f 4 ∷ byte f 5 ∷ byte f 6 ∷ byte f 7 ∷ byte f 8 ∷ []

        on : (d : Dec (byte f 2 ≤ 6)) → Ag (on_static_method P f (M.invokestatic m (drop 3 f))) (with_arguments (arguments_by (byte f 2) objects d) (InvokeStatic m))
        on (yes few) =
            let a = is_method_of P m 1 in
            let b = eqb (byte f 2) (length (params_of P m)) in
            let d = all is_reference (drop 3 f) in
            alike (ap (need a 57) (need-both 57 _ b d) ∙ need-both 57 _ a (b && d))
            (leaf _ _ (InvokeStatic m (record { count = byte f 2; objects = places_of objects; few = within few })) (ap (M.invokestatic m) (kept f 2 long few)) (ap (λ (b : Bool). a && b) (are-kept f 2 long few (length (params_of P m)))))
        on (no n) = alike (need-none (is_method_of P m 1) _ _ (many m 1 (byte f 2) n)) none-named

    need-none-last : (a b c d : Bool) (t : Took M.Step) → (a ≡ true → d ≡ false) → need a 57 (need b 57 (need c 57 (need d 57 t))) ≡ refuses 57
    need-none-last true true true d t e = rw (e refl)
    need-none-last true true false d t e = refl
    need-none-last true false c d t e = refl
    need-none-last false b c d t e = refl

    methods : length f ≡ 4 + 1 + byte f 4
        → Ag (on_method P f (M.invokemethod (byte f 1) (byte f 2) (byte f 3) (drop 5 f))) (with_arguments (arguments_in (byte f 4) (byte f 5 ∷ byte f 6 ∷ byte f 7 ∷ byte f 8 ∷ byte f 9 ∷ byte f 10 ∷ [])) (InvokeMethod (byte f 1) (byte f 2) (byte f 3)))
    unfolding on_method arguments_in
    methods long = on (dec_le (byte f 4) 6)
      where
        m : ℕ
        m = byte f 1

        objects : List ℕ
        objects = byte f 5 ∷ byte f 6 ∷ byte f 7 ∷ byte f 8 ∷ byte f 9 ∷ byte f 10 ∷ []

        on : (d : Dec (byte f 4 ≤ 6)) → Ag (on_method P f (M.invokemethod m (byte f 2) (byte f 3) (drop 5 f))) (with_arguments (arguments_by (byte f 4) objects d) (InvokeMethod m (byte f 2) (byte f 3)))
        on (yes few) =
            let a = is_method_of P m 0 in
            let v = is_method_of P (byte f 2) 0 in
            let r = is_reference (byte f 3) in
            let b = eqb (byte f 4) (length (params_of P m)) in
            let d = all is_reference (drop 5 f) in
            alike
            (ap (need a 57) (ap (need v 57) (ap (need r 57) (need-both 57 _ b d) ∙ need-both 57 _ r (b && d)) ∙ need-both 57 _ v (r && (b && d))) ∙ need-both 57 _ a (v && (r && (b && d))))
            (leaf _ _ (InvokeMethod m (byte f 2) (byte f 3) (record { count = byte f 4; objects = places_of objects; few = within few })) (ap (M.invokemethod m (byte f 2) (byte f 3)) (kept f 4 long few))
            (ap (λ (b : Bool). a && (v && (r && b))) (are-kept f 4 long few (length (params_of P m)))))
        on (no n) = alike (need-none-last (is_method_of P m 0) _ _ _ _ (many m 0 (byte f 4) n)) none-named

    -- what a return names is FF or an object
    returned : step_view (Return (value_in (byte f 1))) ≡ M.return (byte f 1)
    unfolding is_reference
    returned = on (eqb (byte f 1) 0xFF) refl
      where
        on : (b : Bool) → eqb (byte f 1) 0xFF ≡ b → M.return (value_number (cond (not b) (Some (byte f 1)) None)) ≡ M.return (byte f 1)
        on true e = ap M.return (sym (eqb-true _ _ e))
        on false e = refl

    sized : (k : ℕ) → byte f 0 ≡ k → fits f ≡ true → length f ≡ length_of (row_of k) f
    unfolding fits
    sized k e h = subst (λ (b : ℕ). length f ≡ length_of (row_of b) f) e (eqb-true (length f) (length_of (row_of (byte f 0)) f) h)

    long-static : byte f 0 ≡ 0x27 → fits f ≡ true → length f ≡ 2 + 1 + byte f 2
    unfolding row_of length_of
    long-static e h = sized 0x27 e h

    long-method : byte f 0 ≡ 0x28 → fits f ≡ true → length f ≡ 4 + 1 + byte f 4
    unfolding row_of length_of
    long-method e h = sized 0x28 e h

    abbrev b : ℕ → ℕ
    b i = byte f i

    by-kind : fits f ≡ true → Ag (step_of P f) (step_by (b 0) (b 1) (b 2) (b 3) (b 4) (b 5) (b 6) (b 7) (b 8) (b 9) (b 10))
    unfolding step_of step_by
    by-kind h =
        cond-ag (eqb (b 0) 0x20) (λ _. types f (M.widen (b 1) (b 2)) (Widen (b 1) (b 2)) refl refl) (λ _.
        cond-ag (eqb (b 0) 0x21) (λ _. types f (M.new (b 1) (b 2)) (New (b 1) (b 2)) refl refl) (λ _.
        cond-ag (eqb (b 0) 0x22) (λ _. types f (M.checkcast (b 1) (b 2)) (CheckCast (b 1) (b 2)) refl refl) (λ _.
        cond-ag (eqb (b 0) 0x23) (λ _. statics f (M.getstatic (b 1) (b 2)) (GetStatic (b 1) (b 2)) refl refl) (λ _.
        cond-ag (eqb (b 0) 0x24) (λ _. statics f (M.putstatic (b 1) (b 2)) (PutStatic (b 1) (b 2)) refl refl) (λ _.
        cond-ag (eqb (b 0) 0x25) (λ _. fields f (M.getfield (b 1) (b 2) (b 3)) (GetField (b 1) (b 2) (b 3)) refl refl) (λ _.
        cond-ag (eqb (b 0) 0x26) (λ _. fields f (M.putfield (b 1) (b 2) (b 3)) (PutField (b 1) (b 2) (b 3)) refl refl) (λ _.
        cond-ag (eqb (b 0) 0x27) (λ e. static-methods (long-static (eqb-true (b 0) 0x27 e) h)) (λ _.
        cond-ag (eqb (b 0) 0x28) (λ e. methods (long-method (eqb-true (b 0) 0x28 e) h)) (λ _.
        leaf true (M.return (b 1)) (Return (value_in (b 1))) returned refl)))))))))

    step-as : length x.script.steps ≡ length R.steps → Same P 0x20 H (take_step P R n f) (T.take_step P x n (pack_frame f))
    unfolding take_step T.take_step
    step-as long =
        asked P 0x20 H TooMany (ap (λ (m : ℕ). ltb m 1024) (sym long)) (λ _.
        asked P 0x20 H BadLength (sym (fits-packed f)) (λ fit. (other (step-packed f) (by-kind fit)).ag))

module _ (P : Package) (R : Reader) (x : Draft) (h : Holds P R x) (n : ℕ) (good : Good P) (f : List ℕ) (line : n < 65536) where
  long : length x.script.steps ≡ length R.steps
  long = sym (length-map x.script.steps placed_view) ∙ ap length h.steps

  pub step-judged : Same P 0x20 (OneMore R x n) (take_step P R n f) (T.take_step P x n (pack_frame f))
  step-judged = step-as P R x n line (OneMore R x n) (λ s. record { step = s; read = refl; taken = refl }) good f long

  pub step-same : (row_of (byte f 0)).section ≡ 0x20 → Same P 0x20 (Holds P) (take_frame P (in_section 0x20 R) n f) (T.take_step P x n (pack_frame f))
  unfolding take_step
  step-same e =
      subst (λ (t : Took Reader). Same P 0x20 (Holds P) t (T.take_step P x n (pack_frame f))) (sym (taken_step P R n f e))
      (step-as P R x n line (Holds P) (step-holds P R x h n) good f long)
