-- A section of a run text, read by what takes its frames one by one, is what the definition reads of its lines.
use Prim.Native.Nat.{ℕ, suc, ◌+◌, ◌<◌}
use native.Mathlib.Numerals.{add-one}
use mathlib.Core.Path.{◌≡◌, refl, sym, ap, ◌∙◌, subst}
use mathlib.Core.Bool.{Bool, true, false, cond}
use mathlib.Core.Option.{Option, none, some, none-ne-some}
use mathlib.Core.List.{List, [], ◌∷◌}
use lib.Dec.{eqb}
use lib.ListN.{length}
use native.Mathlib.Omega.{arith}
use borrow.Author.Tests.{eqb-true, eqb-false}
use Rattle.std.specs.Prelude.{Result, Ok, Err, Some, None}
use Rattle.meaning.specs.Text.{Line, frame_of, byte}
use Rattle.meaning.specs.Kinds.{row_of}
use Rattle.meaning.specs.Tables.{Package}
use Rattle.meaning.specs.Reading.{Took, takes, refuses, answer}
use Rattle.runs.specs.Script.{Reader, ScriptReading, is_none, take_frame, take_if, take_line, read_next, read_lines}
use Rattle.text.specs.declared.frame.Frame.{Frame}
use Rattle.text.specs.Frames.{pack_frame}
use Rattle.text.specs.Kinds.{section_of}
use Rattle.text.specs.Reading.{Reading, framed, first_line, of_section, next_of}
use Rattle.text.proofs.Fitting.{section-packed}
use Rattle.sections.specs.declared.refusal.Refusal.{Refusal}
use Rattle.sections.specs.declared.refusal.Refused.{Refused}
use Rattle.sections.specs.Refusals.{run_number_of}
use Rattle.sections.specs.Sections.{section, section_from}
use Rattle.sections.proofs.SectionLemmas.{section-more, section-refused, section-none, past-taken}
use Rattle.script.proofs.Small.{bytes-small}
use Rattle.script.proofs.Order.{in_section, HasNone}

abbrev pub reading : ℕ → List Line → Reading
reading n ls = record { number = n; lines = ls }

module _ (k : ℕ) (l : Line) (ls : List Line) where
  next-of-none : frame_of l ≡ none → next_of k (l ∷ ls) ≡ None
  unfolding first_line
  next-of-none e = ap (λ (o : Option (List ℕ)). of_section k (Some (framed o))) e

  next-of-some : (f : List ℕ) → frame_of l ≡ some f → next_of k (l ∷ ls) ≡ cond (eqb (section_of (pack_frame f)) k) (Some (pack_frame f)) None
  unfolding first_line
  next-of-some f e = ap (λ (o : Option (List ℕ)). of_section k (Some (framed o))) e

module _ {S : Type 0} (P : Package) (k : ℕ) (Holds : Reader → S → Type 0) where
  -- a frame is taken, or refused with one number
  pub data Same : Took Reader → Result S Refusal → Type 0 where
    taken : {R : Reader} {x : S} → Holds R x → Same (takes (in_section k R)) (Ok x)
    refused : {r : Refusal} → Same (refuses (run_number_of r)) (Err r)

  -- what is left of the text, or its refusal
  pub data Goes (whole : ScriptReading) : Result (S × Reading) Refused → Type 0 where
    on : {R : Reader} {x : S} {n : ℕ} {ls : List Line} → Holds R x → HasNone k ls → n + length ls < 65536 → whole ≡ read_lines P (in_section k R) n ls → Goes whole (Ok (x, reading n ls))
    stopped : {r : Refusal} {line : ℕ} → whole ≡ is_none (answer (run_number_of r) line 0) → Goes whole (Err (record { refusal = r; line = line }))

  module _ (take : S → ℕ → Frame → Result S Refusal) (judged : (R : Reader) (x : S) → Holds R x → (n : ℕ) → n < 65536 → (f : List ℕ) → ((i : ℕ) → byte f i < 256) → (row_of (byte f 0)).section ≡ k → Same (take_frame P (in_section k R) n f) (take x n (pack_frame f))) where
    section-nil : (x : S) (n : ℕ) → section k take x (reading n []) ≡ Ok (x, reading n [])
    unfolding section_from
    section-nil x n = refl

    pub section-goes : (R : Reader) (x : S) (n : ℕ) (ls : List Line) → n + length ls < 65536 → Holds R x → Goes (read_lines P (in_section k R) n ls) (section k take x (reading n ls))
    unfolding read_lines take_line
    section-goes R x n [] few h = subst (Goes _) (sym (section-nil x n)) (on h tt few refl)
    section-goes R x n (l ∷ ls) few h = line (λ Q y g. section-goes Q y (suc n) ls (omega arith) g) (frame_of l) refl
      where
        next : Took Reader → ScriptReading
        next t = read_next (suc n) t (λ (Q : Reader). read_lines P Q (suc n) ls)

        Later : Type 0
        Later = (Q : Reader) (y : S) → Holds Q y → Goes (read_lines P (in_section k Q) (suc n) ls) (section k take y (reading (suc n) ls))

        stays : (o : Option (List ℕ)) → frame_of l ≡ o → next_of k (l ∷ ls) ≡ None → ((f : List ℕ) → o ≡ some f → (row_of (byte f 0)).section ≡ k → ⊥)
            → Goes (next (take_if P (in_section k R) (suc n) o)) (section k take x (reading n (l ∷ ls)))
        stays o e m other =
            subst (Goes _) (sym (section-none k take x (reading n (l ∷ ls)) m))
            (on h (λ f e'. other f (sym e ∙ e')) few (ap (λ (o : Option (List ℕ)). next (take_if P (in_section k R) (suc n) o)) (sym e)))

        frame : Later → (f : List ℕ) → next_of k (l ∷ ls) ≡ Some (pack_frame f) → (t : Took Reader) (o : Result S Refusal) → take x (n + 1) (pack_frame f) ≡ o → Same t o
            → Goes (next t) (section k take x (reading n (l ∷ ls)))
        frame later f e t o q (taken {R = Q} {x = y} g) =
            subst (Goes _)
            (sym (section-more k take x (reading n (l ∷ ls)) (pack_frame f) y e q ∙ (λ i. section k take y (reading (add-one n i) (past-taken k l ls (pack_frame f) e i)))))
            (later Q y g)
        frame later f e t o q (refused {r}) =
            subst (Goes _) (sym (section-refused k take x (reading n (l ∷ ls)) (pack_frame f) r e q)) (stopped (ap (λ (m : ℕ). is_none (answer (run_number_of r) m 0)) (sym (add-one n))))

        line : Later → (o : Option (List ℕ)) → frame_of l ≡ o → Goes (next (take_if P (in_section k R) (suc n) o)) (section k take x (reading n (l ∷ ls)))
        line later none e = stays none e (next-of-none k l ls e) (λ f e'. absurd (none-ne-some f e'))
        line later (some f) e = kind (eqb (section_of (pack_frame f)) k) refl
          where
            kind : (b : Bool) → eqb (section_of (pack_frame f)) k ≡ b → Goes (next (take_frame P (in_section k R) (suc n) f)) (section k take x (reading n (l ∷ ls)))
            kind true q =
                frame later f (next-of-some k l ls f e ∙ rw q) _ _ (ap (λ (m : ℕ). take x m (pack_frame f)) (add-one n))
                (judged R x h (suc n) (omega arith) f (bytes-small l f e) (sym (section-packed f) ∙ eqb-true _ _ q))
            kind false q =
                let s = eqb-false _ _ q in
                stays (some f) e (next-of-some k l ls f e ∙ rw q)
                (λ f' e'. let same : f ≡ f' = cc in λ s'. s (section-packed f ∙ subst (λ (g : List ℕ). (row_of (byte g 0)).section ≡ k) (sym same) s'))
