-- A section reads the lines of its kind as `meaning` reads them, and leaves no line of its kind.
-- Assumes nothing.
use Rattle.std.proofs.Common.{◌≡◌, ℕ, suc, ◌+◌, Bool, true, false, cond, eqb, List, [], ◌∷◌, Option, Some, None, Result, Ok, Err, refl, sym, ap, ◌∙◌, add-one}
use Rattle.std.proofs.Math.Option.{none, some}
use Rattle.std.proofs.Math.Option as O
use Rattle.std.proofs.lemmas.Bool.{eqb-true}
use Rattle.meaning.specs.Text.{Line, frame_of, byte}
use Rattle.meaning.specs.Kinds.{row_of}
use Rattle.meaning.specs.Tables.{Package}
use Rattle.meaning.specs.Reading.{answer, Took, Reader, read_next, read_lines, take_if, take_line, take_frame, is_refused}
use Rattle.meaning.specs.Reading as M
use Rattle.text.specs.declared.frame.Frame.{Frame}
use Rattle.text.specs.Frames.{pack_frame}
use Rattle.text.specs.Reading.{Reading, first_line, framed, of_section, next_of}
use Rattle.sections.specs.declared.refusal.Refusal.{Refusal}
use Rattle.sections.specs.declared.refusal.Refused.{Refused}
use Rattle.sections.specs.Refusals.{number_of}
use Rattle.sections.specs.Sections.{refused, section_from}
use Rattle.package.proofs.Judged.{took}
use Rattle.package.proofs.Order.{in_section, next-is}

abbrev pub refusal_of : Refused → M.Reading
refusal_of r = is_refused (answer (number_of r.refusal) r.line 0)

module _ {E : Type 0} (k : ℕ) (take : List E → ℕ → Frame → Result (List E) Refusal) where
  -- the lines behind a section
  abbrev pub onward : (List E → Package) → Result (List E × Reading) Refused → M.Reading
  onward P (Ok p) = read_lines (in_section k (P p.0)) p.1.number p.1.lines
  onward P (Err r) = refusal_of r

  -- what a section does with its next line
  by_next : List E → ℕ → List Line → List Line → Option Frame → Result (List E × Reading) Refused
  by_next xs n here ls (Some g) = elim (take xs (n + 1) g) [ Ok ys ↦ section_from k take ys (n + 1) ls | Err r ↦ refused r (n + 1) ]
  by_next xs n here ls None = Ok (xs, record { number = n; lines = here })

  next : (xs : List E) (n : ℕ) (l : Line) (ls : List Line) → section_from k take xs n (l ∷ ls) ≡ by_next xs n (l ∷ ls) ls (next_of k (l ∷ ls))
  unfolding section_from by_next
  next xs n l ls = on (next_of k (l ∷ ls))
    where
      on : (o : Option Frame) → elim o as (λ (x : Option Frame). Result (List E × Reading) Refused) [ Some f ↦ elim (take xs (n + 1) f) [ Ok ys ↦ section_from k take ys (n + 1) ls | Err r ↦ refused r (n + 1) ] | None ↦ Ok (xs, record { number = n; lines = l ∷ ls }) ] ≡ by_next xs n (l ∷ ls) ls o
      on (Some f) = refl
      on None = refl

  bad : (xs : List E) (n : ℕ) (l : Line) (ls : List Line) → frame_of l ≡ none → section_from k take xs n (l ∷ ls) ≡ Ok (xs, record { number = n; lines = l ∷ ls })
  unfolding by_next first_line
  bad xs n l ls e = next xs n l ls ∙ ap (λ (o : O.Option (List ℕ)). by_next xs n (l ∷ ls) ls (of_section k (Some (framed o)))) e

  other : (xs : List E) (n : ℕ) (l : Line) (ls : List Line) (f : List ℕ) → frame_of l ≡ some f → eqb (row_of (byte f 0)).section k ≡ false → section_from k take xs n (l ∷ ls) ≡ Ok (xs, record { number = n; lines = l ∷ ls })
  unfolding by_next
  other xs n l ls f e h = next xs n l ls ∙ ap (by_next xs n (l ∷ ls) ls) (next-is k l ls f e ∙ ap (λ (b : Bool). cond b (Some (pack_frame f)) None) h)

  this : (xs : List E) (n : ℕ) (l : Line) (ls : List Line) (f : List ℕ) → frame_of l ≡ some f → eqb (row_of (byte f 0)).section k ≡ true
      → section_from k take xs n (l ∷ ls) ≡ elim (take xs (n + 1) (pack_frame f)) [ Ok ys ↦ section_from k take ys (n + 1) ls | Err r ↦ refused r (n + 1) ]
  unfolding by_next
  this xs n l ls f e h = next xs n l ls ∙ ap (by_next xs n (l ∷ ls) ls) (next-is k l ls f e ∙ ap (λ (b : Bool). cond b (Some (pack_frame f)) None) h)

  module _ (P : List E → Package) (judges : (xs : List E) (n : ℕ) (f : List ℕ) → (row_of (byte f 0)).section ≡ k → take_frame (in_section k (P xs)) f ≡ took (λ (ys : List E). in_section k (P ys)) (take xs n (pack_frame f))) where
    -- a frame that is taken, or refused
    turn : (n : ℕ) (ls : List Line) (t : Result (List E) Refusal) → ((ys : List E) → read_lines (in_section k (P ys)) (n + 1) ls ≡ onward P (section_from k take ys (n + 1) ls))
        → read_next (suc n) (took (λ (ys : List E). in_section k (P ys)) t) (λ (Q : Reader). read_lines Q (suc n) ls) ≡ onward P (elim t [ Ok ys ↦ section_from k take ys (n + 1) ls | Err r ↦ refused r (n + 1) ])
    turn n ls (Ok ys) h = ap (λ (m : ℕ). read_lines (in_section k (P ys)) m ls) (sym (add-one n)) ∙ h ys
    turn n ls (Err r) h = ap (λ (m : ℕ). is_refused (answer (number_of r) m 0)) (sym (add-one n))

    pub section_read : (xs : List E) (n : ℕ) (ls : List Line) → read_lines (in_section k (P xs)) n ls ≡ onward P (section_from k take xs n ls)
    unfolding section_from read_lines take_line
    section_read xs n [] = refl
    section_read xs n (l ∷ ls) = on (frame_of l) refl (λ ys. section_read ys (n + 1) ls)
      where
        line : (f : List ℕ) → frame_of l ≡ some f → (b : Bool) → eqb (row_of (byte f 0)).section k ≡ b → ((ys : List E) → read_lines (in_section k (P ys)) (n + 1) ls ≡ onward P (section_from k take ys (n + 1) ls))
            → read_lines (in_section k (P xs)) n (l ∷ ls) ≡ onward P (section_from k take xs n (l ∷ ls))
        line f e true h ih =
            ap (λ (o : O.Option (List ℕ)). read_next (suc n) (take_if (in_section k (P xs)) o) (λ (Q : Reader). read_lines Q (suc n) ls)) e
            ∙ ap (λ (t : Took Reader). read_next (suc n) t (λ (Q : Reader). read_lines Q (suc n) ls)) (judges xs (n + 1) f (eqb-true (row_of (byte f 0)).section k h))
            ∙ turn n ls (take xs (n + 1) (pack_frame f)) ih
            ∙ ap (onward P) (sym (this xs n l ls f e h))
        line f e false h ih = ap (onward P) (sym (other xs n l ls f e h))

        on : (o : O.Option (List ℕ)) → frame_of l ≡ o → ((ys : List E) → read_lines (in_section k (P ys)) (n + 1) ls ≡ onward P (section_from k take ys (n + 1) ls)) → read_lines (in_section k (P xs)) n (l ∷ ls) ≡ onward P (section_from k take xs n (l ∷ ls))
        on none e ih = ap (onward P) (sym (bad xs n l ls e))
        on (some f) e ih = line f e (eqb (row_of (byte f 0)).section k) refl ih

  -- no line of its kind is left
  same : (p q : List E × Reading) → ◌≡◌ {A = Result (List E × Reading) Refused} (Ok p) (Ok q) → p ≡ q
  same p q e = cc

  no_result : (r : Refusal) (n : ℕ) (q : List E × Reading) → ◌≡◌ {A = Result (List E × Reading) Refused} (refused r n) (Ok q) → ⊥
  no_result r n q e = cc

  pub section-past : (xs ys : List E) (n : ℕ) (ls : List Line) (r : Reading) → section_from k take xs n ls ≡ Ok (ys, r) → next_of k r.lines ≡ None
  unfolding section_from first_line by_next
  section-past xs ys n [] r e = ap (λ (q : List E × Reading). next_of k q.1.lines) (sym (same (xs, record { number = n; lines = [] }) (ys, r) e))
  section-past xs ys n (l ∷ ls) r e = on (next_of k (l ∷ ls)) refl (sym (next xs n l ls) ∙ e) (λ zs h. section-past zs ys (n + 1) ls r h)
    where
      taken : (t : Result (List E) Refusal) → elim t as (λ (x : Result (List E) Refusal). Result (List E × Reading) Refused) [ Ok ys ↦ section_from k take ys (n + 1) ls | Err r ↦ refused r (n + 1) ] ≡ Ok (ys, r) → ((zs : List E) → section_from k take zs (n + 1) ls ≡ Ok (ys, r) → next_of k r.lines ≡ None) → next_of k r.lines ≡ None
      taken (Ok zs) h ih = ih zs h
      taken (Err x) h ih = absurd (no_result x (n + 1) (ys, r) h)

      on : (o : Option Frame) → next_of k (l ∷ ls) ≡ o → by_next xs n (l ∷ ls) ls o ≡ Ok (ys, r) → ((zs : List E) → section_from k take zs (n + 1) ls ≡ Ok (ys, r) → next_of k r.lines ≡ None) → next_of k r.lines ≡ None
      on None h q ih = ap (λ (p : List E × Reading). next_of k p.1.lines) (sym (same (xs, record { number = n; lines = l ∷ ls }) (ys, r) q)) ∙ h
      on (Some g) h q ih = taken (take xs (n + 1) g) q ih
