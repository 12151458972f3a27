-- A section, one line further on.
use Rattle.std.proofs.Common.{◌≡◌, ℕ, ◌+◌, ◌<◌, List, [], ◌∷◌, length, Option, Some, None, Result, Ok, Err, refl, sym, ap, arith}
use Rattle.std.proofs.Math.Option.{none, some}
use Rattle.std.proofs.Math.Option as M
use Rattle.meaning.specs.Text.{Line, frame_of}
use Rattle.text.specs.declared.frame.Frame.{Frame}
use Rattle.text.specs.Reading.{Reading, framed, first_line, lines_past, past, next_of, of_section}
use Rattle.text.specs.declared.lines.BadLine.{BadLine}
use Rattle.sections.specs.declared.refusal.Refusal.{Refusal}
use Rattle.sections.specs.declared.refusal.Refusal.TheVariants.{NoEnd}
use Rattle.sections.specs.declared.refusal.Refusal.TheVariants.{BadLine as BadLine'}
use Rattle.sections.specs.declared.refusal.Refused.{Refused}
use Rattle.sections.specs.Sections.{section, section_from, refused, next_frame}

-- a line that is taken has a frame, and the others are left
pub past-taken : (k : ℕ) (l : Line) (ls : List Line) (f : Frame) → next_of k (l ∷ ls) ≡ Some f → lines_past (l ∷ ls) ≡ ls
unfolding first_line lines_past
past-taken k l ls f e = on (frame_of l) e
  where
    on : (o : M.Option (List ℕ)) → of_section k (Some (framed o)) ≡ Some f → elim o as (λ (x : M.Option (List ℕ)). List Line) [ none ↦ [] | some f ↦ ls ] ≡ ls
    on none h = cc
    on (some g) h = refl

none-left : (k : ℕ) (f : Frame) → next_of k [] ≡ Some f → ⊥
unfolding first_line
none-left k f e = cc

module _ {S : Type 0} (k : ℕ) (take : S → ℕ → Frame → Result S Refusal) (store : S) (r : Reading) where
  pub section-more : (f : Frame) (more : S) → next_of k r.lines ≡ Some f → take store (r.number + 1) f ≡ Ok more → section k take store r ≡ section k take more (past r)
  unfolding section_from
  section-more f more e good = on r.lines e
    where
      on : (ls : List Line) → next_of k ls ≡ Some f → section_from k take store r.number ls ≡ section_from k take more (r.number + 1) (lines_past ls)
      on [] h = absurd (none-left k f h)
      on (l ∷ ls) h = rw (section_from, h, good, past-taken k l ls f h)

  pub section-refused : (f : Frame) (refusal : Refusal) → next_of k r.lines ≡ Some f → take store (r.number + 1) f ≡ Err refusal → section k take store r ≡ refused refusal (r.number + 1)
  unfolding section_from
  section-refused f refusal e bad = on r.lines e
    where
      on : (ls : List Line) → next_of k ls ≡ Some f → section_from k take store r.number ls ≡ refused refusal (r.number + 1)
      on [] h = absurd (none-left k f h)
      on (l ∷ ls) h = rw (section_from, h, bad)

  pub section-none : next_of k r.lines ≡ None → section k take store r ≡ Ok (store, r)
  unfolding section_from
  section-none e = on r.lines e
    where
      on : (ls : List Line) → next_of k ls ≡ None → section_from k take store r.number ls ≡ Ok (store, record { number = r.number; lines = ls })
      on [] h = refl
      on (l ∷ ls) h = rw (section_from, h)

-- a line that is taken leaves fewer
pub fewer : (k : ℕ) (ls : List Line) (f : Frame) → next_of k ls ≡ Some f → length (lines_past ls) < length ls
fewer k [] f e = absurd (none-left k f e)
fewer k (l ∷ ls) f e = rw (past-taken k l ls f e) (omega arith)

-- where no line is next, none is left
none-next : (ls : List Line) → first_line ls ≡ None → ls ≡ []
unfolding first_line
none-next [] e = refl
none-next (l ∷ ls) e = cc

next-past : (r s : Reading) (f : Frame) → next_frame r ≡ Ok (f, s) → s ≡ past r
next-past r s f e = on (first_line r.lines) e
  where
    on : (o : Option (Result Frame BadLine)) → elim o as (λ (x : Option (Result Frame BadLine)). Result (Frame × Reading) Refused) [
      | Some line ↦ elim line [ Ok g ↦ Ok (g, past r) | Err x ↦ refused BadLine' (r.number + 1) ]
      | None ↦ refused NoEnd (r.number + 1)
    ] ≡ Ok (f, s) → s ≡ past r
    on (Some (Ok g)) h = let q : (g, past r) ≡ (f, s) = cc in sym (ap (λ (p : Frame × Reading). p.1) q)
    on (Some (Err x)) h = cc
    on None h = cc

-- behind a line that is read, and that no line is behind, none is left
pub last_read : (r s : Reading) (f : Frame) → next_frame r ≡ Ok (f, s) → first_line s.lines ≡ None → s ≡ record { number = r.number + 1; lines = [] }
last_read r s f e n = let p = next-past r s f e in let q = none-next s.lines n in λ i. record { number = (p i).number; lines = q i }

pub ruleset steps = (section-more, section-refused, section-none, fewer)
