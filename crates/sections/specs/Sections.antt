-- The next frames of a text, handed to a store; and what has to stand at a place.
use Rattle.std.specs.Prelude.{ℕ, ◌+◌, Bool, cond, eqb, List, [], ◌∷◌, Some, None, Result, Ok, Err}
use Rattle.meaning.specs.Text.{Line, byte}
use Rattle.text.specs.declared.frame.Frame.{Frame}
use Rattle.text.specs.Kinds.{fits_frame}
use Rattle.text.specs.Reading.{Reading, first_line, past, next_of}
use Rattle.sections.specs.declared.refusal.Refusal.{Refusal}
use Rattle.sections.specs.declared.refusal.Refusal.TheVariants.{BadLine, BadKind, BadLength, NoEnd}
use Rattle.sections.specs.declared.refusal.Refused.{Refused}

abbrev pub refused : {A : Type 0} → Refusal → ℕ → Result A Refused
refused refusal line = Err (record { refusal = refusal; line = line })

-- refused with this unless the test passes
abbrev pub unless : {A : Type 0} → Bool → Refusal → ℕ → Result A Refused → Result A Refused
unless passes refusal line next = cond passes next (refused refusal line)

-- what is read goes on, and a refusal stays
abbrev pub and_then : {A B : Type 0} → Result A Refused → (A → Result B Refused) → Result B Refused
and_then (Ok x) go = go x
and_then (Err r) go = Err r

-- the next line, which has to be there
abbrev pub next_frame : Reading → Result (Frame × Reading) Refused
next_frame r = elim (first_line r.lines) [
  | Some line ↦ elim line [ Ok f ↦ Ok (f, past r) | Err e ↦ refused BadLine (r.number + 1) ]
  | None ↦ refused NoEnd (r.number + 1)
]

-- nothing is left
abbrev pub nothing : Reading → Result (Unit {0}) Refused
nothing r = elim (first_line r.lines) [
  | Some line ↦ elim line [ Ok f ↦ refused BadKind (r.number + 1) | Err e ↦ refused BadLine (r.number + 1) ]
  | None ↦ Ok tt
]

-- the last line, of this kind
abbrev pub ending : ℕ → Reading → Result (Unit {0}) Refused
ending kind start = and_then (next_frame start) (λ p.
    unless (eqb (byte p.0.bytes 0) kind) BadKind p.1.number (unless (fits_frame p.0) BadLength p.1.number (nothing p.1)))

module _ {S : Type 0} (number : ℕ) (take : S → ℕ → Frame → Result S Refusal) where
  -- the frames of this section that come next, behind so many lines: the store that took them, and what is left
  unfoldable pub section_from : S → ℕ → List Line → Result (S × Reading) Refused
  section_from store n [] = Ok (store, record { number = n; lines = [] })
  section_from store n (l ∷ ls) =
      elim (next_of number (l ∷ ls)) [
        | Some f ↦ elim (take store (n + 1) f) [
          | Ok more ↦ section_from more (n + 1) ls
          | Err refusal ↦ refused refusal (n + 1)
        ]
        | None ↦ Ok (store, record { number = n; lines = l ∷ ls })
      ]

  abbrev pub section : S → Reading → Result (S × Reading) Refused
  section store r = section_from store r.number r.lines
