-- A text as the tables that it holds, section by section, or as its first refusal.
-- Assumes nothing.
use Rattle.std.specs.Prelude.{ℕ, Bool, ◌&&◌, cond, List, [], eqb, leb, length, Result, Ok, Err}
use Rattle.meaning.specs.Text.{lines_of}
use Rattle.meaning.specs.Reading as M
use Rattle.text.specs.declared.frame.Frame.{Frame}
use Rattle.text.specs.Reading.{Reading}
use Rattle.sections.specs.declared.refusal.Refusal.TheVariants.{TooLong, BadHeader, BadGeneration}
use Rattle.sections.specs.declared.refusal.Refused.{Refused}
use Rattle.sections.specs.Refusals.{number_of}
use Rattle.sections.specs.Sections.{refused, unless, and_then, next_frame, ending, section}
use Rattle.tables.specs.Contents.{Contents}
use Rattle.tables.specs.View.{view}
use Rattle.package.specs.Judging.{at, pair_declared, class_declared, field_declared, method_declared, effect_declared}
use Rattle.package.specs.Elements.{pair_in, class_in, field_in, method_in, effect_in}
use Rattle.package.specs.Taking.{taken}

-- 01 02 nd, with 1 to 32 domains: how many there are, and what is left
abbrev pub header : Reading → Result (ℕ × Reading) Refused
header start = and_then (next_frame start) (λ p.
    unless (((eqb p.0.length 3 && eqb (at p.0 0) 1) && leb 1 (at p.0 2)) && leb (at p.0 2) 32) BadHeader p.1.number
    (unless (eqb (at p.0 1) 2) BadGeneration p.1.number (Ok (at p.0 2, p.1))))

-- what is read of a text, in `meaning`'s words
abbrev pub reading_of : Result Contents Refused → M.Reading
reading_of (Ok t) = M.is_read (view t)
reading_of (Err r) = M.is_refused (M.answer (number_of r.refusal) r.line 0)

-- the section of the kind k: the elements of a table, where each is declared, and what is left
abbrev pub elements : {E : Type 0} → ℕ → ℕ → (ℕ → Frame → Bool) → (Frame → E) → Reading → Result (List E × Reading) Refused
elements k limit declared of r = section k (λ xs line f. taken limit (declared (length xs) f) (of f) xs f) [] r

-- sections come in the order of their kinds
unfoldable pub read_sections : List ℕ → Result Contents Refused
read_sections s =
    cond (leb (length s) 32768)
    (and_then (header (record { number = 0; lines = lines_of s })) (λ h.
    and_then (elements 2 128 (pair_declared h.0) pair_in h.1) (λ p.
    and_then (elements 3 127 (class_declared h.0) class_in p.1) (λ c.
    and_then (elements 4 256 (field_declared (length c.0)) field_in c.1) (λ f.
    and_then (elements 5 256 (method_declared h.0 (length c.0)) method_in f.1) (λ m.
    and_then (elements 6 1024 (effect_declared (length c.0) f.0 m.0) effect_in m.1) (λ e.
    and_then (ending 7 e.1) (λ _.
    Ok (record { generation = 2; domains = h.0; pairs = p.0; classes = c.0; fields = f.0; methods = m.0; effects = e.0 })))))))))
    (refused TooLong 0)
