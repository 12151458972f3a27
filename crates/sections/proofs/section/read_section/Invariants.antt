use Rattle.std.proofs.Common.{◌≡◌, length}
use Rattle.sections.specs.Sections.{section}
use Rattle.sections.proofs.section.read_section.Given as goal

abbrev pub invariant-loop-frame : goal.invariant-loop-frame
invariant-loop-frame g l = section g.S.Section.SECTION (g.S.Section.take l.context) l.fn.store l.fn.lines ≡ section g.S.Section.SECTION (g.S.Section.take l.context) l.store l.lines

abbrev pub decreases-loop-frame : goal.decreases-loop-frame
decreases-loop-frame g l = length l.lines.lines
