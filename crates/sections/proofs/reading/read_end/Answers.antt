use Rattle.std.proofs.Common.{◌≡◌, ◌+◌, ◌∙◌, [], sym, ap}
use Rattle.text.specs.Reading.{Reading}
use Rattle.sections.proofs.SectionLemmas.{last_read}
use Rattle.sections.proofs.reading.read_end.Goals as goal

pub returns-in-None-clause-behind : goal.returns-in-None-clause-behind
returns-in-None-clause-behind c =
    c.in-None.ensures.behind
    ∙ last_read c.ahead-ahead.result c.next_frame.new.lines c.in_ok-frame.frame c.in_ok-frame.ensures.next (sym c.in-None.ensures.line)
    ∙ ap (λ (r : Reading). record { number = r.number + 1; lines = [] }) c.ahead-ahead.ensures
