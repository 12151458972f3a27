use Rattle.std.proofs.Common.{refl}
use Rattle.std.proofs.lemmas.Result.{err_from_is_err_and}
use Rattle.script.proofs.Chains.{and-ok, and-err}
use Rattle.script.proofs.reading.read_whole.Goals as goal

pub returns : goal.returns
returns c = and-ok _ c.in_ok-read_entry.ensures (rw (← c.begin.ensures) (and-ok _ c.in_ok-read_start.ensures (and-ok _ c.in_ok-read_section.ensures (and-ok _ c.in_ok-read_end.ensures.end refl))))

pub returns-in_err-read_start : goal.returns-in_err-read_start
returns-in_err-read_start c =
    let p = err_from_is_err_and c.from_residual-in_err-read_start.result c.from_residual-in_err-read_start.ensures.1 in
    rw (p.1, p.2) (and-ok _ c.in_ok-read_entry.ensures (rw (← c.begin.ensures) (and-err _ c.in_err-read_start.ensures)))

pub returns-in_err-read_section : goal.returns-in_err-read_section
returns-in_err-read_section c =
    let p = err_from_is_err_and c.from_residual-in_err-read_section.result c.from_residual-in_err-read_section.ensures.1 in
    rw (p.1, p.2) (and-ok _ c.in_ok-read_entry.ensures (rw (← c.begin.ensures) (and-ok _ c.in_ok-read_start.ensures (and-err _ c.in_err-read_section.ensures))))

pub returns-in_err-read_end : goal.returns-in_err-read_end
returns-in_err-read_end c =
    let p = err_from_is_err_and c.from_residual-in_err-read_end.result c.from_residual-in_err-read_end.ensures.1 in
    rw (p.1, p.2) (and-ok _ c.in_ok-read_entry.ensures (rw (← c.begin.ensures) (and-ok _ c.in_ok-read_start.ensures (and-ok _ c.in_ok-read_section.ensures (and-err _ c.in_err-read_end.ensures.end)))))
