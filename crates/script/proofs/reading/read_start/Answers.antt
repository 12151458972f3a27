use Rattle.std.proofs.lemmas.Result.{err_from_is_err_and}
use Rattle.script.proofs.Chains.{and-ok, and-err}
use Rattle.script.proofs.reading.read_start.Goals as goal

pub returns : goal.returns
returns c = and-ok _ c.in_ok-read_section.ensures (and-ok _ c.in_ok-read_links.ensures (and-ok _ c.in_ok-read_links-2.ensures c.in_ok-read_section-2.ensures))

pub returns-in_err-read_links : goal.returns-in_err-read_links
returns-in_err-read_links c =
    let p = err_from_is_err_and c.from_residual-in_err-read_links.result c.from_residual-in_err-read_links.ensures.1 in
    rw (p.1, p.2) (and-ok _ c.in_ok-read_section.ensures (and-err _ c.in_err-read_links.ensures))

pub returns-in_err-read_links-2 : goal.returns-in_err-read_links-2
returns-in_err-read_links-2 c =
    let p = err_from_is_err_and c.from_residual-in_err-read_links-2.result c.from_residual-in_err-read_links-2.ensures.1 in
    rw (p.1, p.2) (and-ok _ c.in_ok-read_section.ensures (and-ok _ c.in_ok-read_links.ensures (and-err _ c.in_err-read_links-2.ensures)))

pub returns-in_err-read_section-2 : goal.returns-in_err-read_section-2
returns-in_err-read_section-2 c =
    let p = err_from_is_err_and c.from_residual-in_err-read_section-2.result c.from_residual-in_err-read_section-2.ensures.1 in
    rw (p.1, p.2) (and-ok _ c.in_ok-read_section.ensures (and-ok _ c.in_ok-read_links.ensures (and-ok _ c.in_ok-read_links-2.ensures c.in_err-read_section-2.ensures)))
