use Rattle.std.proofs.lemmas.Result.{err_from_is_err_and}
use Rattle.runner.proofs.Ended.{run_short, run-broken, run-accepted}
use Rattle.runner.proofs.try_run.Goals as goal

pub returns-then-out-lt-BUFFER : goal.returns-then-out-lt-BUFFER
returns-then-out-lt-BUFFER c = run_short _ _ _ c.if-out-lt-BUFFER.true

pub accepted-requires : goal.accepted-requires
accepted-requires c = (c.args.package.now, c.read-reading.ensures.meaning)

pub returns-in_err-accepted : goal.returns-in_err-accepted
returns-in_err-accepted c =
    let p = err_from_is_err_and c.from_residual.result c.from_residual.ensures.1 in
    rw (p.1, p.2) (run-broken c.args.package.now _ _ c.if-out-lt-BUFFER.false _ (c.in_err-accepted.ensures.meaning c.args.package.now c.read-reading.ensures.meaning))

pub returns : goal.returns
returns c = run-accepted _ _ _ c.if-out-lt-BUFFER.false _ (c.in_ok-accepted.ensures.meaning c.args.package.now c.read-reading.ensures.meaning) c.run_script.ensures
