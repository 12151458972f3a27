use Rattle.std.proofs.Common.{◌≤◌, ap, sym, arith}
use Rattle.text.specs.Kinds.{kind_in}
use Rattle.text.proofs.Rows.{table-row, row-unknown}
use Rattle.text.proofs.kinds.Kind.of.Goals as goal

pub returns-then-place-lt48 : goal.returns-then-place-lt48
returns-then-place-lt48 c = rw c.from-place.ensures (table-row c.args.number)

pub returns-else-place-lt48 : goal.returns-else-place-lt48
returns-else-place-lt48 c = let h : 48 ≤ c.args.number = omega (arith, c.if-place-lt48.false, c.from-place.ensures) in ap kind_in (sym (row-unknown c.args.number h))
