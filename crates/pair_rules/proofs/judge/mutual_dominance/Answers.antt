use Rattle.std.proofs.Common.{arith}
use Rattle.pair_rules.proofs.judge.mutual_dominance.Goals as goal

pub judge-requires : goal.judge-requires
judge-requires c = omega (arith, c.domains.ensures.good.domains)
