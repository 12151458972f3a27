use Rattle.pair_rules.proofs.Judged.{answered_is}
use Rattle.pair_rules.proofs.judge.domain_rules.Goals as goal

pub returns : goal.returns
returns c = answered_is _ c.mutual_dominance.ensures
