use Rattle.pair_rules.proofs.Places.{found_small}
use Rattle.pair_rules.proofs.Judged.{says_one}
use Rattle.pair_rules.proofs.judge.judge_in.Goals as goal

pub broken-requires : goal.broken-requires
broken-requires g c = rw c.first_broken_in.ensures (found_small _ _ c.requires.few)

pub returns : goal.returns
returns g c = rw (c.broken.ensures, c.first_broken_in.ensures) (says_one c.args.name _)
