use Rattle.pair_rules.proofs.Places.{found_small}
use Rattle.pair_rules.proofs.Judged.{says_one}
use Rattle.pair_rules.proofs.judge.judge.Goals as goal

pub broken-requires : goal.broken-requires
broken-requires g c = rw c.first_broken.ensures (found_small _ _ c.requires)

pub returns : goal.returns
returns g c = rw (c.broken.ensures, c.first_broken.ensures) (says_one c.args.name _)
