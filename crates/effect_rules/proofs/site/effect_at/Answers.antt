use Rattle.effect_rules.proofs.Seeing.{effect-seen}
use Rattle.effect_rules.proofs.site.effect_at.Goals as goal

pub returns : goal.returns
returns c = rw c.effects.ensures.value (effect-seen c.args.tables.now c.effects.ensures.good c.args.number _ c.requires)
