use Rattle.effect_rules.proofs.Seeing.{method-seen}
use Rattle.effect_rules.proofs.site.method_at.Goals as goal

pub returns : goal.returns
returns c = method-seen c.args.tables.now c.methods.ensures.good c.args.number _ _ c.requires (rw (c.methods.ensures.value, c.from.ensures) at c.index-methods-from.is)
