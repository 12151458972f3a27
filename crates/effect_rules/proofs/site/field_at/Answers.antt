use Rattle.std.proofs.Common.{refl}
use Rattle.effect_rules.proofs.Seeing.{field-seen}
use Rattle.effect_rules.proofs.site.field_at.Goals as goal

pub returns : goal.returns
returns c = rw (c.fields.ensures.value, c.from.ensures) (field-seen c.args.tables.now c.fields.ensures.good c.args.number _ _ c.requires refl)
