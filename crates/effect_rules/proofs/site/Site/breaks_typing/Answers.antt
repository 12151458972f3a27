use Rattle.std.proofs.Common.{arith}
use Rattle.std.proofs.lemmas.Grind.{common_steps}
use Rattle.tables.specs.View.{view}
use Rattle.effect_rules.proofs.Laws.{typing}
use Rattle.effect_rules.proofs.site.Site.breaks_typing.Goals as goal

pub returns-in-Created : goal.returns-in-Created
returns-in-Created c = λ second. let s = c.args.self.now in grind (arith, common_steps, typing (view s.trust.now) s.number s.does second)

pub returns-in-Read : goal.returns-in-Read
returns-in-Read c = λ second. let s = c.args.self.now in grind (arith, common_steps, typing (view s.trust.now) s.number s.does second)

pub returns-in-Written : goal.returns-in-Written
returns-in-Written c = λ second. let s = c.args.self.now in grind (arith, common_steps, typing (view s.trust.now) s.number s.does second)

pub returns-in-None : goal.returns-in-None
returns-in-None c = λ second. let s = c.args.self.now in grind (arith, common_steps, typing (view s.trust.now) s.number s.does second)

pub returns-in-Some : goal.returns-in-Some
returns-in-Some c = λ second. let s = c.args.self.now in grind (arith, common_steps, typing (view s.trust.now) s.number s.does second)
