use Rattle.std.proofs.Common.{arith}
use Rattle.std.proofs.lemmas.Grind.{common_steps}
use Rattle.tables.specs.View.{view}
use Rattle.effect_rules.proofs.Laws.{argument}
use Rattle.effect_rules.proofs.site.Site.breaks_argument.Goals as goal

pub returns-in-CalledStatic : goal.returns-in-CalledStatic
returns-in-CalledStatic c = let s = c.args.self.now in grind (arith, common_steps, argument (view s.trust.now) s.number s.does c.args.parameter)

pub returns-in-Created : goal.returns-in-Created
returns-in-Created c = let s = c.args.self.now in grind (arith, common_steps, argument (view s.trust.now) s.number s.does c.args.parameter)
