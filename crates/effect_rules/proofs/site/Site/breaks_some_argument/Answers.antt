use Rattle.std.proofs.Common.{sym, ◌∙◌, rules}
use Rattle.tables.specs.View.{view}
use Rattle.effect_rules.proofs.Together.{argument-some, argument-none}
use Rattle.effect_rules.proofs.site.Site.breaks_some_argument.Goals as goal

pub returns-then-breaks_argument : goal.returns-then-breaks_argument
returns-then-breaks_argument c =
    let s = c.args.self.now in
    sym (argument-some (view s.trust.now) s.number c.loop-parameter.parameter (search rules) (sym c.breaks_argument.ensures ∙ c.if-breaks_argument.true))

pub returns : goal.returns
returns c =
    let s = c.args.self.now in
    sym (argument-none (view s.trust.now) s.number c.loop-parameter.parameter c.loop-parameter.invariant (search rules))
