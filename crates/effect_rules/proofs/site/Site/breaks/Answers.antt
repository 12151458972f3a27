use Rattle.effect_rules.proofs.site.Site.breaks.Goals as goal

pub returns-in-Creation : goal.returns-in-Creation
returns-in-Creation c = rw c.in-Creation.is (c.breaks_creation.ensures c.args.second)

pub returns-in-Typing : goal.returns-in-Typing
returns-in-Typing c = rw c.in-Typing.is (c.breaks_typing.ensures c.args.second)

pub returns-in-StaticCall : goal.returns-in-StaticCall
returns-in-StaticCall c = rw c.in-StaticCall.is (c.breaks_static_call.ensures c.args.second)

pub returns-in-Invocation : goal.returns-in-Invocation
returns-in-Invocation c = rw c.in-Invocation.is (c.breaks_invocation.ensures c.args.second)
