-- The rules over effects by their names: the test of each, its second places, and its place in the order.
-- Assumes nothing.
use Rattle.std.specs.Prelude.{ℕ, Bool, length}
use Rattle.meaning.specs.Tables.{Package, params_of, named_by}
use Rattle.meaning.specs.Tests.{breaks26, breaks27, breaks28, breaks29, breaks30}
use Rattle.rules.specs.declared.Rule.{Rule}
use Rattle.rules.specs.declared.Rule.TheVariants.{DistrustedCreation, DistrustedType, DistrustedStaticCall, DistrustedInvocation, UngrantedArgument}
use Rattle.effect_rules.specs.declared.rule.EffectRule.{EffectRule}
use Rattle.effect_rules.specs.declared.site.Named.{Named}
use Rattle.effect_rules.specs.declared.rule.EffectRule.TheVariants.{Creation, Typing, StaticCall, Invocation, Argument}
use Rattle.effect_rules.specs.Sites.{arguments_of}

abbrev pub rule_of : EffectRule → Rule
rule_of Creation = DistrustedCreation
rule_of Typing = DistrustedType
rule_of StaticCall = DistrustedStaticCall
rule_of Invocation = DistrustedInvocation
rule_of Argument = UngrantedArgument

-- its place among the five
abbrev pub rank : EffectRule → ℕ
rank Creation = 0
rank Typing = 1
rank StaticCall = 2
rank Invocation = 3
rank Argument = 4

-- effect i breaks the rule, at the second place j
abbrev pub breaks_of : EffectRule → Package → ℕ → ℕ → Bool
breaks_of Creation = breaks26
breaks_of Typing = breaks27
breaks_of StaticCall = breaks28
breaks_of Invocation = breaks29
breaks_of Argument = breaks30

-- how many second places an effect has: the parameters of the method of its number, or one
abbrev pub seconds_of : EffectRule → Package → ℕ → ℕ
seconds_of Creation P i = 1
seconds_of Typing P i = 1
seconds_of StaticCall P i = 1
seconds_of Invocation P i = 1
seconds_of Argument P i = length (params_of P (named_by P i))

-- those at which what the effect does may break the rule: 30 looks at calls alone
abbrev pub places_of : EffectRule → Named → ℕ
places_of Creation named = 1
places_of Typing named = 1
places_of StaticCall named = 1
places_of Invocation named = 1
places_of Argument named = arguments_of named
