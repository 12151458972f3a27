-- The search over effects: the lowest rule that is broken, and its first place.
-- Assumes nothing.
use Rattle.std.specs.Prelude.{ℕ, zero, suc, Bool, cond, Option, Some, None, ltb, length}
use Rattle.std.proofs.Math.Option as Math
use Rattle.meaning.specs.Lists.{Place, first_place, any_below}
use Rattle.meaning.specs.Tables.{Package}
use Rattle.effect_rules.specs.declared.rule.EffectRule.{EffectRule}
use Rattle.effect_rules.specs.declared.rule.EffectRule.TheVariants.{Creation, Typing, StaticCall, Invocation, Argument}
use Rattle.effect_rules.specs.declared.pass.Lowest.{Lowest}
use Rattle.effect_rules.specs.Rules.{rank, breaks_of, seconds_of}

-- the rule is broken at effect i
unfoldable pub broken_at : EffectRule → Package → ℕ → Bool
broken_at rule P i = any_below (seconds_of rule P i) (breaks_of rule P i)

-- the lowest rule that is broken at effect i
unfoldable pub lowest_at : Package → ℕ → Option EffectRule
lowest_at P i =
    cond (broken_at Creation P i) (Some Creation)
    (cond (broken_at Typing P i) (Some Typing)
    (cond (broken_at StaticCall P i) (Some StaticCall)
    (cond (broken_at Invocation P i) (Some Invocation)
    (cond (broken_at Argument P i) (Some Argument) None))))

-- what was lowest, or a rule at effect i where that is lower
abbrev pub lower : Option Lowest → Option EffectRule → ℕ → Option Lowest
lower low None i = low
lower None (Some rule) i = Some (record { rule = rule; effect = i })
lower (Some low) (Some rule) i = cond (ltb (rank rule) (rank low.rule)) (Some (record { rule = rule; effect = i })) (Some low)

-- the lowest rule that is broken at one of the first n effects, and the first that breaks it
unfoldable pub lowest_in : Package → ℕ → Option Lowest
unfolding lowest_at
lowest_in P zero = None
lowest_in P (suc n) = lower (lowest_in P n) (lowest_at P n) n

abbrev pub first_effect : EffectRule → Package → Math.Option Place
first_effect rule P = first_place (length P.effects) (seconds_of rule P) (breaks_of rule P)
