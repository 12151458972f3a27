-- What the nested loops know of the places before theirs says what `meaning`'s search finds.
-- Assumes nothing.
use Rattle.std.proofs.Common.{◌≡◌, ℕ, zero, suc, ◌<◌, Bool, true, false, Some, sym, ap, subst, add-one, le_refl, arith, length}
use Rattle.meaning.specs.Tables.{Package}
use Rattle.meaning.proofs.Search.{Clear, ClearRow, clear_none, row-none, row_more, clear-more, pair-none, pair-hit}
use Rattle.search.specs.Pairs.{pair_of}
use Rattle.effect_rules.specs.declared.rule.EffectRule.{EffectRule}
use Rattle.effect_rules.specs.Rules.{breaks_of, seconds_of}
use Rattle.effect_rules.specs.Search.{first_effect}

module _ {test : ℕ → ℕ → Bool} where
  row-clear : (a b : ℕ) → ((d : ℕ) → d < b → test a d ≡ false) → ClearRow test a b
  row-clear a zero clear = row-none
  row-clear a (suc b) clear = subst (ClearRow test a) (add-one b) (row_more (row-clear a b (λ d l. clear d (omega arith))) (clear b (omega arith)))

  rows-clear : (m : ℕ → ℕ) (a : ℕ) → ((c d : ℕ) → c < a → d < m c → test c d ≡ false) → Clear m test a
  rows-clear m zero clear = clear_none
  rows-clear m (suc a) clear = subst (Clear m test) (add-one a) (clear-more (rows-clear m a (λ c d l. clear c d (omega arith))) (le_refl (m a)) (le_refl (m a)) (row-clear a (m a) (λ d l. clear a d (omega arith) l)))

module _ (rule : EffectRule) (P : Package) where
  -- no place at all
  pub none_first : ((i j : ℕ) → i < length P.effects → j < seconds_of rule P i → breaks_of rule P i j ≡ false) → first_effect rule P ≡ Rattle.std.proofs.Math.Option.none
  none_first clear = pair-none (le_refl _) (le_refl _) (rows-clear (seconds_of rule P) (length P.effects) clear)

  -- this place, and none before it
  pub some_first : (i j : ℕ) → i < length P.effects → j < seconds_of rule P i → ((c d : ℕ) → c < i → d < seconds_of rule P c → breaks_of rule P c d ≡ false) → ((d : ℕ) → d < j → breaks_of rule P i d ≡ false) → breaks_of rule P i j ≡ true → Some (i, j) ≡ pair_of (first_effect rule P)
  some_first i j l h rows row broken = ap pair_of (sym (pair-hit l h (rows-clear (seconds_of rule P) i rows) (row-clear i j row) broken))
