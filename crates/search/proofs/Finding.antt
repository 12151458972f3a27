-- What the nested loops know of the pairs before theirs says what `meaning`'s search finds.
-- Assumes nothing.
use Rattle.std.proofs.Common.{◌≡◌, ℕ, zero, suc, ◌<◌, Bool, true, false, Some, None, sym, ap, subst, add-one, le_refl, arith}
use Rattle.meaning.specs.Lists.{first_place}
use Rattle.meaning.proofs.Search.{Clear, ClearRow, clear_none, row-none, row_more, clear-more, pair-none, pair-hit}
use Rattle.search.specs.Pairs.{pair_of}

module _ {test : ℕ → ℕ → Bool} where
  row-clear : (a b : ℕ) → ((c : ℕ) → c < b → test a c ≡ false) → ClearRow test a b
  row-clear a zero clear = row-none
  row-clear a (suc b) clear = subst (ClearRow test a) (add-one b) (row_more (row-clear a b (λ c l. clear c (omega arith))) (clear b (omega arith)))

  rows-clear : (n a : ℕ) → ((c d : ℕ) → c < a → d < n → test c d ≡ false) → Clear (λ _. n) test a
  rows-clear n zero clear = clear_none
  rows-clear n (suc a) clear = subst (Clear (λ _. n) test) (add-one a) (clear-more (rows-clear n a (λ c d l. clear c d (omega arith))) (le_refl n) (le_refl n) (row-clear a n (λ d l. clear a d (omega arith) l)))

-- no pair at all
pub found_none : (test : ℕ → ℕ → Bool) (n : ℕ) → ((c d : ℕ) → c < n → d < n → test c d ≡ false) → None ≡ pair_of (first_place n (λ _. n) test)
found_none test n clear = ap pair_of (sym (pair-none (le_refl n) (le_refl n) (rows-clear n n clear)))

-- this pair, and none before it
pub found_some : (test : ℕ → ℕ → Bool) (n a b : ℕ) → a < n → b < n → ((c d : ℕ) → c < a → d < n → test c d ≡ false) → ((d : ℕ) → d < b → test a d ≡ false) → test a b ≡ true → Some (a, b) ≡ pair_of (first_place n (λ _. n) test)
found_some test n a b a_below b_below rows row broken = ap pair_of (sym (pair-hit a_below b_below (rows-clear n a rows) (row-clear a b row) broken))
