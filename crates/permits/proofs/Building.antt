-- The chains of the effects met so far, with one effect more.
-- Assumes nothing.
use Rattle.std.proofs.Common.{◌≡◌, ℕ, suc, ◌+◌, ◌<◌, ◌≢◌, cond, Option, Some, None, List, length, get_or, set, replicate, sym, ap, ◌∙◌, arith, get_or-set_same, get_or-set_other, add-one}
use Rattle.std.specs.Prelude.{eqb}
use native.Mathlib.Decide.{ℕ_discrete}
use borrow.Author.Tests.{eq-eqb, ne_eqb}
use Rattle.std.proofs.lemmas.List.{get_or-replicate}
use Rattle.meaning.specs.Tables.{Package}
use Rattle.tables.specs.declared.elements.Effect.{Effect}
use Rattle.permits.specs.Chains.{group_of, no_effect, newest_of}
use Rattle.permits.specs.Chained.{Chained}

pub chained-none : (P : Package) (es : List Effect) (before : List (Option ℕ)) → Chained P es 0 (replicate 2048 None) before
unfolding newest_of
chained-none P es before = record { newest_is = λ g h. get_or-replicate 2048 g None None h; before_is = λ i h. absurd (omega arith) }

module _ (P : Package) (es : List Effect) (n : ℕ) (newest before : List (Option ℕ)) (c : Chained P es n newest before) where
  module _ (g : ℕ) (e : g ≡ group_of P (get_or es n no_effect)) (h : g < length newest) (k : n < length before) (l : g < 2048) where
    newest-one : (g' : ℕ) → g' < 2048 → get_or (set newest g (Some n)) g' None ≡ newest_of P es g' (suc n)
    unfolding newest_of
    newest-one g' h' = on (ℕ_discrete (group_of P (get_or es n no_effect)) g')
      where
        on : Dec (group_of P (get_or es n no_effect) ≡ g') → get_or (set newest g (Some n)) g' None ≡ cond (eqb (group_of P (get_or es n no_effect)) g') (Some n) (newest_of P es g' n)
        on (yes q) = let same : g ≡ g' = e ∙ q in rw (eq-eqb (group_of P (get_or es n no_effect)) g' q, ← same) (rw get_or-set_same)
        on (no u) = let other : g' ≢ g = λ q. u (sym e ∙ sym q) in rw (ne_eqb (group_of P (get_or es n no_effect)) g' u, get_or-set_other) (c.newest_is g' h')

    before-one : (i : ℕ) → i < suc n → get_or (set before n (get_or newest g None)) i None ≡ newest_of P es (group_of P (get_or es i no_effect)) i
    before-one i h' = on (ℕ_discrete i n)
      where
        on : Dec (i ≡ n) → get_or (set before n (get_or newest g None)) i None ≡ newest_of P es (group_of P (get_or es i no_effect)) i
        on (yes q) = rw (q, get_or-set_same) (c.newest_is g l ∙ ap (λ (x : ℕ). newest_of P es x n) e)
        on (no u) = rw get_or-set_other (c.before_is i (omega arith))

    pub chained-one : Chained P es (n + 1) (set newest g (Some n)) (set before n (get_or newest g None))
    chained-one = rw add-one (record { newest_is = newest-one; before_is = before-one })
