-- A walk along the chain of a group finds what a search among all effects finds.
-- Assumes nothing.
use Rattle.std.proofs.Common.{◌≡◌, ℕ, zero, suc, ◌<◌, ◌≤◌, Bool, true, false, ◌||◌, cond, Option, Some, None, List, [], ◌∷◌, map, length, get_or, take, refl, sym, ap, subst, ◌∙◌, arith}
use Rattle.std.specs.Prelude.{MatchOption, eqb}
use Rattle.std.specs.List.{list_any}
use native.Mathlib.Decide.{ℕ_discrete}
use borrow.Author.Tests.{eq-eqb, ne_eqb}
use Rattle.meaning.specs.Lists.{any}
use Rattle.meaning.specs.Tables as M
use Rattle.meaning.specs.Tables.{Package}
use Rattle.meaning.proofs.Bools.{fails-false, passes-true}
use Rattle.tables.specs.declared.elements.Effect.{Effect}
use Rattle.tables.specs.declared.elements.Operation.{Operation}
use Rattle.tables.specs.declared.elements.Operation.TheVariants.{New, CheckCast, GetStatic, PutStatic, GetField, PutField, InvokeStatic, InvokeMethod}
use Rattle.tables.specs.View.{effect_view, operation_number}
use Rattle.permits.specs.Chains.{group_of, no_effect, newest_of}
use Rattle.permits.specs.Wanted.{passes}

pub operation-small : (o : Operation) → operation_number o < 8
operation-small New = omega arith
operation-small CheckCast = omega arith
operation-small GetStatic = omega arith
operation-small PutStatic = omega arith
operation-small GetField = omega arith
operation-small PutField = omega arith
operation-small InvokeStatic = omega arith
operation-small InvokeMethod = omega arith

-- ---- a search over effects as the tables hold them

any-map : (f : M.Effect → Bool) (es : List Effect) → any f (map effect_view es) ≡ any (λ e. f (effect_view e)) es
unfolding any
any-map f [] = refl
any-map f (e ∷ es) = ap (λ b. f (effect_view e) || b) (any-map f es)

pub list-any-is : (f : M.Effect → Bool) (es : List Effect) → list_any (λ e. f (effect_view e)) es ≡ any f (map effect_view es)
unfolding any
list-any-is f [] = refl
list-any-is f (e ∷ es) = ap (λ b. f (effect_view e) || b) (list-any-is f es)

any-all : (f : Effect → Bool) (es : List Effect) → any f (take (length es) es) ≡ any f es
unfolding any
any-all f [] = refl
any-all f (e ∷ es) = ap (λ b. f e || b) (any-all f es)

-- one effect more
any-more : (f : Effect → Bool) (es : List Effect) (n : ℕ) → n < length es → any f (take (suc n) es) ≡ (f (get_or es n no_effect) || any f (take n es))
unfolding any
any-more f [] n h = absurd (omega arith)
any-more f (e ∷ es) zero h = refl
any-more f (e ∷ es) (suc n) h =
    ap (λ b. f e || b) (any-more f es n (omega arith))
    ∙ swapped (f e) (f (get_or es n no_effect)) (any f (take n es))
  where
    swapped : (a b c : Bool) → (a || (b || c)) ≡ (b || (a || c))
    swapped true true c = refl
    swapped true false c = refl
    swapped false b c = refl

module _ (P : Package) (m op : ℕ) (test : ℕ → Bool) (g : ℕ) (es : List Effect) where
  abbrev pub f : Effect → Bool
  f e = passes m op test (effect_view e)

  -- where a walk stands: at an effect of the group, and all that passes is this one or before it
  abbrev pub Stands : Option ℕ → Type 0
  Stands at = MatchOption at (any f es ≡ false) (λ i. (i < length es) × (group_of P (get_or es i no_effect) ≡ g) × (any f es ≡ (f (get_or es i no_effect) || any f (take i es))))

  module _ (together : (e : Effect) → f e ≡ true → group_of P e ≡ g) where
    outside : (e : Effect) → (group_of P e ≡ g → ⊥) → f e ≡ false
    outside e n = fails-false (f e) (λ p. n (together e (passes-true (f e) p)))

    pub stands-at : (n : ℕ) → n ≤ length es → any f es ≡ any f (take n es) → Stands (newest_of P es g n)
    unfolding newest_of any
    stands-at zero h e = e
    stands-at (suc n) h e =
        let more : any f es ≡ (f (get_or es n no_effect) || any f (take n es)) = e ∙ any-more f es n (omega arith) in
        on (ℕ_discrete (group_of P (get_or es n no_effect)) g) more
        (λ u. stands-at n (omega arith) (more ∙ ap (λ b. b || any f (take n es)) (outside (get_or es n no_effect) u)))
      where
        on : Dec (group_of P (get_or es n no_effect) ≡ g)
            → any f es ≡ (f (get_or es n no_effect) || any f (take n es))
            → ((group_of P (get_or es n no_effect) ≡ g → ⊥) → Stands (newest_of P es g n))
            → Stands (cond (eqb (group_of P (get_or es n no_effect)) g) (Some n) (newest_of P es g n))
        on (yes q) more before = rw (eq-eqb (group_of P (get_or es n no_effect)) g q) (omega arith, q, more)
        on (no u) more before = rw (ne_eqb (group_of P (get_or es n no_effect)) g u) (before u)

    -- the whole group
    pub stands-first : Stands (newest_of P es g (length es))
    stands-first = stands-at (length es) (omega arith) (sym (any-all f es))

    pub onward : (i : ℕ) → Stands (Some i) → f (get_or es i no_effect) ≡ false → Stands (newest_of P es (group_of P (get_or es i no_effect)) i)
    onward i w e =
        subst (λ (h : ℕ). Stands (newest_of P es h i)) (sym w.1)
        (stands-at i (omega (arith, w.0)) (w.2 ∙ ap (λ b. b || any f (take i es)) e))

  abbrev pub among : Bool
  among = any (passes m op test) (map effect_view es)

  pub nothing_found : Stands None → false ≡ among
  nothing_found e = sym (any-map (passes m op test) es ∙ e)

  pub found : (i : ℕ) → Stands (Some i) → f (get_or es i no_effect) ≡ true → true ≡ among
  found i w e = sym (any-map (passes m op test) es ∙ w.2 ∙ ap (λ b. b || any f (take i es)) e)

abbrev pub after : Option ℕ → ℕ
after None = zero
after (Some place) = suc place

pub newest-before : (P : Package) (es : List Effect) (g n : ℕ) → after (newest_of P es g n) ≤ n
unfolding newest_of
newest-before P es g zero = omega arith
newest-before P es g (suc n) = on (eqb (group_of P (get_or es n no_effect)) g) (newest-before P es g n)
  where
    on : (b : Bool) → after (newest_of P es g n) ≤ n → after (cond b (Some n) (newest_of P es g n)) ≤ suc n
    on true h = omega arith
    on false h = omega arith
