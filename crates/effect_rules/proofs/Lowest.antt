-- The pass over the effects: what it holds is the lowest broken rule with the first effect that breaks it. So that rule's search may begin
-- there, and names the answer.
-- Assumes nothing.
use Rattle.std.proofs.Common.{◌≡◌, ℕ, zero, suc, ◌+◌, ◌≤◌, ◌<◌, Bool, true, false, cond, Option, Some, None, [], length, ltb, add-one, refl, sym, ap, subst, arith}
use native.Mathlib.Decide.{dec_lt, ℕ_discrete}
use borrow.Author.Tests.{lt-ltb, le-ltb}
use Rattle.std.proofs.Math.Option as Math
use Rattle.meaning.specs.Lists.{Place}
use Rattle.std.proofs.Math.ListN.{get_or-eq_default}
use Rattle.meaning.specs.Tables.{Package, no_method, params_of, named_by}
use Rattle.meaning.specs.Good.{Good}
use Rattle.meaning.specs.Reading.{answer}
use Rattle.meaning.specs.Check.{first_found, effect_findings}
use Rattle.meaning.proofs.Bools.{false-fails, true-passes, fails-false}
use Rattle.meaning.proofs.Lists.{any_below_sound, any_below_complete}
use Rattle.meaning.proofs.Search.{first_place_complete, first_place_sound}
use Rattle.search.specs.Pairs.{pair_of}
use Rattle.rules.specs.Numbers.{number_of}
use Rattle.effect_rules.specs.declared.rule.EffectRule.{EffectRule}
use Rattle.effect_rules.specs.declared.rule.EffectRule.TheVariants.{Creation, Typing, StaticCall, Invocation, Argument}
use Rattle.effect_rules.specs.declared.pass.Lowest.{Lowest}
use Rattle.effect_rules.specs.Rules.{rule_of, rank, breaks_of, seconds_of}
use Rattle.effect_rules.specs.Search.{broken_at, lowest_at, lower, lowest_in, first_effect}
use Rattle.effect_rules.proofs.Finding.{none_first}

-- ---- at one effect

-- what is said there of the lowest broken rule
abbrev LowestAt : Package → ℕ → Option EffectRule → Type 0
LowestAt P i None = (rule : EffectRule) → broken_at rule P i ≡ false
LowestAt P i (Some low) = (broken_at low P i ≡ true) × ((rule : EffectRule) → rank rule < rank low → broken_at rule P i ≡ false)

module _ (P : Package) (i : ℕ) where
  at-tests : (a b c d e : Bool) → broken_at Creation P i ≡ a → broken_at Typing P i ≡ b → broken_at StaticCall P i ≡ c → broken_at Invocation P i ≡ d → broken_at Argument P i ≡ e
      → LowestAt P i (cond a (Some Creation) (cond b (Some Typing) (cond c (Some StaticCall) (cond d (Some Invocation) (cond e (Some Argument) None)))))
  at-tests true b c d e p q r s t = (p, λ rule h. absurd (omega arith))
  at-tests false true c d e p q r s t = (q, elim [ Creation ↦ λ h. p | Typing ↦ λ h. absurd (omega arith) | StaticCall ↦ λ h. absurd (omega arith) | Invocation ↦ λ h. absurd (omega arith) | Argument ↦ λ h. absurd (omega arith) ])
  at-tests false false true d e p q r s t = (r, elim [ Creation ↦ λ h. p | Typing ↦ λ h. q | StaticCall ↦ λ h. absurd (omega arith) | Invocation ↦ λ h. absurd (omega arith) | Argument ↦ λ h. absurd (omega arith) ])
  at-tests false false false true e p q r s t = (s, elim [ Creation ↦ λ h. p | Typing ↦ λ h. q | StaticCall ↦ λ h. r | Invocation ↦ λ h. absurd (omega arith) | Argument ↦ λ h. absurd (omega arith) ])
  at-tests false false false false true p q r s t = (t, elim [ Creation ↦ λ h. p | Typing ↦ λ h. q | StaticCall ↦ λ h. r | Invocation ↦ λ h. s | Argument ↦ λ h. absurd (omega arith) ])
  at-tests false false false false false p q r s t = elim [ Creation ↦ p | Typing ↦ q | StaticCall ↦ r | Invocation ↦ s | Argument ↦ t ]

  lowest_at_lem : LowestAt P i (lowest_at P i)
  unfolding lowest_at
  lowest_at_lem = at-tests _ _ _ _ _ refl refl refl refl refl

-- ---- at the first n effects

-- the lowest rule that is broken there, and the first effect that breaks it
pub record IsLowest (P : Package) (n : ℕ) (low : Lowest) : Type 0 where
  pub early : low.effect < n
  pub broken : broken_at low.rule P low.effect ≡ true
  pub before : (i : ℕ) → i < low.effect → broken_at low.rule P i ≡ false
  pub below : (rule : EffectRule) → rank rule < rank low.rule → (i : ℕ) → i < n → broken_at rule P i ≡ false

abbrev LowestOf : Package → ℕ → Option Lowest → Type 0
LowestOf P n None = (rule : EffectRule) (i : ℕ) → i < n → broken_at rule P i ≡ false
LowestOf P n (Some low) = IsLowest P n low

-- what is so of the first n effects and of the one behind them is so of one effect more
one_more : (f : ℕ → Bool) (n i : ℕ) → ((k : ℕ) → k < n → f k ≡ false) → f n ≡ false → i < suc n → f i ≡ false
one_more f n i clear here h = on (ℕ_discrete i n)
  where
    on : Dec (i ≡ n) → f i ≡ false
    on (yes e) = rw e here
    on (no m) = clear i (omega arith)

-- one effect more: what was lowest stays unless this effect's is lower
lower-more : (P : Package) (n : ℕ) (low : Option Lowest) (here : Option EffectRule) → LowestOf P n low → LowestAt P n here → LowestOf P (suc n) (lower low here n)
lower-more P n None None w h = λ rule i l. one_more (λ k. broken_at rule P k) n i (w rule) (h rule) l
lower-more P n None (Some rule) w h =
    record {
      early = le_refl_suc n;
      broken = h.0;
      before = λ i l. w rule i l;
      below = λ r m i l. one_more (λ k. broken_at r P k) n i (w r) (h.1 r m) l;
    }
  where
    le_refl_suc : (n : ℕ) → n < suc n
    le_refl_suc n = omega arith
lower-more P n (Some low) None w h =
    record {
      early = omega (arith, w.early);
      broken = w.broken;
      before = w.before;
      below = λ r m i l. one_more (λ k. broken_at r P k) n i (w.below r m) (h r) l;
    }
lower-more P n (Some low) (Some rule) w h = on (dec_lt (rank rule) (rank low.rule))
  where
    on : Dec (rank rule < rank low.rule) → LowestOf P (suc n) (cond (ltb (rank rule) (rank low.rule)) (Some (record { rule = rule; effect = n })) (Some low))
    on (yes l) =
        let m : IsLowest P (suc n) (record { rule = rule; effect = n })
        = record {
          early = omega arith;
          broken = h.0;
          before = λ i k. w.below rule l i k;
          below = λ r m i k. one_more (λ k. broken_at r P k) n i (w.below r (omega arith)) (h.1 r m) k;
        } in
        rw (lt-ltb (rank rule) (rank low.rule) l) m
    on (no k) =
        let l : rank low.rule ≤ rank rule = omega arith in
        let m : IsLowest P (suc n) low
        = record {
          early = omega (arith, w.early);
          broken = w.broken;
          before = w.before;
          below = λ r m i k. one_more (λ k. broken_at r P k) n i (w.below r m) (h.1 r (omega arith)) k;
        } in
        rw (le-ltb (rank rule) (rank low.rule) l) m

pub lowest-of : (P : Package) (n : ℕ) → LowestOf P n (lowest_in P n)
unfolding lowest_in
lowest-of P zero = λ rule i h. absurd (omega arith)
lowest-of P (suc n) = lower-more P n (lowest_in P n) (lowest_at P n) (lowest-of P n) (lowest_at_lem P n)

-- ---- as the loop goes

pub lowest-none : (P : Package) → None ≡ lowest_in P 0
unfolding lowest_in
lowest-none P = refl

pub lowest-more : (P : Package) (n : ℕ) → lowest_in P (n + 1) ≡ lower (lowest_in P n) (lowest_at P n) n
unfolding lowest_in
lowest-more P n = rw (add-one n) refl

-- ---- the searches

-- an effect that does not break a rule does not break it at a place
pub clear-at : (rule : EffectRule) (P : Package) (i : ℕ) → broken_at rule P i ≡ false → (j : ℕ) → j < seconds_of rule P i → breaks_of rule P i j ≡ false
unfolding broken_at
clear-at rule P i e j h = fails-false _ (λ t. false-fails _ e (any_below_complete (breaks_of rule P i) (seconds_of rule P i) j h t))

module _ (P : Package) where
  -- a rule that no effect breaks has no first place
  pub nothing : (rule : EffectRule) → ((i : ℕ) → i < length P.effects → broken_at rule P i ≡ false) → first_effect rule P ≡ Math.none
  nothing rule clear = none_first rule P (λ i j l h. clear-at rule P i (clear i l) j h)

  -- and one that an effect breaks has one
  pub something : (rule : EffectRule) (i : ℕ) → i < length P.effects → broken_at rule P i ≡ true → first_effect rule P ≡ Math.none → ⊥
  unfolding broken_at
  something rule i h e q =
      let w = any_below_sound (breaks_of rule P i) (seconds_of rule P i) (true-passes _ e) in
      first_place_complete (length P.effects) (seconds_of rule P) (breaks_of rule P) q i w.0 h w.1 w.2

  -- ---- the answer

  pub found_nothing : ((rule : EffectRule) → first_effect rule P ≡ Math.none) → first_found (effect_findings P) ≡ answer 0 0 0
  unfolding first_found effect_findings
  found_nothing none = rw (none Creation, none Typing, none StaticCall, none Invocation, none Argument)

  pub found_at : (rule : EffectRule) (p : Place) → ((r : EffectRule) → rank r < rank rule → first_effect r P ≡ Math.none) → first_effect rule P ≡ Math.some p
      → first_found (effect_findings P) ≡ answer (number_of (rule_of rule)) p.first p.second
  unfolding first_found effect_findings
  found_at Creation p none e = rw e
  found_at Typing p none e = rw (none Creation (omega arith), e)
  found_at StaticCall p none e = rw (none Creation (omega arith), none Typing (omega arith), e)
  found_at Invocation p none e = rw (none Creation (omega arith), none Typing (omega arith), none StaticCall (omega arith), e)
  found_at Argument p none e = rw (none Creation (omega arith), none Typing (omega arith), none StaticCall (omega arith), none Invocation (omega arith), e)

  -- no effect breaks a rule
  pub found_none : (n : ℕ) → n ≡ length P.effects → None ≡ lowest_in P n → first_found (effect_findings P) ≡ answer 0 0 0
  found_none n m e =
      let clear : LowestOf P n None = subst (LowestOf P n) (sym e) (lowest-of P n) in
      found_nothing (λ rule. nothing rule (λ i l. clear rule i (rw m l)))

  pub lowest-is : (n : ℕ) (low : Lowest) → n ≡ length P.effects → Some low ≡ lowest_in P n → IsLowest P (length P.effects) low
  lowest-is n low m e = subst (λ k. LowestOf P k (Some low)) m (subst (LowestOf P n) (sym e) (lowest-of P n))

  module _ (low : Lowest) (w : IsLowest P (length P.effects) low) where
    pub found_lowest : (p : Place) → first_effect low.rule P ≡ Math.some p → first_found (effect_findings P) ≡ answer (number_of (rule_of low.rule)) p.first p.second
    found_lowest p e = found_at low.rule p (λ rule l. nothing rule (w.below rule l)) e

    pub found_some : first_effect low.rule P ≡ Math.none → ⊥
    found_some e = something low.rule low.effect w.early w.broken e

    pub unbroken : (i j : ℕ) → i < low.effect → j < seconds_of low.rule P i → breaks_of low.rule P i j ≡ false
    unbroken i j l h = clear-at low.rule P i (w.before i l) j h

-- ---- the places that are found

pub no_pair : (o : Math.Option Place) → None ≡ pair_of o → o ≡ Math.none
no_pair Math.none e = refl
no_pair (Math.some p) e = absurd (none-is (p.first, p.second) e)
  where
    none-is : (p : ℕ × ℕ) → None ≡ Some p → ⊥
    none-is p e = cc

got : Option (ℕ × ℕ) → ℕ × ℕ
got None = (0, 0)
got (Some p) = p

pub this_pair : (o : Math.Option Place) (a b : ℕ) → Some (a, b) ≡ pair_of o → o ≡ Math.some (record { first = a; second = b })
unfolding got
this_pair Math.none a b e = absurd (some-is (a, b) e)
  where
    some-is : (p : ℕ × ℕ) → Some p ≡ None → ⊥
    some-is p e = cc
this_pair (Math.some p) a b e =
    let x : a ≡ p.first = ap (λ o. (got o).0) e in
    let y : b ≡ p.second = ap (λ o. (got o).1) e in
    rw (x, y) refl

module _ (P : Package) (g : Good P) where
  params-few : (m : ℕ) → length (params_of P m) ≤ 6
  params-few m = on (dec_lt m (length P.methods))
    where
      on : Dec (m < length P.methods) → length (params_of P m) ≤ 6
      on (yes h) = (g.methods m h).few
      on (no n) =
          let e : params_of P m ≡ [] = unfold params_of in ap (λ x. x.params) (get_or-eq_default P.methods no_method {n = m} (omega arith)) in
          rw e (omega arith)

  seconds-few : (rule : EffectRule) (i : ℕ) → seconds_of rule P i ≤ 6
  seconds-few Creation i = omega arith
  seconds-few Typing i = omega arith
  seconds-few StaticCall i = omega arith
  seconds-few Invocation i = omega arith
  seconds-few Argument i = params-few (named_by P i)

  pub found-places : (rule : EffectRule) (i j : ℕ) → first_effect rule P ≡ Math.some (record { first = i; second = j }) → (i < 1024) × (j < 6)
  found-places rule i j e =
      let f = first_place_sound (length P.effects) (seconds_of rule P) (breaks_of rule P) (record { first = i; second = j }) e in
      (omega (arith, f.first, g.few_effects), omega (arith, f.second, seconds-few rule i))
