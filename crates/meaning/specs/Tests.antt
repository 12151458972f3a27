-- What computes the relations of Trust.antt and the propositions of Rules.antt, with the same numbers in the names. proofs/ has the
-- laws that each test passes exactly where its proposition holds.
-- Assumes nothing.
use Rattle.std.specs.Prelude.{ℕ, zero, suc, Bool, true, false, ◌&&◌, ◌||◌, not, List, [], ◌∷◌, eqb, ltb, length, get_or}
use Rattle.std.proofs.Math.Option.{Option, none, some}
use Rattle.meaning.specs.Lists.{any, member, first, any_below}
use Rattle.meaning.specs.Tables.{Package, Pair, method_at, home, supers_of, owner_of, label_of, target_of, potency_of, slot_of, result_of, params_of, field_class, field_type, caller_of, site_of, op_of, named_by}

-- ---- ►: from e the listed pairs lead to d, or to the root, which all dominate

-- the pair starts inside and ends outside
unfoldable pub leaves : List ℕ → Pair → Bool
unfolding member
leaves xs p = member p.low xs && not (member p.high xs)

-- each round adds the end of the first pair that leads out; there are at most as many rounds as pairs
unfoldable pub grow : ℕ → List Pair → List ℕ → List ℕ
unfolding first leaves
grow zero ps xs = xs
grow (suc k) ps xs = elim (first (leaves xs) ps) [ none ↦ xs | some p ↦ grow k ps (p.high ∷ xs) ]

-- what is reached from a list of numbers along listed pairs
unfoldable pub reached : List Pair → List ℕ → List ℕ
unfolding grow
reached ps xs = grow (length ps) ps xs

unfoldable pub dominated : Package → ℕ → ℕ → Bool
unfolding member reached
dominated P e d = member d (reached P.pairs (e ∷ [])) || member 0 (reached P.pairs (e ∷ []))

unfoldable pub trusts : Package → ℕ → ℕ → Bool
unfolding dominated home
trusts P b a = dominated P (home P b) (home P a)

unfoldable pub method_trusts : Package → ℕ → ℕ → Bool
unfolding dominated label_of
method_trusts P n m = dominated P (label_of P n) (label_of P m)

unfoldable pub mates : Package → ℕ → ℕ → Bool
unfolding home
mates P a b = eqb (home P a) (home P b)

unfoldable pub suspicious : Package → ℕ → ℕ → Bool
unfolding trusts
suspicious P a b = not (trusts P a b) && not (trusts P b a)

-- ---- <:; direct supertypes have lower numbers, so a chain from a has at most a links

unfoldable pub subtype_in : Package → ℕ → ℕ → ℕ → Bool
unfolding any supers_of
subtype_in P zero a b = eqb a b
subtype_in P (suc k) a b = eqb a b || any (λ (s : ℕ). subtype_in P k s b) (supers_of P a)

unfoldable pub subtype : Package → ℕ → ℕ → Bool
unfolding subtype_in
subtype P a b = subtype_in P (suc a) a b

-- ---- methods

unfoldable pub instance_method : Package → ℕ → Bool
instance_method P m = eqb (method_at P m).static 0

unfoldable pub one_slot : Package → ℕ → ℕ → Bool
unfolding instance_method slot_of
one_slot P m n = instance_method P m && (instance_method P n && eqb (slot_of P m) (slot_of P n))

unfoldable pub overrides : Package → ℕ → ℕ → Bool
unfolding one_slot owner_of subtype
overrides P v n = one_slot P v n && (not (eqb (owner_of P v) (owner_of P n)) && subtype P (owner_of P v) (owner_of P n))

unfoldable pub same_numbers : List ℕ → List ℕ → Bool
same_numbers [] [] = true
same_numbers [] (y ∷ ys) = false
same_numbers (x ∷ xs) [] = false
same_numbers (x ∷ xs) (y ∷ ys) = eqb x y && same_numbers xs ys

unfoldable pub same_result : Option ℕ → Option ℕ → Bool
same_result none none = true
same_result none (some y) = false
same_result (some x) none = false
same_result (some x) (some y) = eqb x y

-- some return type passes the test: no return type, no demand
unfoldable pub of_result : (ℕ → Bool) → Option ℕ → Bool
of_result f none = false
of_result f (some c) = f c

-- ---- the rules

unfoldable pub breaks10 : Package → ℕ → ℕ → Bool
unfolding dominated
breaks10 P d e = ltb d e && (dominated P d e && dominated P e d)

unfoldable pub breaks11 : Package → ℕ → ℕ → Bool
unfolding one_slot same_numbers same_result params_of result_of
breaks11 P m n = ltb m n && (one_slot P m n && (not (same_numbers (params_of P m) (params_of P n)) || not (same_result (result_of P m) (result_of P n))))

unfoldable pub breaks12 : Package → ℕ → ℕ → Bool
unfolding one_slot owner_of
breaks12 P m n = ltb m n && (one_slot P m n && eqb (owner_of P m) (owner_of P n))

unfoldable pub breaks21 : Package → ℕ → ℕ → Bool
unfolding subtype trusts
breaks21 P a b = subtype P a b && not (trusts P b a)

-- a and b are suspicious supertypes of a' and b'
unfoldable pub apart_above : Package → ℕ → ℕ → ℕ → ℕ → Bool
unfolding subtype suspicious
apart_above P a' b' a b = subtype P a' a && (subtype P b' b && suspicious P a b)

unfoldable pub breaks22 : Package → ℕ → ℕ → Bool
unfolding suspicious any_below apart_above
breaks22 P a' b' =
    not (suspicious P a' b')
    && any_below (length P.classes) (λ (a : ℕ). any_below (length P.classes) (λ (b : ℕ). apart_above P a' b' a b))

unfoldable pub breaks23 : Package → ℕ → ℕ → Bool
unfolding overrides method_trusts
breaks23 P n' n = overrides P n' n && not (method_trusts P n' n)

-- c ▷ a fails, and x ⋈ y too
unfoldable pub keeps_from : Package → ℕ → ℕ → ℕ → ℕ → Bool
unfolding trusts mates
keeps_from P a x y c = not (trusts P c a) && not (mates P x y)

unfoldable pub breaks24 : Package → ℕ → ℕ → Bool
unfolding overrides of_result keeps_from owner_of result_of
breaks24 P n' n = overrides P n' n && of_result (keeps_from P (owner_of P n) (owner_of P n) (owner_of P n')) (result_of P n)

unfoldable pub breaks25 : Package → ℕ → ℕ → Bool
unfolding overrides any keeps_from owner_of params_of
breaks25 P n' n = overrides P n' n && any (keeps_from P (owner_of P n') (owner_of P n) (owner_of P n')) (params_of P n)

-- the effect's op is one of these two
unfoldable pub is_op : Package → ℕ → ℕ → ℕ → Bool
unfolding op_of
is_op P i x y = eqb (op_of P i) x || eqb (op_of P i) y

unfoldable pub breaks26 : Package → ℕ → ℕ → Bool
unfolding is_op trusts named_by site_of
breaks26 P i z = is_op P i 0 1 && not (trusts P (named_by P i) (site_of P i))

-- of an effect in a that names a thing of b: a type c that a may not come by, or that b may not
unfoldable pub breaks27 : Package → ℕ → ℕ → Bool
unfolding is_op keeps_from of_result named_by site_of field_class field_type owner_of result_of
breaks27 P i z =
    (is_op P i 2 4 && keeps_from P (site_of P i) (site_of P i) (field_class P (named_by P i)) (field_type P (named_by P i)))
    || ((is_op P i 3 5 && keeps_from P (field_class P (named_by P i)) (site_of P i) (field_class P (named_by P i)) (field_type P (named_by P i)))
    || (is_op P i 6 7 && of_result (keeps_from P (site_of P i) (site_of P i) (owner_of P (named_by P i))) (result_of P (named_by P i))))

unfoldable pub breaks28 : Package → ℕ → ℕ → Bool
unfolding op_of trusts owner_of named_by site_of
breaks28 P i z = eqb (op_of P i) 6 && not (trusts P (owner_of P (named_by P i)) (site_of P i))

unfoldable pub breaks29 : Package → ℕ → ℕ → Bool
unfolding is_op method_trusts named_by caller_of
breaks29 P i z = is_op P i 6 7 && not (method_trusts P (named_by P i) (caller_of P i))

unfoldable pub granted : Package → ℕ → ℕ → ℕ → ℕ → Bool
unfolding trusts mates dominated home label_of
granted P m a b c = trusts P c b || (mates P a b || (dominated P (home P b) (target_of P m) && dominated P (home P c) (potency_of P m)))

unfoldable pub breaks30 : Package → ℕ → ℕ → Bool
unfolding is_op granted caller_of site_of owner_of named_by params_of
breaks30 P i j = is_op P i 6 7 && not (granted P (caller_of P i) (site_of P i) (owner_of P (named_by P i)) (get_or (params_of P (named_by P i)) j 0))
