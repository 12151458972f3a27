use Rattle.std.proofs.Common.{◌≡◌, ◌<◌, ◌≤◌, ◌∙◌, ℕ, Bool, true, false, Option, Some, None, List, length, get_or, sym, ap, subst, arith}
use Rattle.tables.specs.declared.elements.Effect.{Effect}
use Rattle.tables.specs.Contents.{Contents}
use Rattle.tables.specs.View.{view, effect_view, operation_number}
use Rattle.permits.specs.Chains.{group_of, no_effect, newest_of}
use Rattle.permits.specs.Chained.{Chained}
use Rattle.permits.specs.Wanted.{fits, passes}
use Rattle.permits.proofs.Search.{Stands, stands-first, nothing_found, found, onward, after, newest-before}
use Rattle.permits.proofs.chains.Permits.names.Goals as goal

pub loop-at-init : goal.loop-at-init
loop-at-init c =
    let P = view c.args.self.now in
    let es = c.args.self.now.effects in
    let op = operation_number c.args.operation in
    let test = fits P c.args.wanted in
    let chained : Chained P es (length es) c.self.inside.newest c.self.inside.before =
    subst (λ (t : Contents). Chained (view t) t.effects (length t.effects) c.self.inside.newest c.self.inside.before) c.self.view_is c.self.invariant.chained in
    let e : get_or c.self.inside.newest c.args.group None ≡ newest_of P es c.args.group (length es) = chained.newest_is c.args.group c.requires.below in
    subst (Stands P c.args.method op test c.args.group es) (sym e) (stands-first P c.args.method op test c.args.group es c.requires.together)

-- the effect at which the walk stands
at_place : (xs es : List Effect) (j i : ℕ) (test : Effect → Bool) (b v : Bool)
    → xs ≡ es → j ≡ i → b ≡ test (get_or xs j no_effect) → b ≡ v → test (get_or es i no_effect) ≡ v
at_place xs es j i test b v same at e is =
    subst (λ (ys : List Effect). test (get_or ys i no_effect) ≡ v) same (subst (λ (k : ℕ). test (get_or xs k no_effect) ≡ v) at (sym e ∙ is))

pub returns-then-passes : goal.returns-then-passes
returns-then-passes c =
    let P = view c.args.self.now in
    let es = c.args.self.now.effects in
    let op = operation_number c.args.operation in
    let test = fits P c.args.wanted in
    let w : Stands P c.args.method op test c.args.group es (Some c.in-Some.place) = subst (Stands P c.args.method op test c.args.group es) c.in-Some.is c.loop-at.invariant in
    let same : c.effects-effects.result.now ≡ es = c.effects-effects.ensures.value ∙ ap (λ (t : Contents). t.effects) c.self.view_is in
    found P c.args.method op test c.args.group es c.in-Some.place w
    (at_place c.effects-effects.result.now es c.from-place.result c.in-Some.place (λ e. passes c.args.method op test (effect_view e)) c.passes.result true same c.from-place.ensures c.passes.ensures c.if-passes.true)

pub loop-at-smaller : goal.loop-at-smaller
loop-at-smaller c =
    let P = view c.args.self.now in
    let es = c.args.self.now.effects in
    let op = operation_number c.args.operation in
    let test = fits P c.args.wanted in
    let w : Stands P c.args.method op test c.args.group es (Some c.in-Some.place) = subst (Stands P c.args.method op test c.args.group es) c.in-Some.is c.loop-at.invariant in
    let chained : Chained P es (length es) c.self.inside.newest c.self.inside.before =
    subst (λ (t : Contents). Chained (view t) t.effects (length t.effects) c.self.inside.newest c.self.inside.before) c.self.view_is c.self.invariant.chained in
    let g = group_of P (get_or es c.in-Some.place no_effect) in
    let next : get_or c.self.inside.before c.from-place.result None ≡ newest_of P es g c.in-Some.place =
    ap (λ (k : ℕ). get_or c.self.inside.before k None) c.from-place.ensures ∙ chained.before_is c.in-Some.place w.0 in
    let below : after (get_or c.self.inside.before c.from-place.result None) ≤ c.in-Some.place = subst (λ (at : Option ℕ). after at ≤ c.in-Some.place) (sym next) (newest-before P es g c.in-Some.place) in
    subst (λ (at : Option ℕ). after (get_or c.self.inside.before c.from-place.result None) < after at) (sym c.in-Some.is) (omega (arith, below))

pub loop-at-preserved : goal.loop-at-preserved
loop-at-preserved c =
    let P = view c.args.self.now in
    let es = c.args.self.now.effects in
    let op = operation_number c.args.operation in
    let test = fits P c.args.wanted in
    let w : Stands P c.args.method op test c.args.group es (Some c.in-Some.place) = subst (Stands P c.args.method op test c.args.group es) c.in-Some.is c.loop-at.invariant in
    let same : c.effects-effects.result.now ≡ es = c.effects-effects.ensures.value ∙ ap (λ (t : Contents). t.effects) c.self.view_is in
    let chained : Chained P es (length es) c.self.inside.newest c.self.inside.before =
    subst (λ (t : Contents). Chained (view t) t.effects (length t.effects) c.self.inside.newest c.self.inside.before) c.self.view_is c.self.invariant.chained in
    let g = group_of P (get_or es c.in-Some.place no_effect) in
    let next : get_or c.self.inside.before c.from-place.result None ≡ newest_of P es g c.in-Some.place =
    ap (λ (k : ℕ). get_or c.self.inside.before k None) c.from-place.ensures ∙ chained.before_is c.in-Some.place w.0 in
    subst (Stands P c.args.method op test c.args.group es) (sym next)
    (onward P c.args.method op test c.args.group es c.requires.together c.in-Some.place w
    (at_place c.effects-effects.result.now es c.from-place.result c.in-Some.place (λ e. passes c.args.method op test (effect_view e)) c.passes.result false same c.from-place.ensures c.passes.ensures c.if-passes.false))

pub returns : goal.returns
returns c =
    let P = view c.args.self.now in
    let es = c.args.self.now.effects in
    let op = operation_number c.args.operation in
    let test = fits P c.args.wanted in
    nothing_found P c.args.method op test c.args.group es (subst (Stands P c.args.method op test c.args.group es) c.in_default.is c.loop-at.invariant)
