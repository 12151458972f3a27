-- What is read of a text so far, and what is read behind it.
-- Assumes nothing.
use Rattle.std.proofs.Common.{◌≡◌, ℕ, ◌≤◌, Bool, cond, List, [], length, Result, Ok, Err, sym, ap, ap₂, ◌∙◌}
use Rattle.std.proofs.lemmas.Bool.{le-leb}
use Rattle.meaning.specs.Text.{lines_of}
use Rattle.text.specs.declared.frame.Frame.{Frame}
use Rattle.text.specs.Reading.{Reading}
use Rattle.sections.specs.declared.refusal.Refusal.TheVariants.{TooLong}
use Rattle.sections.specs.declared.refusal.Refused.{Refused}
use Rattle.sections.specs.Sections.{refused, and_then, section, ending}
use Rattle.tables.specs.declared.elements.Pair.{Pair}
use Rattle.tables.specs.declared.elements.Class.{Class}
use Rattle.tables.specs.declared.elements.Field.{Field}
use Rattle.tables.specs.declared.elements.Method.{Method}
use Rattle.tables.specs.declared.elements.Effect.{Effect}
use Rattle.package.proofs.Known.{with_effects}
use Rattle.tables.specs.Contents.{Contents}
use Rattle.package.specs.Judging.{pair_declared}
use Rattle.package.specs.Elements.{pair_in}
use Rattle.package.specs.Taking.{taken}
use Rattle.package.specs.Readings.{header, elements, read_sections}
use Rattle.package.proofs.Whole.{pairs-rest, classes-rest, fields-rest, methods-rest, effects-rest}

pub begun : (s : List ℕ) (start after : Reading) (nd : ℕ) → length s ≤ 32768 → start ≡ record { number = 0; lines = lines_of s } → header start ≡ Ok (nd, after)
    → read_sections s ≡ and_then (elements 2 128 (pair_declared nd) pair_in after) (pairs-rest nd)
unfolding read_sections pairs-rest classes-rest fields-rest methods-rest effects-rest
begun s start after nd small e h =
    let rest : ℕ × Reading → Result Contents Refused = λ p. and_then (elements 2 128 (pair_declared p.0) pair_in p.1) (pairs-rest p.0) in
    ap (λ (b : Bool). cond b (and_then (header (record { number = 0; lines = lines_of s })) rest) (refused TooLong 0)) (le-leb (length s) 32768 small)
    ∙ ap (λ (x : Result (ℕ × Reading) Refused). and_then x rest) (sym (ap header e) ∙ h)

module _ {E : Type 0} (k limit : ℕ) (of : Frame → E) (declared given : ℕ → Frame → Bool) (none : List E) (r : Reading) where
  as-given : given ≡ declared → none ≡ [] → section k (λ xs line f. taken limit (given (length xs) f) (of f) xs f) none r ≡ elements k limit declared of r
  as-given same empty = ap₂ (λ (d : ℕ → Frame → Bool) (z : List E). section k (λ xs line f. taken limit (d (length xs) f) (of f) xs f) z r) same empty

  module _ {X : Result Contents Refused} (rest : List E × Reading → Result Contents Refused) (so_far : X ≡ and_then (elements k limit declared of r) rest) (same : given ≡ declared) (empty : none ≡ []) where
    pub behind : (p : List E × Reading) → section k (λ xs line f. taken limit (given (length xs) f) (of f) xs f) none r ≡ Ok p → X ≡ rest p
    behind p e = so_far ∙ ap (λ (x : Result (List E × Reading) Refused). and_then x rest) (sym (as-given same empty) ∙ e)

    pub stopped : (x : Refused) → section k (λ xs line f. taken limit (given (length xs) f) (of f) xs f) none r ≡ Err x → X ≡ Err x
    stopped x e = so_far ∙ ap (λ (x : Result (List E × Reading) Refused). and_then x rest) (sym (as-given same empty) ∙ e)

module _ (nd : ℕ) (ps : List Pair) (cs : List Class) (fs : List Field) (ms : List Method) {X : Result Contents Refused} (p : List Effect × Reading) (so_far : X ≡ effects-rest nd ps cs fs ms p) where
  pub all_read : ending 7 p.1 ≡ Ok tt → X ≡ Ok (with_effects nd ps cs fs ms p.0)
  unfolding effects-rest
  all_read e = so_far ∙ ap (λ (x : Result (Unit {0}) Refused). and_then x (λ _. Ok (with_effects nd ps cs fs ms p.0))) e

  pub end-refused : (x : Refused) → ending 7 p.1 ≡ Err x → X ≡ Err x
  unfolding effects-rest
  end-refused x e = so_far ∙ ap (λ (x : Result (Unit {0}) Refused). and_then x (λ _. Ok (with_effects nd ps cs fs ms p.0))) e
