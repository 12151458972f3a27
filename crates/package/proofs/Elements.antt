-- The element that a frame stands for is `meaning`'s, where the frame's length and its numbers are judged.
-- Assumes nothing.
use Rattle.std.proofs.Common.{◌≡◌, ℕ, zero, suc, ◌+◌, ◌≤◌, ◌<◌, Bool, true, false, cond, eqb, min, List, length, length-drop, take, drop, Some, None, refl, sym, ap, ◌∙◌, lit<, lit≤, arith}
use Rattle.std.proofs.Math.Nat.{min-eq_left}
use Rattle.std.proofs.lemmas.Bool.{eqb-true, leb-true, and_parts}
use Rattle.meaning.specs.Text.{byte}
use Rattle.meaning.specs.Kinds.{row_of, length_of, fits}
use Rattle.meaning.specs.Reading.{pair_of, class_of, field_of, method_of, effect_of}
use Rattle.text.specs.Frames.{pack_frame}
use Rattle.text.proofs.Packed.{first-at}
use Rattle.tables.specs.View.{mode_number, operation_number, result_byte, pair_view, class_view, field_view, method_view, effect_view}
use Rattle.package.specs.Judging.{at, counted_in, class_declared, field_declared, method_declared}
use Rattle.package.specs.Elements.{mode_in, result_in, operation_in, pair_in, class_in, field_in, method_in, effect_in}
use Rattle.package.proofs.Packed.{row, row-taken}
use Rattle.package.proofs.Judged.{sized, slot_kept}

-- ---- a byte of a mode, of a result and of an operation

mode-back : (b : ℕ) → b ≤ 1 → mode_number (mode_in b) ≡ b
mode-back zero h = refl
mode-back (suc zero) h = refl
mode-back (suc (suc b)) h = absurd (omega (arith, h))

result-back : (b : ℕ) → result_byte (result_in b) ≡ b
result-back b = on (eqb b 0xFF) refl
  where
    on : (t : Bool) → eqb b 0xFF ≡ t → result_byte (cond t None (Some b)) ≡ b
    on true e = sym (eqb-true b 0xFF e)
    on false e = refl

operation-back : (b : ℕ) → b ≤ 7 → operation_number (operation_in b) ≡ b
unfolding operation_in
operation-back zero h = refl
operation-back (suc zero) h = refl
operation-back (suc (suc zero)) h = refl
operation-back (suc (suc (suc zero))) h = refl
operation-back (suc (suc (suc (suc zero)))) h = refl
operation-back (suc (suc (suc (suc (suc zero))))) h = refl
operation-back (suc (suc (suc (suc (suc (suc zero)))))) h = refl
operation-back (suc (suc (suc (suc (suc (suc (suc zero))))))) h = refl
operation-back (suc (suc (suc (suc (suc (suc (suc (suc b)))))))) h = absurd (omega (arith, h))

-- ---- the elements

module _ (f : List ℕ) where
  -- as many bytes are counted as the count byte says
  counted-length : (k i : ℕ) → byte f 0 ≡ k → fits f ≡ true → length_of (row_of k) f ≡ i + 1 + byte f i → length (drop (i + 1) f) ≡ byte f i
  counted-length k i e h z = let l = sized f k e h ∙ z in simp length-drop (omega (arith, l))

  -- the counted bytes, i the place of the count byte
  counted-row : (k i most : ℕ) → i + 1 + most ≤ 16 → i < 16 → byte f 0 ≡ k → fits f ≡ true → length_of (row_of k) f ≡ i + 1 + byte f i → (n : ℕ) → counted_in (pack_frame f) i most n ≡ true
      → take (min (at (pack_frame f) i) most) (row (pack_frame f) most (i + 1)) ≡ drop (i + 1) f
  unfolding counted_in
  counted-row k i most l u e h z n c =
      let m = leb-true (at (pack_frame f) i) most (and_parts _ _ c).0 in
      let q = first-at 16 f i u in
      ap (λ (x : ℕ). take x (row (pack_frame f) most (i + 1))) (min-eq_left m ∙ q)
      ∙ row-taken f most (i + 1) (byte f i) l (counted-length k i e h z) (omega (arith, m, q))

  pub pair-packed : pair_view (pair_in (pack_frame f)) ≡ pair_of f
  pair-packed = simp (first-at 16 f 1 (lit< tt), first-at 16 f 2 (lit< tt))

  pub class-packed : (nd n : ℕ) → byte f 0 ≡ 3 → fits f ≡ true → class_declared nd n (pack_frame f) ≡ true → class_view (class_in (pack_frame f)) ≡ class_of f
  unfolding row_of length_of row
  class-packed nd n e h d = λ i.
      record {
        domain = first-at 16 f 1 (lit< tt) i;
        supers = counted-row 3 2 4 (lit≤ tt) (lit< tt) e h refl n (and_parts _ _ d).1 i;
      }

  pub field-packed : (nc n : ℕ) → field_declared nc n (pack_frame f) ≡ true → field_view (field_in (pack_frame f)) ≡ field_of f
  field-packed nc n d =
      let m = leb-true (at (pack_frame f) 3) 1 (and_parts _ _ d).1 in λ i.
      record {
        class = first-at 16 f 1 (lit< tt) i;
        type = first-at 16 f 2 (lit< tt) i;
        static = (mode-back (at (pack_frame f) 3) m ∙ first-at 16 f 3 (lit< tt)) i;
      }

  pub method-packed : (nd nc n : ℕ) → byte f 0 ≡ 5 → fits f ≡ true → method_declared nd nc n (pack_frame f) ≡ true → method_view (method_in (pack_frame f)) ≡ method_of f
  unfolding row_of length_of row
  method-packed nd nc n e h d =
      let w = and_parts _ _ d in
      let v = and_parts _ _ (and_parts _ _ w.0).0 in
      let m = leb-true (at (pack_frame f) 3) 1 (and_parts _ _ v.0).1 in λ i.
      record {
        class = first-at 16 f 1 (lit< tt) i;
        label = first-at 16 f 2 (lit< tt) i;
        static = (mode-back (at (pack_frame f) 3) m ∙ first-at 16 f 3 (lit< tt)) i;
        slot = sym (slot_kept f) i;
        result = (result-back (at (pack_frame f) 6) ∙ first-at 16 f 6 (lit< tt)) i;
        params = counted-row 5 7 6 (lit≤ tt) (lit< tt) e h refl nc w.1 i;
      }

  pub effect-packed : byte f 2 ≤ 7 → effect_view (effect_in (pack_frame f)) ≡ effect_of f
  effect-packed l =
      let q = first-at 16 f 2 (lit< tt) in λ i.
      record {
        method = first-at 16 f 1 (lit< tt) i;
        op = (operation-back (at (pack_frame f) 2) (omega (arith, l, q)) ∙ q) i;
        number = first-at 16 f 3 (lit< tt) i;
      }
