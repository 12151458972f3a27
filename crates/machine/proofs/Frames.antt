-- What a write to the arrays of a run state does to the frames that they hold.
use Rattle.std.proofs.Common.{◌≡◌, ℕ, zero, suc, ◌+◌, ◌*◌, ◌<◌, ◌≤◌, ◌≢◌, List, ◌∷◌, [], ◌++◌, length, get_or, take, drop, set, refl, sym, subst, ap, ap₂, ◌-◌, add-one, ◌∙◌, arith, length-drop, length-append, length-take-le, get_or-set_other, get_or-take, get_or-drop, take-append-drop}
use Rattle.std.proofs.lemmas.List.{drop-set-add, take-set-le, take_more_set, length-replicate, get_or-replicate, get_or_append_left, get_or-append_right, drop-append-le, take-append-le}
use Rattle.machine.specs.declared.label.Label.{Label}
use Rattle.machine.specs.declared.state.Saved.{Saved}
use Rattle.machine.specs.Snapshot.{SavedFrame, no_frame}
use Rattle.machine.specs.Frame.{frame_at, no_label, no_labels, cleared}
use Rattle.machine.specs.StateView.{frames_below, no_context}

pub length-frame_at : (labels : List Label) (depth count : ℕ) → 32 * depth + count ≤ length labels → length (frame_at labels depth count) ≡ count
length-frame_at labels depth count fits = length-take-le count (drop (32 * depth) labels) (omega (arith, length-drop (32 * depth) labels))

pub length-frames_below : (labels : List Label) (saved : List Saved) (depth : ℕ) → length (frames_below labels saved depth) ≡ depth
length-frames_below labels saved zero = refl
length-frames_below labels saved (suc depth) = ap suc (length-frames_below labels saved depth)

-- a write behind the last label adds one to the frame
pub frame_at-push : (labels : List Label) (depth count : ℕ) (label : Label)
    → 32 * depth + count < length labels
    → frame_at (set labels (32 * depth + count) label) depth (count + 1) ≡ frame_at labels depth count ++ label ∷ []
frame_at-push labels depth count label fits =
    ap (take (count + 1)) (drop-set-add (32 * depth) labels count label)
    ∙ take_more_set (drop (32 * depth) labels) count label (omega (arith, length-drop (32 * depth) labels))

abbrev pub saved_frame : Saved → List Label → SavedFrame
saved_frame context labels = record { method = context.method; pending = context.pending; labels = labels }

-- a write behind a frame leaves the frame
frame_at-set : (labels : List Label) (depth count beyond : ℕ) (label : Label)
    → count ≤ beyond
    → frame_at (set labels (32 * depth + beyond) label) depth count ≡ frame_at labels depth count
frame_at-set labels depth count beyond label behind =
    ap (take count) (drop-set-add (32 * depth) labels beyond label) ∙ take-set-le count (drop (32 * depth) labels) beyond label behind

-- a write above the saved frames leaves them
pub frames_below-set_label : (labels : List Label) (saved : List Saved) (depth at : ℕ) (label : Label)
    → ((k : ℕ) → (get_or saved k no_context).label_count ≤ 32)
    → 32 * depth ≤ at
    → frames_below (set labels at label) saved depth ≡ frames_below labels saved depth
frames_below-set_label labels saved zero at label within above = refl
frames_below-set_label labels saved (suc depth) at label within above =
    let count = (get_or saved depth no_context).label_count in
    let beyond : at ≡ 32 * depth + (at - 32 * depth) = omega arith in
    let frame : frame_at (set labels at label) depth count ≡ frame_at labels depth count =
    subst (λ (j : ℕ). frame_at (set labels j label) depth count ≡ frame_at labels depth count) (sym beyond)
    (frame_at-set labels depth count (at - 32 * depth) label (omega (arith, within depth))) in
    let older = frames_below-set_label labels saved depth at label within (omega arith) in
    ap₂ (λ (xs : List Label) (frames : List SavedFrame). saved_frame (get_or saved depth no_context) xs ∷ frames) frame older

-- a context that is saved above others leaves them
pub frames_below-set_saved : (labels : List Label) (saved : List Saved) (depth at : ℕ) (context : Saved)
    → depth ≤ at
    → frames_below labels (set saved at context) depth ≡ frames_below labels saved depth
frames_below-set_saved labels saved zero at context below = refl
frames_below-set_saved labels saved (suc depth) at context below =
    let other : depth ≢ at = omega arith in
    let same : get_or (set saved at context) depth no_context ≡ get_or saved depth no_context = rw get_or-set_other in
    ap₂ (λ (x : Saved) (frames : List SavedFrame). saved_frame x (frame_at labels depth x.label_count) ∷ frames) same
    (frames_below-set_saved labels saved depth at context (omega arith))

-- the newest frame, and the ones below it
pub frames_below-more : (labels : List Label) (saved : List Saved) (depth : ℕ)
    → frames_below labels saved (depth + 1) ≡ saved_frame (get_or saved depth no_context) (frame_at labels depth (get_or saved depth no_context).label_count) ∷ frames_below labels saved depth
frames_below-more labels saved depth = rw add-one

-- the saved frame at a place, the newest at 0
pub frames_below-at : (labels : List Label) (saved : List Saved) (depth place : ℕ)
    → place < depth
    → get_or (frames_below labels saved depth) place no_frame ≡ saved_frame (get_or saved (depth - 1 - place) no_context) (frame_at labels (depth - 1 - place) (get_or saved (depth - 1 - place) no_context).label_count)
frames_below-at labels saved zero place h = absurd (omega arith)
frames_below-at labels saved (suc depth) zero h =
    let same : depth ≡ suc depth - 1 - 0 = omega arith in
    ap (λ (d : ℕ). saved_frame (get_or saved d no_context) (frame_at labels d (get_or saved d no_context).label_count)) same
frames_below-at labels saved (suc depth) (suc place) h =
    let same : depth - 1 - place ≡ suc depth - 1 - suc place = omega arith in
    subst (λ (d : ℕ). get_or (frames_below labels saved depth) place no_frame ≡ saved_frame (get_or saved d no_context) (frame_at labels d (get_or saved d no_context).label_count)) same
    (frames_below-at labels saved depth place (omega arith))

-- ---- a frame that is given up

length-none : length no_labels ≡ 32
unfolding no_labels
length-none = length-replicate 32 no_label

none-at : (k : ℕ) → k < 32 → get_or no_labels k no_label ≡ no_label
unfolding no_labels
none-at k low = get_or-replicate 32 k no_label no_label low

module _ (labels : List Label) (depth : ℕ) (fits : 32 * depth + 32 ≤ length labels) where
  abbrev front : List Label
  front = take (32 * depth) labels

  front-long : length front ≡ 32 * depth
  front-long = length-take-le (32 * depth) labels (omega (arith, fits))

  pub length-cleared : length (cleared labels depth) ≡ length labels
  length-cleared =
      let back = length-drop (32 * depth + 32) labels in
      let rest = length-append no_labels (drop (32 * depth + 32) labels) in
      length-append front (no_labels ++ drop (32 * depth + 32) labels) ∙ omega (arith, fits, front-long, length-none, back, rest)

  pub cleared-below : (k : ℕ) → k < 32 * depth → get_or (cleared labels depth) k no_label ≡ get_or labels k no_label
  cleared-below k below =
      get_or_append_left front (no_labels ++ drop (32 * depth + 32) labels) no_label k (omega (arith, below, front-long))
      ∙ get_or-take (32 * depth) labels k no_label below

  behind : (k : ℕ) → 32 * depth ≤ k → get_or (cleared labels depth) k no_label ≡ get_or (no_labels ++ drop (32 * depth + 32) labels) (k - 32 * depth) no_label
  behind k above = get_or-append_right front (no_labels ++ drop (32 * depth + 32) labels) (32 * depth) k no_label front-long above

  pub cleared-in : (k : ℕ) → 32 * depth ≤ k → k < 32 * depth + 32 → get_or (cleared labels depth) k no_label ≡ no_label
  cleared-in k above below =
      let low : k - 32 * depth < 32 = omega (arith, above, below) in
      behind k above
      ∙ get_or_append_left no_labels (drop (32 * depth + 32) labels) no_label (k - 32 * depth) (omega (arith, low, length-none))
      ∙ none-at (k - 32 * depth) low

  pub cleared-above : (k : ℕ) → 32 * depth + 32 ≤ k → get_or (cleared labels depth) k no_label ≡ get_or labels k no_label
  cleared-above k above =
      let high : 32 ≤ k - 32 * depth = omega (arith, above) in
      let place : 32 * depth + 32 + (k - 32 * depth - 32) ≡ k = omega (arith, above) in
      behind k (omega (arith, above))
      ∙ get_or-append_right no_labels (drop (32 * depth + 32) labels) 32 (k - 32 * depth) no_label length-none high
      ∙ get_or-drop (32 * depth + 32) labels (k - 32 * depth - 32) no_label
      ∙ ap (λ (n : ℕ). get_or labels n no_label) place

  frame-front : (back : List Label) (d count : ℕ) → 32 * d + count ≤ length front → frame_at (front ++ back) d count ≡ frame_at front d count
  frame-front back d count fit =
      ap (take count) (drop-append-le (32 * d) front back (omega (arith, fit)))
      ∙ take-append-le count (drop (32 * d) front) back (omega (arith, fit, length-drop (32 * d) front))

  -- the frames below it stay
  pub frame_at-cleared : (d count : ℕ) → d < depth → count ≤ 32 → frame_at (cleared labels depth) d count ≡ frame_at labels d count
  frame_at-cleared d count below few =
      let fit : 32 * d + count ≤ length front = omega (arith, below, few, front-long) in
      frame-front (no_labels ++ drop (32 * depth + 32) labels) d count fit
      ∙ sym (frame-front (drop (32 * depth) labels) d count fit)
      ∙ ap (λ (xs : List Label). frame_at xs d count) (take-append-drop (32 * depth) labels)

  pub frames_below-cleared : (saved : List Saved) → ((k : ℕ) → (get_or saved k no_context).label_count ≤ 32) → (d : ℕ) → d ≤ depth → frames_below (cleared labels depth) saved d ≡ frames_below labels saved d
  frames_below-cleared saved within zero below = refl
  frames_below-cleared saved within (suc d) below =
      ap₂ (λ (xs : List Label) (older : List SavedFrame). saved_frame (get_or saved d no_context) xs ∷ older)
      (frame_at-cleared d (get_or saved d no_context).label_count (omega (arith, below)) (within d))
      (frames_below-cleared saved within d (omega (arith, below)))
