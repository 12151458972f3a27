-- The arrays of a run state are those that its snapshot says.
-- Assumes nothing.
use Rattle.std.proofs.Common.{◌≡◌, ℕ, ◌+◌, ◌-◌, ◌*◌, ◌/◌, ◌%◌, ◌<◌, ◌≤◌, ◌∷◌, [], length, get_or, take, drop, reverse, sym, ap, ◌∙◌, arith, get_or-drop, get_or-take, length-take-le}
use Rattle.std.proofs.lemmas.List.{length-reverse, length-append, get_or_append_left, get_or_at, get_or-reverse, get_or_past}
use Rattle.std.proofs.lemmas.List.FromFn.{fill_by_all}
use native.Mathlib.Decide.{dec_lt, ℕ_discrete}
use Rattle.machine.specs.declared.state.State.TheInside.{Inside}
use Rattle.machine.specs.Snapshot.{SavedFrame, Snapshot, no_frame}
use Rattle.machine.specs.Frame.{frame_at, no_label}
use Rattle.machine.specs.StateView.{no_link, no_context, snapshot_of, IsWithinLimits, running, frames_of, context_from, label_at, links_from, labels_from, saved_from, inside_of}
use Rattle.machine.proofs.Frames.{saved_frame, length-frame_at, length-frames_below, frames_below-at}

-- the limits, and nothing behind the counts
pub record Tidy (s : Inside) : Type 0 where
  pub links : s.link_count ≤ 256
  pub labels : s.label_count ≤ 32
  pub depth : s.depth ≤ 16
  pub saved : (k : ℕ) → (get_or s.saved k no_context).label_count ≤ 32
  pub all_links : length s.links ≡ 256
  pub all_labels : length s.labels ≡ 544
  pub all_saved : length s.saved ≡ 16
  pub free_links : (k : ℕ) → s.link_count ≤ k → get_or s.links k no_link ≡ no_link
  pub free_saved : (k : ℕ) → s.depth ≤ k → get_or s.saved k no_context ≡ no_context
  pub free_above : (k : ℕ) → 32 * s.depth + s.label_count ≤ k → get_or s.labels k no_label ≡ no_label
  pub free_below : (d k : ℕ) → d < s.depth → (get_or s.saved d no_context).label_count ≤ k → k < 32 → get_or s.labels (32 * d + k) no_label ≡ no_label

module _ (s : Inside) (h : Tidy s) where
  abbrev t : Snapshot
  t = snapshot_of s

  link-count : length t.links ≡ s.link_count
  link-count = length-take-le s.link_count s.links (omega (arith, h.links, h.all_links))

  links-back : links_from t.links ≡ s.links
  unfolding links_from
  links-back = sym (fill_by_all (λ (k : ℕ). get_or t.links k no_link) s.links 256 no_link h.all_links (λ k b. at k (dec_lt k s.link_count)))
    where
      at : (k : ℕ) → Dec (k < s.link_count) → get_or s.links k no_link ≡ get_or (take s.link_count s.links) k no_link
      at k (yes b) = sym (get_or-take s.link_count s.links k no_link b)
      at k (no n) = h.free_links k (omega (arith, n)) ∙ sym (get_or_past (take s.link_count s.links) k no_link (omega (arith, n, link-count)))

  fits : (d count : ℕ) → d ≤ 16 → count ≤ 32 → 32 * d + count ≤ length s.labels
  fits d count low few = omega (arith, low, few, h.all_labels)

  label-count : length t.labels ≡ s.label_count
  label-count = length-frame_at s.labels s.depth s.label_count (fits s.depth s.label_count h.depth h.labels)

  depth-is : length t.saved ≡ s.depth
  depth-is = length-frames_below s.labels s.saved s.depth

  oldest : length (reverse t.saved) ≡ s.depth
  oldest = length-reverse t.saved ∙ depth-is

  abbrev count_of : ℕ → ℕ
  count_of d = (get_or s.saved d no_context).label_count

  saved-at : (d : ℕ) → d < s.depth → get_or (reverse t.saved) d no_frame ≡ saved_frame (get_or s.saved d no_context) (frame_at s.labels d (count_of d))
  saved-at d below =
      let place : s.depth - 1 - d < s.depth = omega (arith, below) in
      let same : s.depth - 1 - (s.depth - 1 - d) ≡ d = omega (arith, below) in
      get_or-reverse t.saved d no_frame (omega (arith, below, depth-is))
      ∙ ap (λ (n : ℕ). get_or t.saved (n - 1 - d) no_frame) depth-is
      ∙ frames_below-at s.labels s.saved s.depth (s.depth - 1 - d) place
      ∙ ap (λ (e : ℕ). saved_frame (get_or s.saved e no_context) (frame_at s.labels e (get_or s.saved e no_context).label_count)) same

  saved-back : saved_from t.saved ≡ s.saved
  unfolding saved_from
  saved-back = sym (fill_by_all (λ (d : ℕ). context_from (get_or (reverse t.saved) d no_frame)) s.saved 16 no_context h.all_saved (λ d b. at d (dec_lt d s.depth)))
    where
      at : (d : ℕ) → Dec (d < s.depth) → get_or s.saved d no_context ≡ context_from (get_or (reverse t.saved) d no_frame)
      at d (yes below) =
          let long : length (frame_at s.labels d (count_of d)) ≡ count_of d = length-frame_at s.labels d (count_of d) (fits d (count_of d) (omega (arith, below, h.depth)) (h.saved d)) in
          sym (ap context_from (saved-at d below)
          ∙ ap (λ (n : ℕ). record { method = (get_or s.saved d no_context).method; pending = (get_or s.saved d no_context).pending; label_count = n }) long)
      at d (no n) =
          h.free_saved d (omega (arith, n))
          ∙ sym (ap context_from (get_or_past (reverse t.saved) d no_frame (omega (arith, n, oldest))))

  -- what a frame has at a place
  in-frame : (d count j : ℕ) → 32 * d + count ≤ length s.labels → (count ≤ j → get_or s.labels (32 * d + j) no_label ≡ no_label)
      → get_or (frame_at s.labels d count) j no_label ≡ get_or s.labels (32 * d + j) no_label
  in-frame d count j fit free = on (dec_lt j count)
    where
      on : Dec (j < count) → get_or (frame_at s.labels d count) j no_label ≡ get_or s.labels (32 * d + j) no_label
      on (yes below) = get_or-take count (drop (32 * d) s.labels) j no_label below ∙ get_or-drop (32 * d) s.labels j no_label
      on (no n) =
          let long = length-frame_at s.labels d count fit in
          get_or_past (frame_at s.labels d count) j no_label (omega (arith, n, long)) ∙ sym (free (omega (arith, n)))

  -- each place of the array is one of a frame
  place-in : (d j : ℕ) → j < 32 → get_or (get_or (frames_of t) d no_frame).labels j no_label ≡ get_or s.labels (32 * d + j) no_label
  place-in d j low = on (dec_lt d s.depth) (ℕ_discrete d s.depth)
    where
      on : Dec (d < s.depth) → Dec (d ≡ s.depth) → get_or (get_or (frames_of t) d no_frame).labels j no_label ≡ get_or s.labels (32 * d + j) no_label
      on (yes below) e =
          ap (λ (f : SavedFrame). get_or f.labels j no_label) (get_or_append_left (reverse t.saved) (running t ∷ []) no_frame d (omega (arith, below, oldest)) ∙ saved-at d below)
          ∙ in-frame d (count_of d) j (fits d (count_of d) (omega (arith, below, h.depth)) (h.saved d)) (λ c. h.free_below d j below c low)
      on (no n) (yes e) =
          ap (λ (f : SavedFrame). get_or f.labels j no_label) (get_or_at (reverse t.saved) (running t) [] no_frame d (oldest ∙ sym e))
          ∙ in-frame s.depth s.label_count j (fits s.depth s.label_count h.depth h.labels) (λ c. h.free_above (32 * s.depth + j) (omega (arith, c)))
          ∙ ap (λ (n : ℕ). get_or s.labels (32 * n + j) no_label) (sym e)
      on (no n) (no m) =
          let long : length (frames_of t) ≡ s.depth + 1 = length-append (reverse t.saved) (running t ∷ []) ∙ ap (λ (n : ℕ). n + 1) oldest in
          let above : s.depth < d = omega (arith, n, m) in
          ap (λ (f : SavedFrame). get_or f.labels j no_label) (get_or_past (frames_of t) d no_frame (omega (arith, above, long)))
          ∙ sym (h.free_above (32 * d + j) (omega (arith, above, h.labels)))

  labels-back : labels_from (frames_of t) ≡ s.labels
  unfolding labels_from
  labels-back =
      sym (fill_by_all (label_at (frames_of t)) s.labels 544 no_label h.all_labels
      (λ k b.
      let low : k % 32 < 32 = omega arith in
      let whole : 32 * (k / 32) + k % 32 ≡ k = omega arith in
      sym (place-in (k / 32) (k % 32) low ∙ ap (λ (n : ℕ). get_or s.labels n no_label) whole)))

  pub inverse-is : inside_of (snapshot_of s) ≡ s
  inverse-is =
      λ i. record {
        pool = s.pool;
        links = links-back i;
        link_count = link-count i;
        labels = labels-back i;
        label_count = label-count i;
        saved = saved-back i;
        depth = depth-is i;
        method = s.method;
      }

pub within-limits : (s : Inside) → Tidy s → IsWithinLimits s
within-limits s h =
    record {
      links = h.links;
      labels = h.labels;
      depth = h.depth;
      saved = h.saved;
      all_links = h.all_links;
      all_labels = h.all_labels;
      all_saved = h.all_saved;
      free_links = h.free_links;
      free_saved = h.free_saved;
      free_above = h.free_above;
      free_below = h.free_below;
      whole = inverse-is s h;
    }
