-- Each snapshot within the limits is that of a run state: the arrays that it says are within them, with nothing behind their counts, and mean it.
-- Assumes nothing.
use Rattle.std.proofs.Common.{◌≡◌, ℕ, zero, suc, ◌+◌, ◌-◌, ◌*◌, ◌/◌, ◌%◌, ◌<◌, ◌≤◌, List, ◌∷◌, [], length, get_or, take, drop, map, reverse, refl, sym, subst, ap, ap₂, ◌∙◌, arith, get_or-drop, get_or-take, length-take-le, ext_get_or}
use Rattle.std.specs.List.{range_with_len}
use Rattle.std.proofs.lemmas.List.{length-reverse, length-append, length-map, get_or_append_left, get_or_at, get_or-reverse, get_or_past}
use Rattle.std.proofs.lemmas.List.FromFn.{get_or-map-range_with_len, length-map-range_with_len}
use native.Mathlib.Decide.{dec_lt, ℕ_discrete}
use mathlib.Core.List.{Memᴰ}
use Rattle.meaning.specs.Lists.{In}
use Rattle.runs.specs.Machine as M
use Rattle.runs.specs.Admitted as A
use Rattle.machine.specs.declared.label.Label.{Label}
use Rattle.machine.specs.declared.link.Link.{Link}
use Rattle.machine.specs.declared.state.Saved.{Saved}
use Rattle.machine.specs.Definitions.{label_from, link_from, frame_from, snapshot_from}
use Rattle.machine.specs.Snapshot.{SavedFrame, Snapshot, no_frame}
use Rattle.machine.specs.Frame.{frame_at, no_label}
use Rattle.machine.specs.StateView.{frames_below, no_link, no_context, snapshot_of, IsWithinLimits, running, frames_of, context_from, label_at, links_from, labels_from, saved_from, inside_of}
use Rattle.machine.proofs.Frames.{saved_frame, length-frame_at, length-frames_below, frames_below-at}
use Rattle.machine.proofs.Inverse.{Tidy, within-limits}

-- the limits of a snapshot
pub record Within (t : Snapshot) : Type 0 where
  pub links : length t.links ≤ 256
  pub labels : length t.labels ≤ 32
  pub depth : length t.saved ≤ 16
  pub saved : (k : ℕ) → length (get_or t.saved k no_frame).labels ≤ 32

-- a list that is made place by place, where nothing stands behind its end
from-at : {X : Type 0} (f : ℕ → X) (n k : ℕ) (d : X) → (n ≤ k → f k ≡ d) → get_or (map f (range_with_len 0 n)) k d ≡ f k
from-at f n k d past = on (dec_lt k n)
  where
    on : Dec (k < n) → get_or (map f (range_with_len 0 n)) k d ≡ f k
    on (yes b) = get_or-map-range_with_len f 0 n k k d b (omega arith)
    on (no m) = get_or_past (map f (range_with_len 0 n)) k d (omega (arith, m, length-map-range_with_len f 0 n)) ∙ sym (past (omega (arith, m)))

module _ (t : Snapshot) (h : Within t) where
  abbrev links : List Link
  links = links_from t.links

  abbrev labels : List Label
  labels = labels_from (frames_of t)

  abbrev saved : List Saved
  saved = saved_from t.saved

  long-links : length links ≡ 256
  unfolding links_from
  long-links = length-map-range_with_len (λ (place : ℕ). get_or t.links place no_link) 0 256

  long-labels : length labels ≡ 544
  unfolding labels_from
  long-labels = length-map-range_with_len (label_at (frames_of t)) 0 544

  long-saved : length saved ≡ 16
  unfolding saved_from
  long-saved = length-map-range_with_len (λ (depth : ℕ). context_from (get_or (reverse t.saved) depth no_frame)) 0 16

  oldest : length (reverse t.saved) ≡ length t.saved
  oldest = length-reverse t.saved

  all : length (frames_of t) ≡ length t.saved + 1
  all = length-append (reverse t.saved) (running t ∷ []) ∙ ap (λ (n : ℕ). n + 1) oldest

  -- ---- what stands in the places

  links-at : (k : ℕ) → get_or links k no_link ≡ get_or t.links k no_link
  unfolding links_from
  links-at k = from-at (λ (place : ℕ). get_or t.links place no_link) 256 k no_link (λ m. get_or_past t.links k no_link (omega (arith, m, h.links)))

  saved-at : (k : ℕ) → get_or saved k no_context ≡ context_from (get_or (reverse t.saved) k no_frame)
  unfolding saved_from
  saved-at k =
      from-at (λ (depth : ℕ). context_from (get_or (reverse t.saved) depth no_frame)) 16 k no_context
      (λ m. ap context_from (get_or_past (reverse t.saved) k no_frame (omega (arith, m, oldest, h.depth))))

  labels-at : (k : ℕ) → get_or labels k no_label ≡ label_at (frames_of t) k
  unfolding labels_from
  labels-at k =
      from-at (label_at (frames_of t)) 544 k no_label
      (λ m. ap (λ (f : SavedFrame). get_or f.labels (k % 32) no_label) (get_or_past (frames_of t) (k / 32) no_frame (omega (arith, m, all, h.depth))))

  place : (d j : ℕ) → j < 32 → get_or labels (32 * d + j) no_label ≡ get_or (get_or (frames_of t) d no_frame).labels j no_label
  place d j low =
      let frame : (32 * d + j) / 32 ≡ d = omega (arith, low) in
      let rest : (32 * d + j) % 32 ≡ j = omega (arith, low) in
      labels-at (32 * d + j) ∙ ap₂ (λ (q r : ℕ). get_or (get_or (frames_of t) q no_frame).labels r no_label) frame rest

  frame-saved : (d : ℕ) → d < length t.saved → get_or (frames_of t) d no_frame ≡ get_or (reverse t.saved) d no_frame
  frame-saved d below = get_or_append_left (reverse t.saved) (running t ∷ []) no_frame d (omega (arith, below, oldest))

  frame-running : get_or (frames_of t) (length t.saved) no_frame ≡ running t
  frame-running = get_or_at (reverse t.saved) (running t) [] no_frame (length t.saved) oldest

  few : (k : ℕ) → length (get_or (reverse t.saved) k no_frame).labels ≤ 32
  few k = on (dec_lt k (length t.saved))
    where
      on : Dec (k < length t.saved) → length (get_or (reverse t.saved) k no_frame).labels ≤ 32
      on (yes b) = subst (λ (f : SavedFrame). length f.labels ≤ 32) (sym (get_or-reverse t.saved k no_frame b)) (h.saved (length t.saved - 1 - k))
      on (no n) = subst (λ (f : SavedFrame). length f.labels ≤ 32) (sym (get_or_past (reverse t.saved) k no_frame (omega (arith, n, oldest)))) (omega arith)

  -- ---- nothing stands behind the counts

  above-all : (k : ℕ) → 32 * length t.saved + length t.labels ≤ k → Dec (k / 32 ≡ length t.saved) → get_or labels k no_label ≡ no_label
  above-all k above (yes e) =
      let behind : length t.labels ≤ k % 32 = omega (arith, above, e) in
      labels-at k
      ∙ ap (λ (n : ℕ). get_or (get_or (frames_of t) n no_frame).labels (k % 32) no_label) e
      ∙ ap (λ (f : SavedFrame). get_or f.labels (k % 32) no_label) frame-running
      ∙ get_or_past t.labels (k % 32) no_label behind
  above-all k above (no n) =
      let high : length t.saved < k / 32 = omega (arith, above, n) in
      labels-at k ∙ ap (λ (f : SavedFrame). get_or f.labels (k % 32) no_label) (get_or_past (frames_of t) (k / 32) no_frame (omega (arith, all, high)))

  tidy : Tidy (inside_of t)
  tidy =
      record {
        links = h.links;
        labels = h.labels;
        depth = h.depth;
        saved = λ k. subst (λ (x : Saved). x.label_count ≤ 32) (sym (saved-at k)) (few k);
        all_links = long-links;
        all_labels = long-labels;
        all_saved = long-saved;
        free_links = λ k above. links-at k ∙ get_or_past t.links k no_link above;
        free_saved = λ k above. saved-at k ∙ ap context_from (get_or_past (reverse t.saved) k no_frame (omega (arith, above, oldest)));
        free_above = λ k above. above-all k above (ℕ_discrete (k / 32) (length t.saved));
        free_below = λ d k below behind low.
            place d k low
            ∙ ap (λ (f : SavedFrame). get_or f.labels k no_label) (frame-saved d below)
            ∙ get_or_past (get_or (reverse t.saved) d no_frame).labels k no_label (subst (λ (x : Saved). x.label_count ≤ k) (saved-at d) behind);
      }

  -- ---- and they mean the snapshot

  links-are : take (length t.links) links ≡ t.links
  links-are =
      let long : length (take (length t.links) links) ≡ length t.links = length-take-le (length t.links) links (omega (arith, h.links, long-links)) in
      ext_get_or no_link (take (length t.links) links) t.links long
      (λ i b. get_or-take (length t.links) links i no_link (omega (arith, b, long)) ∙ links-at i)

  frame-is : (d : ℕ) (f : SavedFrame) → d ≤ 16 → length f.labels ≤ 32 → get_or (frames_of t) d no_frame ≡ f → frame_at labels d (length f.labels) ≡ f.labels
  frame-is d f low short e =
      let count = length f.labels in
      let long : length (frame_at labels d count) ≡ count = length-frame_at labels d count (omega (arith, low, short, long-labels)) in
      ext_get_or no_label (frame_at labels d count) f.labels long
      (λ i b.
      let below : i < count = omega (arith, b, long) in
      get_or-take count (drop (32 * d) labels) i no_label below
      ∙ get_or-drop (32 * d) labels i no_label
      ∙ place d i (omega (arith, below, short))
      ∙ ap (λ (g : SavedFrame). get_or g.labels i no_label) e)

  frame-back : (i : ℕ) → i < length t.saved → get_or (frames_below labels saved (length t.saved)) i no_frame ≡ get_or t.saved i no_frame
  frame-back i below =
      let d = length t.saved - 1 - i in
      let g = get_or (reverse t.saved) d no_frame in
      let low : d < length t.saved = omega (arith, below) in
      let same : length t.saved - 1 - d ≡ i = omega (arith, below) in
      frames_below-at labels saved (length t.saved) i below
      ∙ ap (λ (x : Saved). saved_frame x (frame_at labels d x.label_count)) (saved-at d)
      ∙ ap (λ (ls : List Label). record { method = g.method; pending = g.pending; labels = ls }) (frame-is d g (omega (arith, low, h.depth)) (few d) (frame-saved d low))
      ∙ get_or-reverse t.saved d no_frame low
      ∙ ap (λ (n : ℕ). get_or t.saved n no_frame) same

  saved-are : frames_below labels saved (length t.saved) ≡ t.saved
  saved-are =
      let long = length-frames_below labels saved (length t.saved) in
      ext_get_or no_frame (frames_below labels saved (length t.saved)) t.saved long (λ i b. frame-back i (omega (arith, b, long)))

  -- each snapshot within the limits has arrays that are within them
  pub fine-of : IsWithinLimits (inside_of t)
  fine-of = within-limits (inside_of t) tidy

  -- and they mean it
  pub means-it : snapshot_of (inside_of t) ≡ t
  means-it =
      λ i. record {
        pool = t.pool;
        links = links-are i;
        labels = frame-is (length t.saved) (running t) h.depth h.labels frame-running i;
        method = t.method;
        saved = saved-are i;
      }

-- ---- so each state of the definitions within the limits is what some run state means

short : (ks : List M.Saved) → ((x : M.Saved) → In x ks → length x.labels ≤ 32) → (k : ℕ) → length (get_or (map frame_from ks) k no_frame).labels ≤ 32
short [] f k = omega arith
short (x ∷ ks) f zero = subst (λ (n : ℕ). n ≤ 32) (sym (length-map x.labels label_from)) (f x (Memᴰ.head refl))
short (x ∷ ks) f (suc k) = short ks (λ y m. f y (Memᴰ.tail m)) k

pub within-from : (s : M.State) → A.Within s → Within (snapshot_from s)
within-from s w =
    record {
      links = subst (λ (n : ℕ). n ≤ 256) (sym (length-map s.links link_from)) w.links;
      labels = subst (λ (n : ℕ). n ≤ 32) (sym (length-map s.labels label_from)) w.labels;
      depth = subst (λ (n : ℕ). n ≤ 16) (sym (length-map s.saved frame_from)) w.saved;
      saved = short s.saved w.frames;
    }

pub within-fine : (s : M.State) → A.Within s → IsWithinLimits (inside_of (snapshot_from s))
within-fine s w = fine-of (snapshot_from s) (within-from s w)

pub view-pack : (s : M.State) → A.Within s → snapshot_of (inside_of (snapshot_from s)) ≡ snapshot_from s
view-pack s w = means-it (snapshot_from s) (within-from s w)
