-- What the arrays of a run state mean, and the arrays that mean it.
-- Assumes nothing.
use Rattle.std.specs.Prelude.{ℕ, zero, suc, ◌≡◌, ◌+◌, ◌*◌, ◌/◌, ◌%◌, ◌<◌, ◌≤◌, None, List, [], ◌∷◌, ◌++◌, map, reverse, length, take, slice_index_or}
use Rattle.std.specs.List.{range_with_len}
use Rattle.machine.specs.declared.label.Label.{Label}
use Rattle.machine.specs.declared.link.Link.{Link}
use Rattle.machine.specs.declared.state.Saved.{Saved}
use Rattle.machine.specs.declared.state.State.TheInside.{Inside}
use Rattle.machine.specs.Frame.{frame_at, no_label}
use Rattle.machine.specs.Snapshot.{SavedFrame, Snapshot, no_frame}

abbrev pub no_link : Link
no_link = record { owner = 0; declared = 0; typ = 0; target = 0 }

abbrev pub no_context : Saved
no_context = record { method = 0; pending = None; label_count = 0 }

abbrev pub frames_below : List Label → List Saved → ℕ → List SavedFrame
frames_below labels saved zero = []
frames_below labels saved (suc depth) =
    record {
      method = (slice_index_or saved depth no_context).method;
      pending = (slice_index_or saved depth no_context).pending;
      labels = frame_at labels depth (slice_index_or saved depth no_context).label_count;
    } ∷ frames_below labels saved depth

abbrev pub snapshot_of : Inside → Snapshot
snapshot_of s =
    record {
      pool = s.pool;
      links = take s.link_count s.links;
      labels = frame_at s.labels s.depth s.label_count;
      method = s.method;
      saved = frames_below s.labels s.saved s.depth;
    }

-- ---- and back

-- the running frame, as one that waits for nothing
abbrev pub running : Snapshot → SavedFrame
running t = record { method = t.method; pending = None; labels = t.labels }

-- all frames, the oldest first
abbrev pub frames_of : Snapshot → List SavedFrame
frames_of t = reverse t.saved ++ running t ∷ []

abbrev pub context_from : SavedFrame → Saved
context_from f = record { method = f.method; pending = f.pending; label_count = length f.labels }

abbrev pub label_at : List SavedFrame → ℕ → Label
label_at frames place = slice_index_or (slice_index_or frames (place / 32) no_frame).labels (place % 32) no_label

unfoldable pub links_from : List Link → List Link
links_from links = map (λ place. slice_index_or links place no_link) (range_with_len 0 256)

unfoldable pub labels_from : List SavedFrame → List Label
labels_from frames = map (label_at frames) (range_with_len 0 544)

unfoldable pub saved_from : List SavedFrame → List Saved
saved_from frames = map (λ depth. context_from (slice_index_or (reverse frames) depth no_frame)) (range_with_len 0 16)

-- the arrays of a state with this snapshot
abbrev pub inside_of : Snapshot → Inside
inside_of t =
    record {
      pool = t.pool;
      links = links_from t.links;
      link_count = length t.links;
      labels = labels_from (frames_of t);
      label_count = length t.labels;
      saved = saved_from t.saved;
      depth = length t.saved;
      method = t.method;
    }

-- The counts are within the limits, and nothing stands behind them: so the arrays are those that the snapshot says.
pub record IsWithinLimits (s : Inside) : Type 0 where
  pub links : s.link_count ≤ 256
  pub labels : s.label_count ≤ 32
  pub depth : s.depth ≤ 16
  pub saved : (k : ℕ) → (slice_index_or s.saved k no_context).label_count ≤ 32
  pub all_links : length s.links ≡ 256
  pub all_labels : length s.labels ≡ 544
  pub all_saved : length s.saved ≡ 16
  pub free_links : (k : ℕ) → s.link_count ≤ k → slice_index_or s.links k no_link ≡ no_link
  pub free_saved : (k : ℕ) → s.depth ≤ k → slice_index_or s.saved k no_context ≡ no_context
  pub free_above : (k : ℕ) → 32 * s.depth + s.label_count ≤ k → slice_index_or s.labels k no_label ≡ no_label
  pub free_below : (d k : ℕ) → d < s.depth → (slice_index_or s.saved d no_context).label_count ≤ k → k < 32 → slice_index_or s.labels (32 * d + k) no_label ≡ no_label
  pub whole : inside_of (snapshot_of s) ≡ s
