-- What the changes of a run state mean.
use Rattle.std.proofs.Common.{◌≡◌, ℕ, ◌+◌, ◌-◌, ◌*◌, ◌<◌, ◌≤◌, Option, List, ◌∷◌, [], ◌++◌, length, take, get_or, set, sym, subst, ap, ap₂, ◌∙◌, arith, get_or-set_same, get_or-set_other, length-set, length-take-le, ◌≢◌, replicate, None, Bool, true, false, ◌||◌, true≢false}
use Rattle.std.specs.Prelude.{nat_lt}
use Rattle.std.proofs.lemmas.Bool.{ltb-true}
use Rattle.std.proofs.lemmas.List.{length-replicate, get_or-replicate, get_or_past}
use Rattle.std.proofs.lemmas.Grind.{common_steps}
use native.Mathlib.Decide.{dec_lt, ℕ_discrete}
use Rattle.machine.specs.declared.label.Label.{Label}
use Rattle.machine.specs.declared.link.Link.{Link}
use Rattle.machine.specs.declared.state.Saved.{Saved}
use Rattle.machine.specs.declared.state.State.TheInside.{Inside}
use Rattle.machine.specs.Snapshot.{SavedFrame, Snapshot, no_frame, is_linked, has_link_room, called, resumed}
use Rattle.machine.specs.Frame.{frame_at, no_label, cleared}
use Rattle.machine.specs.StateView.{frames_below, no_link, no_context, snapshot_of, IsWithinLimits}
use Rattle.machine.proofs.Inverse.{within-limits}
use Rattle.machine.proofs.Frames.{saved_frame, length-frame_at, length-frames_below, frame_at-push, frames_below-set_label, frames_below-set_saved, frames_below-more, frames_below-at, length-cleared, cleared-below, cleared-in, cleared-above, frame_at-cleared, frames_below-cleared}

-- the running frame, as it is saved
abbrev pub context_of : Inside → Option ℕ → Saved
context_of s pending = record { method = s.method; pending = pending; label_count = s.label_count }

module _ (s : Inside) (now : Snapshot) (view_is : snapshot_of s ≡ now) where
  pub depth_is : length now.saved ≡ s.depth
  depth_is = subst (λ (t : Snapshot). length t.saved ≡ s.depth) view_is (length-frames_below s.labels s.saved s.depth)

  pub label_count_is : 32 * s.depth + s.label_count ≤ length s.labels → length now.labels ≡ s.label_count
  label_count_is fits = subst (λ (t : Snapshot). length t.labels ≡ s.label_count) view_is (length-frame_at s.labels s.depth s.label_count fits)

  pub link_count_is : s.link_count ≤ length s.links → length now.links ≡ s.link_count
  link_count_is fits = subst (λ (t : Snapshot). length t.links ≡ s.link_count) view_is (length-take-le s.link_count s.links fits)

  pub saved_method_is : (place : ℕ) → place < s.depth → (get_or now.saved place no_frame).method ≡ (get_or s.saved (s.depth - 1 - place) no_context).method
  saved_method_is place h =
      subst (λ (t : Snapshot). (get_or t.saved place no_frame).method ≡ (get_or s.saved (s.depth - 1 - place) no_context).method) view_is
      (ap (λ (f : SavedFrame). f.method) (frames_below-at s.labels s.saved s.depth place h))

  pub saved_pending_is : (place : ℕ) → place < s.depth → (get_or now.saved place no_frame).pending ≡ (get_or s.saved (s.depth - 1 - place) no_context).pending
  saved_pending_is place h =
      subst (λ (t : Snapshot). (get_or t.saved place no_frame).pending ≡ (get_or s.saved (s.depth - 1 - place) no_context).pending) view_is
      (ap (λ (f : SavedFrame). f.pending) (frames_below-at s.labels s.saved s.depth place h))

  pub saved_labels_are : (place : ℕ) → place < s.depth → (get_or now.saved place no_frame).labels ≡ frame_at s.labels (s.depth - 1 - place) (get_or s.saved (s.depth - 1 - place) no_context).label_count
  saved_labels_are place h =
      subst (λ (t : Snapshot). (get_or t.saved place no_frame).labels ≡ frame_at s.labels (s.depth - 1 - place) (get_or s.saved (s.depth - 1 - place) no_context).label_count) view_is
      (ap (λ (f : SavedFrame). f.labels) (frames_below-at s.labels s.saved s.depth place h))

  pub within_limits_after_push : (method : ℕ) (pending : Option ℕ) → IsWithinLimits s → s.depth < 16
      → IsWithinLimits (record s { saved = set s.saved s.depth (context_of s pending); depth = s.depth + 1; label_count = 0; method = method })
  within_limits_after_push method pending within room =
      let context = context_of s pending in
      within-limits _ (record {
        links = within.links;
        labels = omega arith;
        depth = omega arith;
        saved = λ k. grind (arith, common_steps, within.saved k, within.labels);
        all_links = within.all_links;
        all_labels = within.all_labels;
        all_saved = length-set s.saved s.depth context ∙ within.all_saved;
        free_links = within.free_links;
        free_saved = λ k above.
            let other : k ≢ s.depth = omega (arith, above) in
            get_or-set_other s.saved s.depth k context no_context other ∙ within.free_saved k (omega (arith, above));
        free_above = λ k above. within.free_above k (omega (arith, above, within.labels));
        free_below = λ d k low behind few. below d k low behind few (ℕ_discrete d s.depth);
      })
    where
      below : (d k : ℕ) → d < s.depth + 1 → (get_or (set s.saved s.depth (context_of s pending)) d no_context).label_count ≤ k → k < 32 → Dec (d ≡ s.depth) → get_or s.labels (32 * d + k) no_label ≡ no_label
      below d k low behind few (yes e) =
          let same : get_or (set s.saved s.depth (context_of s pending)) d no_context ≡ context_of s pending =
          ap (λ (n : ℕ). get_or (set s.saved s.depth (context_of s pending)) n no_context) e ∙ get_or-set_same s.saved s.depth (context_of s pending) no_context (omega (arith, room, within.all_saved)) in
          let count : s.label_count ≤ k = subst (λ (x : Saved). x.label_count ≤ k) same behind in
          within.free_above (32 * d + k) (omega (arith, e, count))
      below d k low behind few (no n) =
          let same : get_or (set s.saved s.depth (context_of s pending)) d no_context ≡ get_or s.saved d no_context = get_or-set_other s.saved s.depth d (context_of s pending) no_context n in
          within.free_below d k (omega (arith, low, n)) (subst (λ (x : Saved). x.label_count ≤ k) same behind) few

  pub within_limits_after_push_label : (label : Label) → IsWithinLimits s → s.label_count < 32
      → IsWithinLimits (record s { labels = set s.labels (32 * s.depth + s.label_count) label; label_count = s.label_count + 1 })
  within_limits_after_push_label label within room =
      let place = 32 * s.depth + s.label_count in
      within-limits _ (record {
        links = within.links;
        labels = omega (arith, room);
        depth = within.depth;
        saved = within.saved;
        all_links = within.all_links;
        all_labels = length-set s.labels place label ∙ within.all_labels;
        all_saved = within.all_saved;
        free_links = within.free_links;
        free_saved = within.free_saved;
        free_above = λ k above.
            let other : k ≢ place = omega (arith, above) in
            get_or-set_other s.labels place k label no_label other ∙ within.free_above k (omega (arith, above));
        free_below = λ d k below behind few.
            let other : 32 * d + k ≢ place = omega (arith, below, few) in
            get_or-set_other s.labels place (32 * d + k) label no_label other ∙ within.free_below d k below behind few;
      })

  pub within_limits_after_link : (link : Link) → IsWithinLimits s → s.link_count < 256
      → IsWithinLimits (record s { links = set s.links s.link_count link; link_count = s.link_count + 1 })
  within_limits_after_link link within room =
      within-limits _ (record {
        links = omega (arith, room);
        labels = within.labels;
        depth = within.depth;
        saved = within.saved;
        all_links = length-set s.links s.link_count link ∙ within.all_links;
        all_labels = within.all_labels;
        all_saved = within.all_saved;
        free_links = λ k above.
            let other : k ≢ s.link_count = omega (arith, above) in
            get_or-set_other s.links s.link_count k link no_link other ∙ within.free_links k (omega (arith, above));
        free_saved = within.free_saved;
        free_above = within.free_above;
        free_below = within.free_below;
      })

  pub within_limits_after_pop : IsWithinLimits s → 0 < s.depth
      → IsWithinLimits (record s {
        labels = cleared s.labels s.depth;
        saved = set s.saved (s.depth - 1) no_context;
        depth = s.depth - 1;
        label_count = (get_or s.saved (s.depth - 1) no_context).label_count;
        method = (get_or s.saved (s.depth - 1) no_context).method;
      })
  within_limits_after_pop within waits =
      within-limits _ (record {
        links = within.links;
        labels = within.saved (s.depth - 1);
        depth = omega (arith, within.depth);
        saved = λ k. few k (ℕ_discrete k (s.depth - 1));
        all_links = within.all_links;
        all_labels = length-cleared s.labels s.depth fits ∙ within.all_labels;
        all_saved = length-set s.saved (s.depth - 1) no_context ∙ within.all_saved;
        free_links = within.free_links;
        free_saved = λ k above. free k above (ℕ_discrete k (s.depth - 1));
        free_above = λ k above. over k above (dec_lt k (32 * s.depth)) (dec_lt k (32 * s.depth + 32));
        free_below = λ d k below behind low.
            let other : d ≢ s.depth - 1 = omega (arith, below) in
            let same : get_or (set s.saved (s.depth - 1) no_context) d no_context ≡ get_or s.saved d no_context = get_or-set_other s.saved (s.depth - 1) d no_context no_context other in
            cleared-below s.labels s.depth fits (32 * d + k) (omega (arith, below, low))
            ∙ within.free_below d k (omega (arith, below)) (subst (λ (x : Saved). x.label_count ≤ k) same behind) low;
      })
    where
      fits : 32 * s.depth + 32 ≤ length s.labels
      fits = omega (arith, within.depth, within.all_labels)

      few : (k : ℕ) → Dec (k ≡ s.depth - 1) → (get_or (set s.saved (s.depth - 1) no_context) k no_context).label_count ≤ 32
      few k (yes e) =
          let same : get_or (set s.saved (s.depth - 1) no_context) k no_context ≡ no_context =
          ap (λ (n : ℕ). get_or (set s.saved (s.depth - 1) no_context) n no_context) e ∙ get_or-set_same s.saved (s.depth - 1) no_context no_context (omega (arith, waits, within.depth, within.all_saved)) in
          subst (λ (x : Saved). x.label_count ≤ 32) (sym same) (omega arith)
      few k (no n) = subst (λ (x : Saved). x.label_count ≤ 32) (sym (get_or-set_other s.saved (s.depth - 1) k no_context no_context n)) (within.saved k)

      free : (k : ℕ) → s.depth - 1 ≤ k → Dec (k ≡ s.depth - 1) → get_or (set s.saved (s.depth - 1) no_context) k no_context ≡ no_context
      free k above (yes e) =
          ap (λ (n : ℕ). get_or (set s.saved (s.depth - 1) no_context) n no_context) e ∙ get_or-set_same s.saved (s.depth - 1) no_context no_context (omega (arith, waits, within.depth, within.all_saved))
      free k above (no n) = get_or-set_other s.saved (s.depth - 1) k no_context no_context n ∙ within.free_saved k (omega (arith, above, n))

      over : (k : ℕ) → 32 * (s.depth - 1) + (get_or s.saved (s.depth - 1) no_context).label_count ≤ k → Dec (k < 32 * s.depth) → Dec (k < 32 * s.depth + 32) → get_or (cleared s.labels s.depth) k no_label ≡ no_label
      over k above (yes below) e =
          let place : 32 * (s.depth - 1) + (k - 32 * (s.depth - 1)) ≡ k = omega (arith, above) in
          let low : k - 32 * (s.depth - 1) < 32 = omega (arith, below, waits) in
          cleared-below s.labels s.depth fits k below
          ∙ sym (ap (λ (n : ℕ). get_or s.labels n no_label) place)
          ∙ within.free_below (s.depth - 1) (k - 32 * (s.depth - 1)) (omega (arith, waits)) (omega (arith, above)) low
      over k above (no n) (yes below) = cleared-in s.labels s.depth fits k (omega (arith, n)) below
      over k above (no n) (no m) = cleared-above s.labels s.depth fits k (omega (arith, m)) ∙ within.free_above k (omega (arith, m, within.labels))

  pub after_push_label : (label : Label) → IsWithinLimits s → 32 * s.depth + s.label_count < length s.labels
      → snapshot_of (record s { labels = set s.labels (32 * s.depth + s.label_count) label; label_count = s.label_count + 1 }) ≡ record now { labels = now.labels ++ label ∷ [] }
  after_push_label label within fits =
      subst (λ (t : Snapshot). snapshot_of (record s { labels = set s.labels (32 * s.depth + s.label_count) label; label_count = s.label_count + 1 }) ≡ record t { labels = t.labels ++ label ∷ [] }) view_is
      (ap₂ (λ (labels : List Label) (saved : List SavedFrame). let t = snapshot_of s in record t { labels = labels; saved = saved })
      (frame_at-push s.labels s.depth s.label_count label fits)
      (frames_below-set_label s.labels s.saved s.depth (32 * s.depth + s.label_count) label within.saved (omega arith)))

  pub after_push : (method : ℕ) (pending : Option ℕ) → s.depth < length s.saved
      → snapshot_of (record s { saved = set s.saved s.depth (context_of s pending); depth = s.depth + 1; label_count = 0; method = method }) ≡ called now method pending
  after_push method pending room =
      let context = context_of s pending in
      let newest : get_or (set s.saved s.depth context) s.depth no_context ≡ context = rw get_or-set_same in
      let frames =
      frames_below-more s.labels (set s.saved s.depth context) s.depth
      ∙ ap₂ (λ (x : Saved) (older : List SavedFrame). saved_frame x (frame_at s.labels s.depth x.label_count) ∷ older) newest
      (frames_below-set_saved s.labels s.saved s.depth s.depth context (omega arith)) in
      ap (λ (saved : List SavedFrame). record { pool = s.pool; links = take s.link_count s.links; labels = []; method = method; saved = saved }) frames
      ∙ ap (λ (t : Snapshot). called t method pending) view_is

  pub after_pop : 0 < s.depth → 32 * s.depth + 32 ≤ length s.labels → ((k : ℕ) → (get_or s.saved k no_context).label_count ≤ 32)
      → snapshot_of (record s {
        labels = cleared s.labels s.depth;
        saved = set s.saved (s.depth - 1) no_context;
        depth = s.depth - 1;
        label_count = (get_or s.saved (s.depth - 1) no_context).label_count;
        method = (get_or s.saved (s.depth - 1) no_context).method;
      }) ≡ resumed now now.saved
  after_pop waits fits within =
      let caller = get_or s.saved (s.depth - 1) no_context in
      let one_more : s.depth ≡ s.depth - 1 + 1 = omega arith in
      let frames : frames_below s.labels s.saved s.depth ≡ saved_frame caller (frame_at s.labels (s.depth - 1) caller.label_count) ∷ frames_below s.labels s.saved (s.depth - 1) =
      ap (λ (depth : ℕ). frames_below s.labels s.saved depth) one_more ∙ frames_below-more s.labels s.saved (s.depth - 1) in
      ap₂ (λ (labels : List Label) (saved : List SavedFrame). record { pool = s.pool; links = take s.link_count s.links; labels = labels; method = caller.method; saved = saved })
      (frame_at-cleared s.labels s.depth fits (s.depth - 1) caller.label_count (omega (arith, waits)) (within (s.depth - 1)))
      (frames_below-set_saved (cleared s.labels s.depth) s.saved (s.depth - 1) (s.depth - 1) no_context (omega arith)
      ∙ frames_below-cleared s.labels s.depth fits s.saved within (s.depth - 1) (omega arith))
      ∙ sym (ap (λ (frames : List SavedFrame). resumed (snapshot_of s) frames) frames)
      ∙ ap (λ (t : Snapshot). resumed t t.saved) view_is

or-right : (a b : Bool) → (a || b) ≡ true → a ≡ false → b ≡ true
or-right true b h e = absurd (true≢false e)
or-right false b h e = h

-- where there is room for a link that is not there, it is that of one more
pub link_room : (links : List Link) (link : Link) → has_link_room links link ≡ true → is_linked links link ≡ false → length links < 256
link_room links link h e = ltb-true (length links) 256 (or-right (is_linked links link) (nat_lt (length links) 256) h e)

-- a run before anything is there
pub within_limits_at_start : (method : ℕ)
    → IsWithinLimits (record {
      pool = replicate 256 None;
      links = replicate 256 no_link;
      link_count = 0;
      labels = replicate 544 no_label;
      label_count = 0;
      saved = replicate 16 no_context;
      depth = 0;
      method = method;
    })
within_limits_at_start method =
    within-limits _ (record {
      links = omega arith;
      labels = omega arith;
      depth = omega arith;
      saved = λ k. subst (λ (x : Saved). x.label_count ≤ 32) (sym (same 16 no_context k)) (omega arith);
      all_links = length-replicate 256 no_link;
      all_labels = length-replicate 544 no_label;
      all_saved = length-replicate 16 no_context;
      free_links = λ k above. same 256 no_link k;
      free_saved = λ k above. same 16 no_context k;
      free_above = λ k above. same 544 no_label k;
      free_below = λ d k below behind low. same 544 no_label (32 * d + k);
    })
  where
    same : {A : Type 0} (n : ℕ) (x : A) (k : ℕ) → get_or (replicate n x) k x ≡ x
    same n x k = on (dec_lt k n)
      where
        on : Dec (k < n) → get_or (replicate n x) k x ≡ x
        on (yes h) = get_or-replicate n k x x h
        on (no h) = get_or_past (replicate n x) k x (omega (arith, h, length-replicate n x))

-- what the methods of `State` try at their goals
pub ruleset changes = (depth_is, label_count_is, saved_method_is, saved_pending_is, saved_labels_are, after_push_label, after_pop)
