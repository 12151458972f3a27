-- The places of the frames in the array of labels.
-- Assumes nothing.
use Rattle.std.specs.Prelude.{ℕ, ◌+◌, ◌*◌, List, ◌++◌, take, drop, replicate}
use Rattle.machine.specs.declared.label.Label.{Label}

-- what stands in a place of no label
abbrev pub no_label : Label
no_label = record { object = 0; class = 0 }

-- the frame at this depth, of `count` labels: each frame has 32 places
abbrev pub frame_at : List Label → ℕ → ℕ → List Label
frame_at labels depth count = take count (drop (32 * depth) labels)

-- the places of a frame without a label
unfoldable pub no_labels : List Label
no_labels = replicate 32 no_label

-- the labels, where the frame at this depth has none
abbrev pub cleared : List Label → ℕ → List Label
cleared labels depth = take (32 * depth) labels ++ (no_labels ++ drop (32 * depth + 32) labels)
