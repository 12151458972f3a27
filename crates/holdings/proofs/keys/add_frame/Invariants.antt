use Rattle.std.proofs.Common.{◌≡◌, ◌+◌, ◌<◌, ◌++◌, ℕ, map, drop, get_or, length}
use Rattle.machine.specs.declared.label.Label.{Label}
use Rattle.runs.specs.Holdings.{key, Bytes}
use Rattle.holdings.specs.Held.{labelled}
use Rattle.holdings.proofs.keys.add_frame.Given as goal

-- the keys of the labels passed have joined, and those of the others are left
abbrev pub invariant-loop-label : goal.invariant-loop-label
invariant-loop-label l = record {
  left : l.keys ++ map key (map (labelled l.domain) (drop l.label-index l.labels)) ≡ l.initial.keys ++ map key (map (labelled l.domain) l.labels);
  bytes : (k : ℕ) (d : Label) → k < l.label-index → Bytes (labelled l.domain (get_or l.labels k d));
  count : length l.keys ≡ length l.initial.keys + l.label-index;
}
