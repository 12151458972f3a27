use Rattle.std.proofs.Common.{◌≡◌, ◌≤◌, ◌+◌, drop, length, fold}
use Rattle.std.specs.List.{zip}
use Rattle.machine.specs.Snapshot.{label_of, add_label}
use Rattle.machine.specs.Steps.{passed}
use Rattle.machine.proofs.state.State.pass.Given as goal

-- only the labels change, those of the objects that are left come on top, and each turn adds one at most
abbrev pub invariant-loop-place : goal.invariant-loop-place
invariant-loop-place l = record {
  rest : l.self ≡ record l.initial.self { labels = l.self.labels };
  left : fold (λ labels pair. add_label labels (label_of pair.0 pair.1)) l.self.labels (zip (drop l.place l.objects) (drop l.place l.classes)) ≡ passed l.initial.self.labels l.objects l.classes;
  few : length l.self.labels ≤ length l.initial.self.labels + l.place;
}
