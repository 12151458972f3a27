use Rattle.std.proofs.Common.{◌≡◌, ◌+◌, ◌*◌, ◌≤◌, ◌++◌, map, drop, length}
use Rattle.runs.specs.Holdings.{key}
use Rattle.tables.specs.View.{view}
use Rattle.holdings.specs.Held.{framed, saved_held, linked, held, AllBytes}
use Rattle.holdings.proofs.keys.add_all.Given as goal

-- the keys of the running frame and of the saved ones passed have joined, and those of the others and of the links are left
abbrev pub invariant-loop-place : goal.invariant-loop-place
invariant-loop-place l = record {
  left : l.keys ++ map key (saved_held (view l.tables) (drop l.place l.state.saved) ++ map (linked (view l.tables)) l.state.links) ≡ map key (held (view l.tables) l.state);
  bytes : AllBytes (saved_held (view l.tables) (drop l.place l.state.saved)) → AllBytes (framed (view l.tables) l.state.method l.state.labels ++ saved_held (view l.tables) l.state.saved);
  few : length l.keys ≤ 32 + 32 * l.place;
}
