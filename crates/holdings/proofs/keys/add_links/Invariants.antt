use Rattle.std.proofs.Common.{◌≡◌, ◌+◌, ◌<◌, ◌++◌, ℕ, map, drop, get_or, length}
use Rattle.machine.specs.declared.link.Link.{Link}
use Rattle.runs.specs.Holdings.{key, Bytes}
use Rattle.tables.specs.View.{view}
use Rattle.holdings.specs.Held.{linked}
use Rattle.holdings.proofs.keys.add_links.Given as goal

-- the keys of the links passed have joined, and those of the others are left
abbrev pub invariant-loop-link : goal.invariant-loop-link
invariant-loop-link l = record {
  left : l.keys ++ map key (map (linked (view l.tables)) (drop l.link-index l.links)) ≡ l.initial.keys ++ map key (map (linked (view l.tables)) l.links);
  bytes : (k : ℕ) (d : Link) → k < l.link-index → Bytes (linked (view l.tables) (get_or l.links k d));
  count : length l.keys ≡ length l.initial.keys + l.link-index;
}
