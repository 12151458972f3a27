use Rattle.std.proofs.Common.{◌≡◌, ℕ, ◌<◌, length, slice_index}
use Rattle.search.specs.Keys.{OwnStart}
use Rattle.search.proofs.chains.own_starts.Given as goal

abbrev pub invariant-loop-place : goal.invariant-loop-place
invariant-loop-place l = record {
  long : length l.starts ≡ 256;
  own : (a : ℕ) → a < l.place → OwnStart l.keys l.count a (slice_index l.starts a);
}
