use Rattle.std.proofs.Common.{◌≡◌, ℕ, ◌<◌, ◌+◌, length, slice_index}
use Rattle.search.specs.Keys.{FirstFrom, IsStarted}
use Rattle.search.proofs.chains.Chains.new.Given as goal

-- each place so far has its next, and has handed its start on to it
abbrev pub invariant-loop-place : goal.invariant-loop-place
invariant-loop-place l = record {
  starts_long : length l.starts ≡ 256;
  nexts_long : length l.nexts ≡ 256;
  started : IsStarted l.keys l.count l.place l.starts;
  linked : (a : ℕ) → a < l.place → FirstFrom l.keys l.count (a + 1) (slice_index l.keys a) (slice_index l.nexts a);
}
