use Rattle.std.proofs.Common.{◌≡◌, ℕ, ◌<◌, length, slice_index}
use Rattle.meaning.specs.Tables.{slot_of}
use Rattle.tables.specs.View.{view}
use Rattle.pair_rules.proofs.slots.slots.Given as goal

abbrev pub invariant-loop-number : goal.invariant-loop-number
invariant-loop-number l = record {
  long : length l.keys ≡ 256;
  keys : (m : ℕ) → m < l.number → slice_index l.keys m ≡ slot_of (view l.tables) m;
}
