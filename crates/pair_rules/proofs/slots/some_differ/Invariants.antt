use Rattle.std.proofs.Common.{◌≡◌, ℕ, ◌<◌, false, slice_index}
use Rattle.tables.specs.View.{view}
use Rattle.pair_tests.specs.Methods.{types_differ}
use Rattle.pair_rules.proofs.slots.some_differ.Given as goal

abbrev pub invariant-loop-number : goal.invariant-loop-number
invariant-loop-number l = (m : ℕ) → m < l.number → slice_index l.slots.starts m < l.count → types_differ (view l.tables) (slice_index l.slots.starts m) m ≡ false
