use Rattle.std.proofs.Common.{ℕ, ◌<◌, true, slice_index}
use Rattle.meaning.specs.Lists.{In}
use Rattle.meaning.specs.Tables.{supers_of}
use Rattle.tables.specs.View.{view}
use Rattle.pair_rules.proofs.clearing.holds_at_steps.Given as goal

-- the test passes at the classes so far
abbrev pub invariant-loop-class : goal.invariant-loop-class
invariant-loop-class g l = (c s : ℕ) → c < l.class → In s (supers_of (view l.tables) c) → goal.F-post g l.holds s c true

-- and at this one's direct supertypes so far
abbrev pub invariant-loop-supertype : goal.invariant-loop-supertype
invariant-loop-supertype g l = (j : ℕ) → j < l.supertype-index → goal.F-post g l.holds (slice_index l.supertypes j) l.class true
