use Rattle.std.proofs.Common.{◌≡◌, length}
use Rattle.tables.specs.View.{view}
use Rattle.permits.specs.Chained.{Chained}
use Rattle.permits.proofs.chains.Permits.new.Given as goal

-- the chains of the effects that were met
abbrev pub invariant-loop-place : goal.invariant-loop-place
invariant-loop-place l = record {
  chained : Chained (view l.tables) l.tables.effects l.place l.newest l.before;
  groups : length l.newest ≡ 2048;
  effects : length l.before ≡ 1024;
}
