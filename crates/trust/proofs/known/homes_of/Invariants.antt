use Rattle.std.proofs.Common.{ℕ, ◌≡◌, ◌<◌, ◌≤◌, get_or, length}
use Rattle.meaning.specs.Tables.{home}
use Rattle.tables.specs.View.{view}
use Rattle.trust.proofs.known.homes_of.Given as goal

abbrev pub invariant-loop-number : goal.invariant-loop-number
invariant-loop-number l = record {
  long : length l.homes ≡ 256;
  filled : (c : ℕ) → c < l.number → get_or l.homes c 0 ≡ home (view l.tables) c;
  rest : (c : ℕ) → l.number ≤ c → get_or l.homes c 0 ≡ 0;
}
