-- An answer in one number of 64 bits: from the lowest, 16 bits for its number, 16 for each of its two places, and of a run 16 for the length
-- that is written.
-- Assumes nothing.
use Rattle.std.specs.Prelude.{ℕ, ◌+◌, ◌*◌}
use Rattle.meaning.specs.Reading.{Answer}
use Rattle.runs.specs.Programs.{Ran}

abbrev pub packed : Answer → ℕ
packed a = a.number + a.first * 65536 + a.second * 4294967296

abbrev pub packed_run : Ran → ℕ
packed_run r = packed r.answer + r.length * 281474976710656
