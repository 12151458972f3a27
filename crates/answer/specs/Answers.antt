-- The answer of `meaning` as the code has it.
-- Assumes nothing.
use Rattle.meaning.specs.Reading as M
use Rattle.answer.specs.declared.Answer.{Answer}

abbrev pub answer_of : M.Answer → Answer
answer_of a = record { number = a.number; first = a.first; second = a.second }
