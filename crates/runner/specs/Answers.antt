-- What a run answers and leaves in the lent buffer, as values of the code.
-- Assumes nothing.
use Rattle.std.specs.Prelude.{ℕ, ◌≡◌, Result, Ok, Err, List}
use Rattle.runs.specs.Programs.{Ran}
use Rattle.answer.specs.declared.Answer.{Answer}
use Rattle.answer.specs.Answers.{answer_of}
use Rattle.runner.specs.declared.RunAnswer.{RunAnswer}

abbrev pub ran_as : Ran → RunAnswer
ran_as r = record { answer = answer_of r.answer; length = r.length }

-- an answer that ends a run early comes without holdings
abbrev pub ran_of : Result RunAnswer Answer → RunAnswer
ran_of (Ok ran) = ran
ran_of (Err a) = record { answer = a; length = 0 }

-- the answer r and the buffer out are those of a run that ends as told, where the buffer was b
pub record Leaves (w : Ran) (r : RunAnswer) (out : List ℕ) : Type 0 where
  pub answers : r ≡ ran_as w
  pub buffer : out ≡ w.buffer
