-- A package text that is read and breaks no rule, and one that is answered with a number.
-- Assumes nothing.
use Rattle.std.specs.Prelude.{ℕ, ◌≡◌, ◌<◌, List, Result, MatchResult}
use Rattle.meaning.specs.Tables.{Package}
use Rattle.meaning.specs.Reading as M
use Rattle.meaning.specs.Reading.{is_read, is_refused, read_text}
use Rattle.meaning.specs.Check.{verdict, check_of}
use Rattle.sections.specs.declared.refusal.Refused.{Refused}
use Rattle.sections.specs.Refusals.{number_of}
use Rattle.tables.specs.Contents.{Contents}
use Rattle.tables.specs.View.{view}
use Rattle.answer.specs.declared.Answer.{Answer}
use Rattle.answer.specs.Answers.{answer_of}

-- what reading the text gives
abbrev pub Reads : List ℕ → Result Contents Refused → Type 0
Reads text reading = MatchResult reading (λ t. read_text text ≡ is_read (view t)) (λ refused. read_text text ≡ is_refused (M.answer (number_of refused.refusal) refused.line 0))

-- the text is read as this package, which breaks no rule
pub record IsAccepted (text : List ℕ) (P : Package) : Type 0 where
  pub read : read_text text ≡ is_read P
  pub unbroken : verdict P ≡ M.answer 0 0 0

-- this is the answer to the text, and it is not 0
pub record IsRefused (text : List ℕ) (a : Answer) : Type 0 where
  pub answers : a ≡ answer_of (check_of text)
  pub number : 0 < a.number
