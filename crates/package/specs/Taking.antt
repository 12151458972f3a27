-- One more element of a table: room is judged first, then the length, then the numbers.
-- Assumes nothing.
use Rattle.std.specs.Prelude.{ℕ, Bool, cond, List, [], ◌∷◌, ◌++◌, ltb, length, Result, Ok, Err}
use Rattle.text.specs.declared.frame.Frame.{Frame}
use Rattle.text.specs.Kinds.{fits_frame}
use Rattle.sections.specs.declared.refusal.Refusal.{Refusal}
use Rattle.sections.specs.declared.refusal.Refusal.TheVariants.{BadLength, BadNumber, TooMany}

-- what is taken, where there are n elements before it, or why it is not
abbrev pub judge : {A : Type 0} → (limit n : ℕ) → Bool → Frame → A → Result A Refusal
judge limit n declared f more = cond (ltb n limit) (cond (fits_frame f) (cond declared (Ok more) (Err BadNumber)) (Err BadLength)) (Err TooMany)

abbrev pub taken : {E : Type 0} → ℕ → Bool → E → List E → Frame → Result (List E) Refusal
taken limit declared e elements f = judge limit (length elements) declared f (elements ++ (e ∷ []))
