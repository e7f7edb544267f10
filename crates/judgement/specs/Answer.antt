-- The answer to a file, and how the code answers: with what is said of a file that is accepted, or with the check that fails.
use Rattle.std.specs.Prelude.{ℕ, Result, Ok, Err}
use Rattle.logic.specs.declared.checks.Failure.{Failure}
use Rattle.logic.specs.Failures.{check_number}
use Rattle.judgement.specs.declared.Acceptance.{Acceptance}

pub data Answer : Type 0 where
  Accepted : Acceptance → Answer
  -- the number of the first check that fails, and its record
  Refused : (number «record» : ℕ) → Answer

abbrev pub answer_in : Result Acceptance Failure → Answer
answer_in (Ok a) = Accepted a
answer_in (Err f) = Refused (check_number f.check) f.«record»
