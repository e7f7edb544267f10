-- The answer of the writer and of the reader, and how the code answers: with the length of what is written, or with the check that fails.
use Rattle.std.specs.Prelude.{ℕ, Result, Ok, Err}
use Rattle.logic.specs.declared.checks.Failure.{Failure}
use Rattle.logic.specs.Failures.{check_number}

pub data Answer : Type 0 where
  -- the length of the file in bytes
  Written : (length : ℕ) → Answer
  -- the number of the first check that fails, and its record
  Refused : (number «record» : ℕ) → Answer

abbrev pub answer_in : Result ℕ Failure → Answer
answer_in (Ok n) = Written n
answer_in (Err f) = Refused (check_number f.check) f.«record»
