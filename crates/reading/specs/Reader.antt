-- THE READER: declarations and a text to a job, or a refusal with its byte. Checks 1 to 6 and 18 of the declarations come before it.
use Rattle.std.specs.Prelude.{ℕ, Bool, cond, List, eqb}
use Rattle.std.proofs.Math.Option.{Option, none, some}
use Rattle.bundle.specs.File.{own_counts}
use Rattle.bundle.specs.Bundle.{Bundle}
use Rattle.bundle.specs.Limits.{within_of}
use Rattle.logic.specs.Symbols.{truth_sort}
use Rattle.expansion.specs.Placed.{PlacedTerm}
use Rattle.expansion.specs.Visit.{claiming}
use Rattle.grammar.specs.Names.{Resolved, resolved, unread_at, unknown_at, resolve}
use Rattle.reading.specs.Called.{known_in}
use Rattle.reading.specs.Typing.{Typed, sorts}
use Rattle.reading.specs.Records.{file}

pub data Answer : Type 0 where
  job : Bundle → Answer
  -- the refusal's number, and its byte (0 for 8 and 16)
  refused : ℕ → ℕ → Answer

-- the job: all records, the formula's term as its left, no right
abbrev pub job_of : PlacedTerm → Bundle
job_of p = claiming p.bundle p.term 0

-- no section passes its limit (else 16)
abbrev pub fits : PlacedTerm → Bool
fits p = within_of (own_counts p.bundle)

unfoldable pub fitting_job : PlacedTerm → Answer
fitting_job p = cond (fits p) (job (job_of p)) (refused 16 0)

-- a formula that is not well sorted is refused 8, and so is one that is not Bool
unfoldable pub sorted_job : Bundle → Option Typed → Answer
unfolding fitting_job file
sorted_job b none = refused 8 0
sorted_job b (some t) = cond (eqb t.sort truth_sort) (fitting_job (file t.term b)) (refused 8 0)

unfoldable pub answer_of : Bundle → Resolved → Answer
unfolding sorted_job sorts
answer_of b (resolved φ) = sorted_job b (sorts b φ)
answer_of b (unread_at n) = refused 19 n
answer_of b (unknown_at n) = refused 20 n

unfoldable pub read_text : Bundle → List ℕ → Answer
unfolding answer_of resolve known_in
read_text b text = answer_of b (resolve (known_in b) text)
