-- What is said of a step, and of all steps.
use Rattle.std.specs.Prelude.{ℕ, ◌-◌, ◌≤◌, ◌≡◌, cond, length, eqb, Result, Ok, Err, IfOk}
use Rattle.bundle.specs.Bundle.{Bundle, Step}
use Rattle.logic.specs.declared.Limited.{Limited}
use Rattle.logic.specs.declared.Limited.TheVariants.{Same, Different, Spent}
use Rattle.logic.specs.declared.checks.Check.{Check}
use Rattle.logic.specs.declared.checks.Failure.{Failure}
use Rattle.logic.specs.Tests.{Fault, first_failing}
use Rattle.logic.specs.Failures.{number_in, fault_in}
use Rattle.logic.specs.Readings.{Reading}
use Rattle.logic.specs.ReflWalk.{pair_limit}
use Rattle.logic.specs.Rules.{rule_tests_by, scoped_tests_by, step_fault_by, pairs_by, last_pairs}

-- a walk that ends with no difference leaves at most n pairs
abbrev pub LeavesAtMost : ℕ → Limited → Type 0
LeavesAtMost n (Same m) = m ≤ n
LeavesAtMost n (Different m) = Unit {0}
LeavesAtMost n Spent = Unit {0}

-- what a walk says, where it could visit `pair_limit` pairs
unfoldable pub walk_verdict : Limited → Result ℕ Check
walk_verdict (Same m) = Ok (pair_limit - m)
walk_verdict (Different m) = Err Check.Matches
walk_verdict Spent = Err Check.Pairs

-- 21, 13 and 14, and where none fails the pairs that the step's walk visits
pub record Judged (g : Reading) (b : Bundle) (s : Step) (r : Result ℕ Check) : Type 0 where
  pub number : number_in r ≡ first_failing (rule_tests_by g b s)
  pub pairs : IfOk r (λ p. p ≡ pairs_by g b s)

-- the same with 22 before them
pub record JudgedScoped (g : Reading) (b : Bundle) (s : Step) (r : Result ℕ Check) : Type 0 where
  pub number : number_in r ≡ first_failing (scoped_tests_by g b s)
  pub pairs : IfOk r (λ p. p ≡ pairs_by g b s)

-- and with 12, after n other steps
pub record JudgedAfter (g : Reading) (b : Bundle) (n : ℕ) (s : Step) (r : Result ℕ Check) : Type 0 where
  pub number : number_in r ≡ step_fault_by g b n s
  pub pairs : IfOk r (λ p. p ≡ pairs_by g b s)

-- the pairs of the last REFL walked, after one more step whose walk visits so many
unfoldable pub later : ℕ → ℕ → ℕ
later pairs walked = cond (eqb walked 0) pairs walked

-- this fault is found, and where it is none the pairs of the last REFL walked of all steps
pub record Found (f : Fault) (b : Bundle) (r : Result ℕ Failure) : Type 0 where
  pub fault : fault_in r ≡ f
  pub pairs : IfOk r (λ p. p ≡ last_pairs b (length b.steps))
