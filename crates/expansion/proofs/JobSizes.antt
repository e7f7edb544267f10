-- How large the number and the record of a refused job can be.
use mathlib.Core.Path.{◌≡◌, subst}
use Prim.Native.Nat.{ℕ, ◌≤◌}
use mathlib.Core.List.{List}
use native.Mathlib.Omega.{arith}
use Rattle.bundle.specs.Limits.{limits}
use Rattle.bundle.specs.File.{bundle_of}
use Rattle.logic.specs.Tests.{first_failing, fault, or_else}
use Rattle.logic.specs.Checks.{tables_fault}
use Rattle.judgement.proofs.Sizes.{last_number, SmallFault, failing_le, none_small, else_small, next_small, tables_small}
use Rattle.expansion.specs.declared.Names.{Names}
use Rattle.expansion.specs.Answer.{Refused}
use Rattle.expansion.specs.Expansion.{long_enough, job_tests, job_fault, expansion}
use Rattle.expansion.proofs.JobChecks.{refused_job_where}

job_small : (names : Names) (f : List ℕ) (out words sets : ℕ) → SmallFault (job_fault names f out words sets)
unfolding job_fault
job_small names f out words sets =
    next_small (tables_fault f (long_enough out words sets) 3) (or_else (first_failing (job_tests names (bundle_of f))) 0 (fault 0 0))
    (tables_small f (long_enough out words sets) 3)
    (else_small (first_failing (job_tests names (bundle_of f))) 0 (fault 0 0)
    (failing_le (job_tests names (bundle_of f)) (omega arith, (omega arith, (omega arith, (omega arith, tt))))) (omega arith) none_small)

pub refused_job_small : (names : Names) (f : List ℕ) (out words sets n i : ℕ) → (expansion names f out words sets).answer ≡ Refused n i → (n ≤ last_number) × (i ≤ limits.links)
refused_job_small names f out words sets n i e =
    let s : SmallFault (fault n i) = subst SmallFault ((refused_job_where names f out words sets n i).0 e).1 (job_small names f out words sets) in
    (s.number, s.place)
