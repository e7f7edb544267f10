-- The one ordered list of the writer's checks, and `job_fault`, which is nested section by section: both find the same fault.
--     last_find          of 18, 15, 17, 16, the first that fails is that of `job_tests`
--     job_checks_find    THE LAW: of all checks of a job, the first failing one is `job_fault`
use Prim.Native.Nat.{ℕ}
use mathlib.Core.Path.{◌≡◌, refl, subst}
use mathlib.Core.List.{List}
use lib.ListN.{length}
use Rattle.logic.proofs.Firsts.{next_nested}
use Rattle.bundle.specs.Bundle.{Bundle}
use Rattle.bundle.specs.File.{bundle_of}
use Rattle.logic.specs.Tests.{Fault}
use Rattle.logic.specs.Tests.{first_failing, fault, or_else, or_next}
use Rattle.logic.specs.Checks.{header_tests, header_fault, link_tests, links_fault, symbol_tests, symbols_fault, variable_tests, variables_fault, term_tests, terms_fault}
use Rattle.judgement.specs.Order.{checks_of}
use Rattle.judgement.proofs.Order.{Finds, finds_next, finds_tests, finds_section}
use Rattle.expansion.specs.declared.Names.{Names}
use Rattle.expansion.specs.Expansion.{long_enough, job_tests, job_fault}
use Rattle.expansion.specs.JobOrder.{last_checks, all_job_checks}

abbrev pub last_fault : Names → Bundle → Fault
last_fault names b = or_else (first_failing (job_tests names b)) 0 (fault 0 0)

pub last_find : (names : Names) (b : Bundle) → Finds (last_checks names b) (last_fault names b)
unfolding checks_of
last_find names b = finds_tests 0 (job_tests names b) refl

-- THE LAW
pub job_checks_find : (names : Names) (f : List ℕ) (out words sets : ℕ) → Finds (all_job_checks names f out words sets) (job_fault names f out words sets)
unfolding all_job_checks job_fault
job_checks_find names f out words sets = subst (Finds (all_job_checks names f out words sets)) in_a_row in_order
  where
    b : Bundle
    b = bundle_of f

    m : ℕ
    m = long_enough out words sets

    row : Fault
    row =
        or_next (or_else (header_fault f m 3) 0 (fault 0 0))
        (or_next (links_fault b) (or_next (symbols_fault b) (or_next (variables_fault b) (or_next (terms_fault b) (last_fault names b)))))

    in_order : Finds (all_job_checks names f out words sets) row
    in_order =
        finds_next _ _ _ _ (finds_tests 0 (header_tests f m 3) refl)
        (finds_next _ _ _ _ (finds_section (link_tests b) (λ i. refl) (length b.links))
        (finds_next _ _ _ _ (finds_section (symbol_tests b) (λ i. refl) (length b.symbols))
        (finds_next _ _ _ _ (finds_section (variable_tests b) (λ i. refl) (length b.variables))
        (finds_next _ _ _ _ (finds_section (term_tests b) (λ i. refl) (length b.terms))
        (last_find names b)))))

    in_a_row : row ≡ job_fault names f out words sets
    in_a_row = simp next_nested
