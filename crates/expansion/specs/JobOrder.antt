-- Document 01's one order of the writer's checks, as one list: under 36 bytes, 2, 3, exact length, 4; then links, symbols, variables, terms. After
-- 1 to 9 come 18, 15 (left not a term), 17, 16. In a section the records in order; in a record, its numbers in their order.
use Rattle.std.specs.Prelude.{ℕ, Bool, List, [], ◌∷◌, ◌++◌, length}
use Rattle.bundle.specs.Bundle.{Bundle}
use Rattle.bundle.specs.File.{bundle_of}
use Rattle.logic.specs.Checks.{header_tests, link_tests, symbol_tests, variable_tests, term_tests}
use Rattle.judgement.specs.Order.{Check, checks_of, section_checks}
use Rattle.expansion.specs.declared.Names.{Names}
use Rattle.expansion.specs.Expansion.{long_enough, is_bare, left_is_term, rule_closed, derivation_fits}

-- a check of the job as a whole: record 0
abbrev pub job_check : ℕ → Bool → Check
job_check n p = record { number = n; «record» = 0; holds = p }

abbrev pub last_checks : Names → Bundle → List Check
last_checks names b =
    job_check 18 (is_bare b) ∷ job_check 15 (left_is_term b) ∷ job_check 17 (rule_closed b) ∷ job_check 16 (derivation_fits names b) ∷ []

-- every check of a job f under a choice of names, where the lent areas have these lengths, in document 01's order; all three areas are to be long enough
unfoldable pub all_job_checks : Names → List ℕ → ℕ → ℕ → ℕ → List Check
unfolding checks_of section_checks
all_job_checks names f out words sets =
    let b : Bundle = bundle_of f in
    (checks_of 0 (header_tests f (long_enough out words sets) 3)
    ++ (section_checks (link_tests b) 1 (length b.links)
    ++ (section_checks (symbol_tests b) 1 (length b.symbols)
    ++ (section_checks (variable_tests b) 1 (length b.variables)
    ++ (section_checks (term_tests b) 1 (length b.terms)
    ++ last_checks names b)))))
