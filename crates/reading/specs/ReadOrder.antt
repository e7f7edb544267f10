-- The one order of the checks of declarations, as one list: those of document 01 up to 6, then 18.
use Rattle.std.specs.Prelude.{ℕ, List, [], ◌∷◌, ◌++◌, length}
use Rattle.bundle.specs.Bundle.{Bundle}
use Rattle.bundle.specs.File.{bundle_of}
use Rattle.logic.specs.Checks.{header_tests, link_tests, symbol_tests, variable_tests}
use Rattle.judgement.specs.Order.{Check, checks_of, section_checks}
use Rattle.expansion.specs.Expansion.{long_enough}
use Rattle.expansion.specs.JobOrder.{job_check}
use Rattle.reading.specs.Reading.{is_declarations}

-- every check of the declarations f where the lent areas have these lengths, in order; all three areas are to be long enough
unfoldable pub declaration_checks : List ℕ → ℕ → ℕ → ℕ → List Check
unfolding checks_of section_checks
declaration_checks f out words sets =
    let b : Bundle = bundle_of f in
    (checks_of 0 (header_tests f (long_enough out words sets) 3)
    ++ (section_checks (link_tests b) 1 (length b.links)
    ++ (section_checks (symbol_tests b) 1 (length b.symbols)
    ++ (section_checks (variable_tests b) 1 (length b.variables)
    ++ (job_check 18 (is_declarations b) ∷ [])))))
