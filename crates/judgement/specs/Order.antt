-- Document 01's one order of checks, as one list: under 36 bytes, 2, 3, exact length, 4; then links, symbols, variables, terms, contexts, steps,
-- claim. In a section the records in order; in a record, its numbers in their order.
use Rattle.std.specs.Prelude.{ℕ, zero, suc, ◌≡◌, Bool, true, false, List, [], ◌∷◌, ◌++◌, length}
use Rattle.bundle.specs.Bundle.{Bundle}
use Rattle.bundle.specs.File.{bundle_of}
use Rattle.logic.specs.Lists.{All}
use Rattle.logic.specs.Tests.{Test}
use Rattle.logic.specs.Checks.{header_tests, link_tests, symbol_tests, variable_tests, term_tests}
use Rattle.logic.specs.Contexts.{context_tests}
use Rattle.logic.specs.Rules.{step_tests}
use Rattle.judgement.specs.Judge.{required, claim_tests}

-- a check: its number, the record that it is of, and whether it holds
pub record Check : Type 0 where
  pub number : ℕ
  pub «record» : ℕ
  pub holds : Bool

-- the tests of one record
unfoldable pub checks_of : ℕ → List Test → List Check
checks_of i [] = []
checks_of i (t ∷ ts) = record { number = t.number; «record» = i; holds = t.holds } ∷ checks_of i ts

-- the tests of the n records from i on
unfoldable pub section_checks : (ℕ → List Test) → ℕ → ℕ → List Check
unfolding checks_of
section_checks tests i zero = []
section_checks tests i (suc n) = checks_of i (tests i) ++ section_checks tests (suc i) n

-- every check of a file f where m words are lent, in document 01's order; record 0 for 1 to 4 and 15
unfoldable pub all_checks : List ℕ → ℕ → List Check
unfolding checks_of section_checks
all_checks f m =
    let b : Bundle = bundle_of f in
    (checks_of 0 (header_tests f m (required f))
    ++ (section_checks (link_tests b) 1 (length b.links)
    ++ (section_checks (symbol_tests b) 1 (length b.symbols)
    ++ (section_checks (variable_tests b) 1 (length b.variables)
    ++ (section_checks (term_tests b) 1 (length b.terms)
    ++ (section_checks (context_tests b) 1 (length b.contexts)
    ++ (section_checks (step_tests b) 1 (length b.steps)
    ++ checks_of 0 (claim_tests b))))))))

abbrev pub Holds : Check → Type 0
Holds c = c.holds ≡ true

-- of a list of checks, that of number n and record i fails, and every check before it holds
pub record FirstFailing (checks : List Check) (n i : ℕ) : Type 0 where
  pub before : List Check
  pub failing : Check
  pub after : List Check
  pub split : checks ≡ before ++ (failing ∷ after)
  pub hold : All Holds before
  pub fails : failing.holds ≡ false
  pub number : failing.number ≡ n
  pub «record» : failing.«record» ≡ i
