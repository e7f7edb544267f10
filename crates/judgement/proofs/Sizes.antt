-- How large the number and the record of an answer can be: at most the last number of documents 01 and 02, and at most the longest section's length.
--     failing_le, none_small, else_small, next_small, sections_small     of tests, of faults one after another, of sections
--     tables_small    of the first of checks 1 to 9
--     fault_small     of the first fault of a file
--     refused_small   of a refusal
use mathlib.Core.Path.{◌≡◌, refl, subst}
use Prim.Native.Nat.{ℕ, zero, suc, ◌+◌, ◌≤◌}
use mathlib.Core.Bool.{Bool, true, false, cond}
use mathlib.Core.List.{List, [], ◌∷◌}
use native.Mathlib.Omega.{arith}
use lib.ListN.{length}
use Rattle.bundle.specs.Bundle.{Bundle}
use Rattle.bundle.specs.File.{Whole, counts_of, bundle_at, bundle_of}
use Rattle.bundle.proofs.Fields.{symbols_length, variables_length, terms_length, links_length, contexts_length, steps_length}
use Rattle.logic.specs.Tests.{Fault}
use Rattle.logic.specs.Lists.{All}
use Rattle.logic.specs.Tests.{Test, first_failing, fault, or_else, or_next, first_from, first_fault}
use Rattle.logic.specs.Checks.{header_tests, header_fault, link_tests, link_fault, symbol_tests, symbol_fault, variable_tests, variable_fault, term_tests, term_fault}
use Rattle.logic.specs.Checks.{links_fault, symbols_fault, variables_fault, terms_fault, sections_fault, tables_fault}
use Rattle.logic.specs.Contexts.{context_tests, context_fault, contexts_fault}
use Rattle.logic.specs.Rules.{step_tests, step_fault, steps_fault}
use Rattle.judgement.specs.Answer.{Refused}
use Rattle.judgement.specs.Judge.{required, claim_tests, late_fault, fault_of, judge}
use Rattle.logic.proofs.Headers.{header_exactly}
use Rattle.judgement.proofs.Accepting.{refused_where}

-- the last number of a refusal
abbrev pub last_number : ℕ
last_number = 24

pub record SmallFault (r : Fault) : Type 0 where
  pub number : r.number ≤ last_number
  pub place : r.«record» ≤ 2048

pub failing_le : (ts : List Test) → All (λ t. t.number ≤ last_number) ts → first_failing ts ≤ last_number
unfolding first_failing
failing_le [] h = omega arith
failing_le (t ∷ ts) h = go t.holds (failing_le ts h.1)
  where
    go : (p : Bool) → first_failing ts ≤ last_number → cond p (first_failing ts) t.number ≤ last_number
    go true later = later
    go false later = h.0

pub none_small : SmallFault (fault 0 0)
none_small = record { number = omega arith; place = omega arith }

pub else_small : (n i : ℕ) (rest : Fault) → n ≤ last_number → i ≤ 2048 → SmallFault rest → SmallFault (or_else n i rest)
unfolding or_else
else_small zero i rest h l s = s
else_small (suc n) i rest h l s = record { number = h; place = l }

pub next_small : (a rest : Fault) → SmallFault a → SmallFault rest → SmallFault (or_next a rest)
next_small a rest s t = else_small a.number a.«record» rest s.number s.place t

from_small : (f : ℕ → ℕ) → ((i : ℕ) → f i ≤ last_number) → (i left : ℕ) → i + left ≤ 2049 → SmallFault (first_from f i left)
unfolding first_from
from_small f h i zero l = none_small
from_small f h i (suc left) l = else_small (f i) i (first_from f (suc i) left) (h i) (omega arith) (from_small f h (suc i) left (omega arith))

section_small : (f : ℕ → ℕ) → ((i : ℕ) → f i ≤ last_number) → (n : ℕ) → n ≤ 2048 → SmallFault (first_fault f n)
unfolding first_fault
section_small f h n l = from_small f h 1 n (omega arith)

module _ (f : List ℕ) (whole : Whole f (counts_of f)) where
  late_small : SmallFault (late_fault (bundle_of f))
  unfolding late_fault contexts_fault context_fault steps_fault step_fault bundle_of
  late_small =
      next_small (contexts_fault b) (or_next (steps_fault b) claim)
      (section_small (context_fault b) (λ i. failing_le (context_tests b i) (omega arith, (omega arith, tt))) (length b.contexts)
      (omega (arith, contexts_length f (counts_of f), whole.within.contexts)))
      (next_small (steps_fault b) claim
      (section_small (step_fault b) (λ i. failing_le (step_tests b i) (omega arith, (omega arith, (omega arith, (omega arith, (omega arith, tt)))))) (length b.steps)
      (omega (arith, steps_length f (counts_of f), whole.within.steps)))
      (else_small (first_failing (claim_tests b)) 0 (fault 0 0) (failing_le (claim_tests b) (omega arith, tt)) (omega arith) none_small))
    where
      b : Bundle
      b = bundle_at f (counts_of f)

      claim : Fault
      claim = or_else (first_failing (claim_tests b)) 0 (fault 0 0)

  pub sections_small : SmallFault (sections_fault (bundle_of f))
  unfolding sections_fault links_fault link_fault symbols_fault symbol_fault variables_fault variable_fault terms_fault term_fault bundle_of
  sections_small =
      next_small (links_fault b) (or_next (symbols_fault b) (or_next (variables_fault b) (terms_fault b)))
      (section_small (link_fault b) (λ i. failing_le (link_tests b i) (omega arith, tt)) (length b.links)
      (omega (arith, links_length f (counts_of f), whole.within.links)))
      (next_small (symbols_fault b) (or_next (variables_fault b) (terms_fault b))
      (section_small (symbol_fault b) (λ i. failing_le (symbol_tests b i) (omega arith, tt)) (length b.symbols)
      (omega (arith, symbols_length f (counts_of f), whole.within.symbols)))
      (next_small (variables_fault b) (terms_fault b)
      (section_small (variable_fault b) (λ i. failing_le (variable_tests b i) (omega arith, tt)) (length b.variables)
      (omega (arith, variables_length f (counts_of f), whole.within.variables)))
      (section_small (term_fault b) (λ i. failing_le (term_tests b i) (omega arith, (omega arith, (omega arith, tt)))) (length b.terms)
      (omega (arith, terms_length f (counts_of f), whole.within.terms)))))
    where
      b : Bundle
      b = bundle_at f (counts_of f)

header_le : (f : List ℕ) (lent required : ℕ) → header_fault f lent required ≤ last_number
unfolding header_fault
header_le f lent required = failing_le (header_tests f lent required) (omega arith, (omega arith, (omega arith, (omega arith, (omega arith, tt)))))

pub tables_small : (f : List ℕ) (lent required : ℕ) → SmallFault (tables_fault f lent required)
unfolding tables_fault or_else
tables_small f lent required = go (header_fault f lent required) refl
  where
    go : (n : ℕ) → header_fault f lent required ≡ n → SmallFault (or_else n 0 (sections_fault (bundle_of f)))
    go zero e = sections_small f ((header_exactly f lent required).0 e).0.whole
    go (suc n) e = record { number = omega (arith, header_le f lent required); place = omega arith }

pub fault_small : (f : List ℕ) (m : ℕ) → SmallFault (fault_of f m)
unfolding fault_of tables_fault or_else
fault_small f m = go (header_fault f m (required f)) refl
  where
    go : (n : ℕ) → header_fault f m (required f) ≡ n → SmallFault (or_next (or_else n 0 (sections_fault (bundle_of f))) (late_fault (bundle_of f)))
    go zero e =
        let whole : Whole f (counts_of f) = ((header_exactly f m (required f)).0 e).0.whole in
        next_small (sections_fault (bundle_of f)) (late_fault (bundle_of f)) (sections_small f whole) (late_small f whole)
    go (suc n) e = record { number = omega (arith, header_le f m (required f)); place = omega arith }

pub refused_small : (f : List ℕ) (m n i : ℕ) → judge f m ≡ Refused n i → (n ≤ last_number) × (i ≤ 2048)
refused_small f m n i e =
    let s : SmallFault (fault n i) = subst SmallFault ((refused_where f m n i).0 e).1 (fault_small f m) in
    (s.number, s.place)
