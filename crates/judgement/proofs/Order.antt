-- The one ordered list of checks, and first faults that are nested section by section: both find the same fault.
--     first_of                        the first failing check of a list, as a fault; number 0 where all hold
--     first_append                   of two lists, it is the first one's, or else the second one's
--     first_fails, fails_first       it is the fault n, i exactly where the check of number n and record i is the first that fails
--     none_fails, all_hold           it has the number 0 exactly where all hold
--     Finds                          a list of numbered checks, and its first failing one
--     failing_number                 a check that fails has a number that is not 0
--     finds_next, finds_tests, finds_section     of two lists, of the tests of one record, of a section
--     checks_find                    THE LAW: of all checks of a file, the first failing one is `fault_of`
use Prim.Native.Nat.{ℕ, zero, suc, ◌≤◌}
use mathlib.Core.Path.{◌≡◌, refl, sym, ap, ap₂, subst, ◌∙◌}
use mathlib.Core.Bool.{Bool, true, false, cond}
use mathlib.Core.List.{List, [], ◌∷◌, ◌++◌}
use native.Mathlib.Omega.{arith}
use lib.ListN.{length}
use lib.Dec.{ltb}
use borrow.Author.Tests.{ltb-true}
use Rattle.bundle.specs.Bundle.{Bundle}
use Rattle.bundle.specs.File.{bundle_of}
use Rattle.logic.specs.Tests.{Fault}
use Rattle.logic.specs.Lists.{All}
use Rattle.logic.specs.Tests.{Test, first_failing, fault, or_else, or_next, first_from, first_fault}
use Rattle.logic.specs.Checks.{header_tests, header_fault, link_tests, links_fault, symbol_tests, symbols_fault, variable_tests, variables_fault, term_tests, terms_fault}
use Rattle.logic.specs.Contexts.{context_tests}
use Rattle.logic.specs.Rules.{step_tests}
use Rattle.logic.proofs.Tests.{and_left, and_right, numbered}
use Rattle.logic.proofs.Firsts.{or_else_here, next_nested}
use Rattle.judgement.specs.Judge.{required, claim_tests, late_fault, fault_of}
use Rattle.judgement.specs.Order.{Check, checks_of, section_checks, all_checks, Holds, FirstFailing}

-- ---- the first failing check of a list

pub first_of : List Check → Fault
first_of [] = fault 0 0
first_of (c ∷ cs) = cond c.holds (first_of cs) (fault c.number c.«record»)

-- a check's number is that of a refusal
abbrev pub Numbered : Check → Type 0
Numbered c = 1 ≤ c.number

all_append : (P : Check → Type 0) (xs ys : List Check) → All P xs → All P ys → All P (xs ++ ys)
all_append P [] ys h k = k
all_append P (x ∷ xs) ys h k = (h.0, all_append P xs ys h.1 k)

all_at : (P : Check → Type 0) (xs : List Check) (c : Check) (ys : List Check) → All P (xs ++ (c ∷ ys)) → P c
all_at P [] c ys h = h.0
all_at P (x ∷ xs) c ys h = all_at P xs c ys h.1

pub first_append : (xs ys : List Check) → All Numbered xs → first_of (xs ++ ys) ≡ or_next (first_of xs) (first_of ys)
unfolding first_of or_else
first_append [] ys h = refl
first_append (x ∷ xs) ys h = go x.holds (first_append xs ys h.1)
  where
    go : (p : Bool) → first_of (xs ++ ys) ≡ or_next (first_of xs) (first_of ys)
        → cond p (first_of (xs ++ ys)) (fault x.number x.«record») ≡ or_next (cond p (first_of xs) (fault x.number x.«record»)) (first_of ys)
    go true ih = ih
    go false ih = sym (or_else_here x.number x.«record» (first_of ys) (λ z. let l : 1 ≤ x.number = h.0 in omega arith))

pub first_fails : (cs : List Check) (n i : ℕ) → FirstFailing cs n i → first_of cs ≡ fault n i
unfolding first_of
first_fails cs n i h = rw h.split (go h.before h.hold)
  where
    go : (xs : List Check) → All Holds xs → first_of (xs ++ (h.failing ∷ h.after)) ≡ fault n i
    go [] t = rw (h.fails, h.number, h.«record»)
    go (x ∷ xs) t = rw t.0 (go xs t.1)

pub fails_first : (cs : List Check) (n i : ℕ) → 1 ≤ n → first_of cs ≡ fault n i → FirstFailing cs n i
unfolding first_of
fails_first [] n i l e = let z : 0 ≡ n = ap (λ (r : Fault). r.number) e in absurd (omega arith)
fails_first (c ∷ cs) n i l e = go c.holds refl e (fails_first cs n i l)
  where
    go : (p : Bool) → c.holds ≡ p → cond p (first_of cs) (fault c.number c.«record») ≡ fault n i
        → (first_of cs ≡ fault n i → FirstFailing cs n i) → FirstFailing (c ∷ cs) n i
    go true q e later =
        let r : FirstFailing cs n i = later e in
        record {
          before = c ∷ r.before;
          failing = r.failing;
          after = r.after;
          split = ap (λ (l : List Check). c ∷ l) r.split;
          hold = (q, r.hold);
          fails = r.fails;
          number = r.number;
          «record» = r.«record»;
        }
    go false q e later = record {
      before = [];
      failing = c;
      after = cs;
      split = refl;
      hold = tt;
      fails = q;
      number = ap (λ (r : Fault). r.number) e;
      «record» = ap (λ (r : Fault). r.«record») e;
    }

pub none_fails : (cs : List Check) → All Holds cs → first_of cs ≡ fault 0 0
unfolding first_of
none_fails [] h = refl
none_fails (c ∷ cs) h = rw h.0 (none_fails cs h.1)

pub all_hold : (cs : List Check) → All Numbered cs → (first_of cs).number ≡ 0 → All Holds cs
unfolding first_of
all_hold [] n e = tt
all_hold (c ∷ cs) n e = go c.holds refl e (all_hold cs n.1)
  where
    go : (p : Bool) → c.holds ≡ p → (cond p (first_of cs) (fault c.number c.«record»)).number ≡ 0
        → ((first_of cs).number ≡ 0 → All Holds cs) → (c.holds ≡ true) × All Holds cs
    go true q e later = (q, later e)
    go false q e later = let l : 1 ≤ c.number = n.0 in absurd (omega arith)

-- ---- faults in a row

-- ---- a list of numbered checks, and the fault that it finds

pub record Finds (cs : List Check) (r : Fault) : Type 0 where
  pub numbers : All Numbered cs
  pub first : first_of cs ≡ r

-- a check that fails has the number of a refusal
pub failing_number : {cs : List Check} {r : Fault} {n i : ℕ} → Finds cs r → FirstFailing cs n i → 1 ≤ n
failing_number finds h =
    rw (← h.number) (all_at Numbered h.before h.failing h.after (subst (All Numbered) h.split finds.numbers))

pub finds_next : (xs ys : List Check) (a rest : Fault) → Finds xs a → Finds ys rest → Finds (xs ++ ys) (or_next a rest)
finds_next xs ys a rest h k = record {
  numbers = all_append Numbered xs ys h.numbers k.numbers;
  first = first_append xs ys h.numbers ∙ ap₂ or_next h.first k.first;
}

pub finds_tests : (i : ℕ) (ts : List Test) → numbered ts ≡ true → Finds (checks_of i ts) (or_else (first_failing ts) i (fault 0 0))
unfolding checks_of first_of first_failing or_else
finds_tests i [] n = record { numbers = tt; first = refl }
finds_tests i (t ∷ ts) n = one (finds_tests i ts (and_right (ltb 0 t.number) (numbered ts) n))
  where
    low : 1 ≤ t.number
    low = ltb-true 0 t.number (and_left (ltb 0 t.number) (numbered ts) n)

    one : Finds (checks_of i ts) (or_else (first_failing ts) i (fault 0 0)) → Finds (checks_of i (t ∷ ts)) (or_else (first_failing (t ∷ ts)) i (fault 0 0))
    one rest = record { numbers = (low, rest.numbers); first = go t.holds }
      where
        go : (p : Bool) → cond p (first_of (checks_of i ts)) (fault t.number i) ≡ or_else (cond p (first_failing ts) t.number) i (fault 0 0)
        go true = rest.first
        go false = sym (or_else_here t.number i (fault 0 0) (λ z. omega (arith, low)))

module _ (tests : ℕ → List Test) (all-numbered : (i : ℕ) → numbered (tests i) ≡ true) where
  finds_from : (i n : ℕ) → Finds (section_checks tests i n) (first_from (λ j. first_failing (tests j)) i n)
  unfolding section_checks first_from first_of or_else
  finds_from i zero = record { numbers = tt; first = refl }
  finds_from i (suc n) =
      subst (Finds (section_checks tests i (suc n))) (next_nested (first_failing (tests i)) i (fault 0 0) (first_from (λ j. first_failing (tests j)) (suc i) n))
      (finds_next (checks_of i (tests i)) (section_checks tests (suc i) n) _ _ (finds_tests i (tests i) (all-numbered i)) (finds_from (suc i) n))

  pub finds_section : (n : ℕ) → Finds (section_checks tests 1 n) (first_fault (λ j. first_failing (tests j)) n)
  unfolding first_fault
  finds_section n = finds_from 1 n

-- ---- a file

-- THE LAW
pub checks_find : (f : List ℕ) (m : ℕ) → Finds (all_checks f m) (fault_of f m)
unfolding all_checks fault_of
checks_find f m = subst (Finds (all_checks f m)) in_a_row in_order
  where
    b : Bundle
    b = bundle_of f

    row : Fault
    row =
        or_next (or_else (header_fault f m (required f)) 0 (fault 0 0))
        (or_next (links_fault b) (or_next (symbols_fault b) (or_next (variables_fault b) (or_next (terms_fault b) (late_fault b)))))

    in_order : Finds (all_checks f m) row
    in_order =
        finds_next _ _ _ _ (finds_tests 0 (header_tests f m (required f)) refl)
        (finds_next _ _ _ _ (finds_section (link_tests b) (λ i. refl) (length b.links))
        (finds_next _ _ _ _ (finds_section (symbol_tests b) (λ i. refl) (length b.symbols))
        (finds_next _ _ _ _ (finds_section (variable_tests b) (λ i. refl) (length b.variables))
        (finds_next _ _ _ _ (finds_section (term_tests b) (λ i. refl) (length b.terms))
        (finds_next _ _ _ _ (finds_section (context_tests b) (λ i. refl) (length b.contexts))
        (finds_next _ _ _ _ (finds_section (step_tests b) (λ i. refl) (length b.steps))
        (finds_tests 0 (claim_tests b) refl)))))))

    in_a_row : row ≡ fault_of f m
    in_a_row = simp next_nested
