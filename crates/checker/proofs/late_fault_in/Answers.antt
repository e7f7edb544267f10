-- `late_fault_in` meets its contract: a section with no fault leaves it to those after it, and the claim is the last.
use Prim.Native.Nat.{ℕ, zero, suc}
use mathlib.Core.Path.{◌≡◌, refl, sym, ap, ◌∙◌}
use Rattle.std.proofs.lemmas.Result.{err_from_is_err_and}
use Rattle.bundle.specs.Bundle.{Bundle}
use Rattle.logic.specs.declared.checks.Failure.{Failure}
use Rattle.logic.specs.Failures.{check_number}
use Rattle.logic.specs.Tests.{Fault, first_failing, fault, or_else, or_next}
use Rattle.logic.specs.Contexts.{contexts_fault}
use Rattle.logic.specs.Rules.{steps_fault}
use Rattle.logic.proofs.Firsts.{or_else_on, or_else_here}
use Rattle.logic.proofs.CheckNumbers.{number_some}
use Rattle.judgement.specs.Judge.{claim_tests, late_fault}
use Rattle.checker.proofs.late_fault_in.Goals as goal

-- after the last section nothing is left that could be wrong
or_else_last : (n : ℕ) → or_else n 0 (fault 0 0) ≡ fault n 0
unfolding or_else
or_else_last zero = refl
or_else_last (suc n) = refl

module _ (b : Bundle) where
  -- the steps and the claim
  abbrev rest : Fault
  rest = or_next (steps_fault b) (or_else (first_failing (claim_tests b)) 0 (fault 0 0))

  in_contexts : (f : Failure) → fault (check_number f.check) f.«record» ≡ contexts_fault b → fault (check_number f.check) f.«record» ≡ late_fault b
  unfolding late_fault
  in_contexts f e = sym (ap (λ (t : Fault). or_next t rest) (sym e) ∙ or_else_here (check_number f.check) f.«record» rest (number_some f.check))

  module _ (good : fault 0 0 ≡ contexts_fault b) where
    past_contexts : late_fault b ≡ rest
    unfolding late_fault
    past_contexts = ap (λ (t : Fault). or_next t rest) (sym good) ∙ or_else_on 0 0 rest refl

    in_steps : (f : Failure) → fault (check_number f.check) f.«record» ≡ steps_fault b → fault (check_number f.check) f.«record» ≡ late_fault b
    in_steps f e = rw (past_contexts, ← e) (sym (or_else_here (check_number f.check) f.«record» _ (number_some f.check)))

    in_claim : (n : ℕ) → fault 0 0 ≡ steps_fault b → n ≡ first_failing (claim_tests b) → fault n 0 ≡ late_fault b
    in_claim n steps e = rw (past_contexts, ← steps, ← e) (sym (or_else_on 0 0 _ refl ∙ or_else_last n))

pub returns-in_err-contexts_fault : goal.returns-in_err-contexts_fault
returns-in_err-contexts_fault c =
    let p = err_from_is_err_and c.from_residual.result c.from_residual.ensures.1 in
    rw (p.1, p.2) (record {
      fault = in_contexts c.args.sorted.now _ c.in_err-contexts_fault.ensures.value;
      pairs = tt;
    })

pub returns-in_err-pairs : goal.returns-in_err-pairs
returns-in_err-pairs c =
    let r = c.from_residual-in_err-pairs in
    let p = err_from_is_err_and r.result r.ensures.1 in
    rw (p.1, p.2) (record {
      fault = in_steps c.args.sorted.now c.in_ok-contexts_fault.ensures.value _ (rw (c.of-known.ensures, c.of-sets.ensures, c.bundle-bundle.ensures) at c.in_err-pairs.ensures.fault);
      pairs = tt;
    })

pub returns-in_err-claim_fault : goal.returns-in_err-claim_fault
returns-in_err-claim_fault c =
    let r = c.from_residual-in_err-claim_fault in
    let p = err_from_is_err_and r.result r.ensures.1 in
    rw (p.1, p.2) (record {
      fault = in_claim c.args.sorted.now c.in_ok-contexts_fault.ensures.value _ (rw (c.of-known.ensures, c.of-sets.ensures, c.bundle-bundle.ensures) at c.in_ok-pairs.ensures.fault) (rw c.bundle-bundle.ensures at c.in_err-claim_fault.ensures);
      pairs = tt;
    })

pub returns : goal.returns
returns c = record {
  fault = in_claim c.args.sorted.now c.in_ok-contexts_fault.ensures.value _ (rw (c.of-known.ensures, c.of-sets.ensures, c.bundle-bundle.ensures) at c.in_ok-pairs.ensures.fault) (rw c.bundle-bundle.ensures at c.in_ok-claim_fault.ensures);
  pairs = rw (c.of-known.ensures, c.of-sets.ensures, c.bundle-bundle.ensures) at c.in_ok-pairs.ensures.pairs;
}
