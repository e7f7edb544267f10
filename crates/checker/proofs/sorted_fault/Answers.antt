-- `sorted_fault` meets its contract: where the sections have no fault, the area holds the free sets, as the later checks require; where these find
-- nothing, the sets are spread out.
use mathlib.Core.Path.{◌≡◌, refl}
use native.Mathlib.Omega.{arith}
use native.Mathlib.Nat.{mul-le-mul_right}
use Prim.Native.Nat.{◌*◌, ◌≤◌}
use lib.ListN.{length}
use Rattle.std.proofs.lemmas.Result.{err_from_is_err_and}
use Rattle.bundle.specs.Bundle.{Bundle}
use Rattle.bundle.specs.Limits.{set_words}
use Rattle.logic.specs.declared.checks.Failure.{Failure}
use Rattle.logic.specs.Failures.{check_number}
use Rattle.logic.specs.Tests.{Fault, fault, or_next}
use Rattle.logic.specs.Checks.{sections_fault}
use Rattle.logic.proofs.Firsts.{or_else_on, or_else_here}
use Rattle.free_variables.proofs.HeldSets.{sets_held}
use Rattle.free_variables.proofs.SpreadAreas.{area_spread}
use Rattle.judgement.specs.Judge.{late_fault}
use Rattle.logic.proofs.CheckNumbers.{number_some}
use Rattle.checker.proofs.sorted_fault.Goals as goal

module _ (b : Bundle) where
  early : (f : Failure) → fault (check_number f.check) f.«record» ≡ sections_fault b
      → fault (check_number f.check) f.«record» ≡ or_next (sections_fault b) (late_fault b)
  early f e = rw (← e, or_else_here _ _ _ (number_some f.check))

  later : {r : Fault} → fault 0 0 ≡ sections_fault b → r ≡ late_fault b → r ≡ or_next (sections_fault b) (late_fault b)
  later good e = rw (← good, or_else_on 0 _ _ refl) e

pub returns-in_err-sections_fault : goal.returns-in_err-sections_fault
returns-in_err-sections_fault c =
    let p = err_from_is_err_and c.from_residual.result c.from_residual.ensures.1 in
    rw (p.1, p.2) (record {
      fact = record { fault = early c.args.sorted.now _ c.in_err-sections_fault.ensures; pairs = tt };
      free_after = tt;
    })

pub free_sets-requires : goal.free_sets-requires
free_sets-requires c =
    let w = c.words_for-n.ensures in
    let variables = rw c.bundle-bundle.ensures at c.variables.ensures.0 in
    rw c.bundle-bundle.ensures (w.0, w.1, omega (arith, mul-le-mul_right (length c.args.sorted.now.terms) w.1, c.requires), omega (arith, w.2, variables))

pub late_fault-requires : goal.late_fault-requires
late_fault-requires c =
    let b = c.args.sorted.now in
    let r = c.words_for-n in
    let w = r.ensures in
    let variables = rw c.bundle-bundle.ensures at c.variables.ensures.0 in
    let bits : length b.variables ≤ 64 * r.result = omega (arith, w.2, variables) in (
      sets_held b r.result _ _ w.0 bits (omega (arith, mul-le-mul_right (length b.terms) w.1, c.requires)) (rw c.bundle-bundle.ensures at c.free_sets.ensures),
      w.1,
      bits,
    )

pub returns-in_err-pairs : goal.returns-in_err-pairs
returns-in_err-pairs c =
    let r = c.from_residual-in_err-pairs in
    let p = err_from_is_err_and r.result r.ensures.1 in
    rw (p.1, p.2) (record {
      fact = record { fault = later c.args.sorted.now c.in_ok-sections_fault.ensures c.in_err-pairs.ensures.fault; pairs = tt };
      free_after = tt;
    })

pub returns : goal.returns
returns c =
    let a = c.args in
    let b = a.sorted.now in
    let r = c.words_for-n in
    let w = r.ensures in
    let f = c.free_sets in
    let s = c.spread in
    let variables = rw c.bundle-bundle.ensures at c.variables.ensures.0 in
    let terms = rw c.bundle-bundle.ensures at c.terms.ensures.0 in
    let bits : length b.variables ≤ 64 * r.result = omega (arith, w.2, variables) in record {
      fact = record {
        fault = later b c.in_ok-sections_fault.ensures c.in_ok-pairs.ensures.fault;
        pairs = c.in_ok-pairs.ensures.pairs;
      };
      free_after = area_spread b r.result set_words (length a.free.now) f.new.area s.new.area w.0 w.1 bits c.requires (rw c.bundle-bundle.ensures at f.ensures) (rw (← terms) s.ensures);
    }
