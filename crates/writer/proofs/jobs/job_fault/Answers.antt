-- `jobs::job_fault` meets its contract: each test is that of `early_tests`, and the free sets are those of the job's terms.
use mathlib.Core.Path.{refl, ◌∙◌}
use native.Mathlib.Omega.{arith}
use native.Mathlib.Nat.{mul-le-mul_right}
use lib.ListN.{length}
use Rattle.logic.proofs.Tests.{numbers_of_lem}
use Rattle.writer.proofs.JobTests.{closed_is, not_empty_lem, not_known, not_closed, all_hold}
use Rattle.writer.proofs.jobs.job_fault.Goals as goal

pub returns-then-not-contexts-steps : goal.returns-then-not-contexts-steps
returns-then-not-contexts-steps c =
    let empty = rw (c.contexts-contexts.ensures.0, c.steps-steps.ensures.0, c.claim_right-right.ensures.0) at c.if-not-contexts-steps.true in
    (refl, not_empty_lem c.args.bundle.now empty)

pub returns-then-not-left-terms : goal.returns-then-not-left-terms
returns-then-not-left-terms c =
    let empty = rw (c.contexts-contexts.ensures.0, c.steps-steps.ensures.0, c.claim_right-right.ensures.0) at c.if-not-contexts-steps.false in
    let known = rw (c.claim_left-left.ensures.0, c.terms-terms.ensures.0) at c.if-not-left-terms.true in
    (refl, not_known c.args.bundle.now empty known)

pub returns-then-not-is_closed : goal.returns-then-not-is_closed
returns-then-not-is_closed c =
    let b = c.args.bundle.now in
    let n = c.words_for-n in
    let k = numbers_of_lem c.terms-terms.result c.claim_left-left.result c.if-not-left-terms.false in
    let empty = rw (c.contexts-contexts.ensures.0, c.steps-steps.ensures.0, c.claim_right-right.ensures.0) at c.if-not-contexts-steps.false in
    let known = rw (c.claim_left-left.ensures.0, c.terms-terms.ensures.0) at c.if-not-left-terms.false in
    let closed = rw c.of.ensures at c.is_closed.ensures
    ∙ closed_is b n.result (length c.args.sets.now) _ c.claim_left-left.ensures.0 n.ensures.0 (omega (arith, n.ensures.2, c.variables.ensures.0))
    (omega (arith, mul-le-mul_right (length b.terms) n.ensures.1, c.requires)) c.free_sets.ensures k.0
    (omega (arith, k.1, c.terms-terms.ensures.0)) in
    (c.free_sets.auto.area, not_closed b c.is_closed.result closed empty known c.if-not-is_closed.true)

pub returns : goal.returns
returns c =
    let b = c.args.bundle.now in
    let n = c.words_for-n in
    let k = numbers_of_lem c.terms-terms.result c.claim_left-left.result c.if-not-left-terms.false in
    let empty = rw (c.contexts-contexts.ensures.0, c.steps-steps.ensures.0, c.claim_right-right.ensures.0) at c.if-not-contexts-steps.false in
    let known = rw (c.claim_left-left.ensures.0, c.terms-terms.ensures.0) at c.if-not-left-terms.false in
    let closed = rw c.of.ensures at c.is_closed.ensures
    ∙ closed_is b n.result (length c.args.sets.now) _ c.claim_left-left.ensures.0 n.ensures.0 (omega (arith, n.ensures.2, c.variables.ensures.0))
    (omega (arith, mul-le-mul_right (length b.terms) n.ensures.1, c.requires)) c.free_sets.ensures k.0
    (omega (arith, k.1, c.terms-terms.ensures.0)) in
    (c.free_sets.auto.area, all_hold b c.is_closed.result closed empty known c.if-not-is_closed.false)
