-- `steps::step_refers` meets its contract: the tests in the definition's order, each that fails by itself; the count is left.
use native.Mathlib.Omega.{arith}
use mathlib.Core.Path.{sym, ◌∙◌}
use mathlib.Core.Logic.{inl, inr}
use Rattle.bundle.specs.RecordWords.{as_step}
use Rattle.steps.proofs.RuleOf.{context_past, left_none, right_none, list_past, earlier_not, count_left}
use Rattle.steps.proofs.steps.step_refers.Goals as goal

pub returns-then-context-contexts : goal.returns-then-context-contexts
returns-then-context-contexts c =
    let a = c.args in
    sym (context_past a.bundle.now (as_step a.s) a.earlier (omega (arith, c.if-context-contexts.true)))

pub returns-then-left-eq0 : goal.returns-then-left-eq0
returns-then-left-eq0 c =
    let a = c.args in
    sym (left_none a.bundle.now (as_step a.s) a.earlier (inl c.if-left-eq0.true))

pub returns-then-left-terms : goal.returns-then-left-terms
returns-then-left-terms c =
    let a = c.args in
    sym (left_none a.bundle.now (as_step a.s) a.earlier (inr (omega (arith, c.if-left-terms.true))))

pub returns-then-right-eq0 : goal.returns-then-right-eq0
returns-then-right-eq0 c =
    let a = c.args in
    sym (right_none a.bundle.now (as_step a.s) a.earlier (inl c.if-right-eq0.true))

pub returns-then-right-terms : goal.returns-then-right-terms
returns-then-right-terms c =
    let a = c.args in
    sym (right_none a.bundle.now (as_step a.s) a.earlier (inr (omega (arith, c.if-right-terms.true))))

pub returns-then-premises-links : goal.returns-then-premises-links
returns-then-premises-links c =
    let a = c.args in
    sym (list_past a.bundle.now (as_step a.s) a.earlier (omega (arith, c.if-premises-links.true)))

pub returns-then-not-earlier : goal.returns-then-not-earlier
returns-then-not-earlier c =
    let a = c.args in
    sym (earlier_not a.bundle.now (as_step a.s) a.earlier c.if-not-earlier.true)

pub returns : goal.returns
returns c =
    let a = c.args in
    c.count_fits.ensures
    ∙ count_left a.bundle.now (as_step a.s) a.earlier (omega (arith, c.if-context-contexts.false)) (omega (arith, c.if-left-eq0.false))
    (omega (arith, c.if-left-terms.false)) (omega (arith, c.if-right-eq0.false))
    (omega (arith, c.if-right-terms.false)) (omega (arith, c.if-premises-links.false))
    c.if-not-earlier.false
