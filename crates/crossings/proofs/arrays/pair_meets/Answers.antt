-- `arrays::pair_meets` meets its contract: one function for each kind.
use mathlib.Core.Path.{refl, sym, ap, ◌∙◌}
use Rattle.bundle.specs.Bundle.{Bundle, term_of}
use Rattle.crossings.proofs.Pairs.{variable_pair, application_pair, binder_pair, let_pair, other_pair}
use Rattle.crossings.proofs.arrays.pair_meets.Goals as goal

pub returns-then-kind-number : goal.returns-then-kind-number
returns-then-kind-number c ps known =
    let a = c.args in
    let b = c.bundle-bundle.ensures in
    variable_pair _ _ _ _ ps a.r (c.term_field-kind.ensures ∙ ap (λ (x : Bundle). (term_of x a.l).kind) b)
    (c.if-kind-number.true ∙ c.number.ensures) (c.term_field-x.ensures ∙ ap (λ (x : Bundle). (term_of x a.l).a) b) (c.variable_meets.ensures ps known)

pub returns-then-kind-number-2 : goal.returns-then-kind-number-2
returns-then-kind-number-2 c ps known =
    let a = c.args in
    let b = c.bundle-bundle.ensures in
    application_pair _ _ _ _ ps a.r (c.term_field-kind.ensures ∙ ap (λ (x : Bundle). (term_of x a.l).kind) b)
    (c.if-kind-number-2.true ∙ c.number-2.ensures) (rw b at c.application_meets.ensures)

pub returns-then-is_binder : goal.returns-then-is_binder
returns-then-is_binder c ps known =
    let a = c.args in
    let b = c.bundle-bundle.ensures in
    binder_pair _ _ _ _ ps a.r (c.term_field-kind.ensures ∙ ap (λ (x : Bundle). (term_of x a.l).kind) b)
    (sym c.is_binder.ensures ∙ c.if-is_binder.true) (rw b at c.binder_meets.ensures)

pub returns-then-kind-number-3 : goal.returns-then-kind-number-3
returns-then-kind-number-3 c ps known =
    let a = c.args in
    let b = c.bundle-bundle.ensures in
    let_pair _ _ _ _ ps a.r (c.term_field-kind.ensures ∙ ap (λ (x : Bundle). (term_of x a.l).kind) b)
    (c.if-kind-number-3.true ∙ c.number-3.ensures) (rw b at c.let_meets.ensures)

pub returns : goal.returns
returns c ps known =
    let a = c.args in
    let b = c.bundle-bundle.ensures in
    other_pair _ _ _ _ ps a.r (c.term_field-kind.ensures ∙ ap (λ (x : Bundle). (term_of x a.l).kind) b)
    (rw c.number.ensures at c.if-kind-number.false) (rw c.number-2.ensures at c.if-kind-number-2.false)
    (sym c.is_binder.ensures ∙ c.if-is_binder.false) (rw c.number-3.ensures at c.if-kind-number-3.false) refl
