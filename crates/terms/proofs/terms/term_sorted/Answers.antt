-- `terms::term_sorted` meets its contract: in each branch the kind is known, and the callee says what `sorted_as` asks for it.
use Rattle.logic.specs.Tests.{passed}
use Rattle.logic.specs.Checks.{lists_agree, sorted_as}
use Rattle.terms.proofs.terms.term_sorted.Goals as goal

pub returns-in-Some-Application : goal.returns-in-Some-Application
unfolding sorted_as
returns-in-Some-Application c = (
  rw (
    c.of.ensures,
    c.in-Some-Application.is,
    c.in-Some-Application.field-0-is,
    ← (rw c.bundle.ensures at c.signature_of.ensures),
    ← c.arguments_fit.ensures.0,
  ),
  c.arguments_fit.ensures.1,
)

pub returns-in-Some-Binder : goal.returns-in-Some-Binder
unfolding sorted_as
returns-in-Some-Binder c =
    (rw (c.of.ensures, c.in-Some-Binder.is, c.in-Some-Binder.field-0-is, ← c.sort.ensures), λ e. c.requires)

pub returns-in-Some-Let : goal.returns-in-Some-Let
unfolding sorted_as lists_agree passed
returns-in-Some-Let c = (
  rw (
    c.of.ensures,
    c.in-Some-Let.is,
    c.in-Some-Let.field-0-is,
    ← (rw c.bundle-in-Some-Let.ensures at c.some_different-distinct.ensures),
    ← c.variables_fit-fit.ensures,
  ),
  λ e. c.requires,
)

pub returns-in-Some-Variable : goal.returns-in-Some-Variable
unfolding sorted_as
returns-in-Some-Variable c = (rw (c.of.ensures, c.in-Some-Variable.is, c.in-Some-Variable.field-0-is), λ e. c.requires)

pub returns-in-None : goal.returns-in-None
unfolding sorted_as
returns-in-None c = (rw (c.of.ensures, c.in-None.is), λ e. c.requires)
