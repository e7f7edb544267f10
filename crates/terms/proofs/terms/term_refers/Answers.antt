-- `terms::term_refers` meets its contract: in each branch the kind is known, and the tests are those that `refers_as` lists for it. Where they hold,
-- so does that of the items of a list, and what is noted with it.
use mathlib.Core.Bool.{◌&&◌}
use lib.Dec.{eqb, leb}
use Rattle.logic.specs.Tests.{passed}
use Rattle.logic.specs.Checks.{refers_as}
use Rattle.logic.proofs.Tests.{and_left, and_right}
use Rattle.terms.proofs.terms.term_refers.Goals as goal

pub returns-in-Some-Variable : goal.returns-in-Some-Variable
unfolding refers_as passed
returns-in-Some-Variable c = (
  rw (c.of.ensures, c.in-Some-Variable.is, c.in-Some-Variable.field-0-is, ← c.variables-variables.ensures.0, ← c.is_number.ensures),
  λ e. c.requires.0,
)

pub returns-in-Some-Binder : goal.returns-in-Some-Binder
unfolding refers_as passed
returns-in-Some-Binder c = (
  rw (
    c.of.ensures,
    c.in-Some-Binder.is,
    c.in-Some-Binder.field-0-is,
    ← c.variables-variables.ensures.0,
    ← c.is_number-in-Some-Binder.ensures,
    ← c.is_number-in-Some-Binder-2.ensures,
  ),
  λ e. c.requires.0,
)

pub returns-in-None : goal.returns-in-None
unfolding refers_as passed
returns-in-None c = (rw (c.of.ensures, c.in-None.is), λ e. c.requires.0)

pub returns-in-Some-Application : goal.returns-in-Some-Application
unfolding refers_as passed
returns-in-Some-Application c =
    let a = c.args in
    let known = c.is_known-symbol.result in
    let starts = leb a.w.second c.links-links.result in
    let all = c.all_lower-terms in (
      rw (
        c.of.ensures,
        c.in-Some-Application.is,
        c.in-Some-Application.field-0-is,
        ← c.signature_of.ensures,
        ← c.is_known-symbol.ensures,
        ← all.ensures.0,
        ← c.links-links.ensures.0,
      ),
      λ e. all.ensures.1 (and_right (known && starts) all.result (and_left (known && starts && all.result) (eqb a.w.third 0) e)),
    )

pub returns-in-Some-Let : goal.returns-in-Some-Let
unfolding refers_as passed
returns-in-Some-Let c =
    let a = c.args in
    let first = leb a.w.first c.links-links.result && c.all_numbers-bound.result && leb a.w.second c.links-links.result in
    let all = c.all_lower-terms-in-Some-Let in
    let body = c.is_number-in-Some-Let in (
      rw (
        c.of.ensures,
        c.in-Some-Let.is,
        c.in-Some-Let.field-0-is,
        ← c.variables-variables.ensures.0,
        ← c.all_numbers-bound.ensures,
        ← all.ensures.0,
        ← body.ensures,
        ← c.links-links.ensures.0,
      ),
      λ e. all.ensures.1 (and_right first all.result (and_left (first && all.result) body.result e)),
    )
