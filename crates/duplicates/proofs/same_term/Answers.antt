-- `same_term` meets its contract: the tests of `same_term` in their order, on the fields that the readers give.
use borrow.Author.Tests.{eq-eqb, ne_eqb}
use Rattle.logic.specs.Checks.{same_term}
use Rattle.duplicates.proofs.same_term.Goals as goal

pub returns-then-kind-term_field : goal.returns-then-kind-term_field
unfolding same_term
returns-then-kind-term_field c = rw (← c.term_field-kind.ensures, ← c.term_field.ensures, ne_eqb _ _ c.if-kind-term_field.true)

pub returns : goal.returns
unfolding same_term
returns c =
    rw (
      ← c.term_field-kind.ensures,
      ← c.term_field.ensures,
      eq-eqb _ _ c.if-kind-term_field.false,
      ← c.second_is_list.ensures,
      ← c.first_is_list.ensures,
      ← c.term_field-2.ensures,
      ← c.term_field-3.ensures,
      ← c.same_field-first.ensures,
      ← c.term_field-4.ensures,
      ← c.term_field-5.ensures,
      ← c.same_field-second.ensures,
      ← c.term_field-6.ensures,
      ← c.term_field-7.ensures,
    )
