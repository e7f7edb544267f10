-- `is_application` meets its contract: each return is a test of `same_application`.
use borrow.Author.Tests.{eq-eqb, ne_eqb}
use Rattle.logic.specs.Lookup.{same_application}
use Rattle.filing.proofs.lookups.is_application.Goals as goal

pub returns-then-term-number : goal.returns-then-term-number
unfolding same_application
returns-then-term-number c = rw (← c.term_words-term.ensures.0, ← c.number.ensures, ne_eqb _ _ c.if-term-number.true)

pub returns-then-term-symbol : goal.returns-then-term-symbol
unfolding same_application
returns-then-term-symbol c =
    rw (← c.term_words-term.ensures.0, c.if-term-number.false, c.number.ensures, ne_eqb _ _ c.if-term-symbol.true)

pub returns : goal.returns
unfolding same_application
returns c =
    rw (← c.term_words-term.ensures.0, c.if-term-number.false, c.number.ensures, eq-eqb _ _ c.if-term-symbol.false) c.same_halves.ensures
