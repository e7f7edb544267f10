-- `is_let` meets its contract: the kind, then the three other tests of `same_let`.
use borrow.Author.Tests.{ne_eqb}
use Rattle.logic.specs.Lookup.{same_let}
use Rattle.filing.proofs.lookups.is_let.Goals as goal

pub returns-then-term-number : goal.returns-then-term-number
unfolding same_let
returns-then-term-number c = rw (← c.term_words-term.ensures.0, ← c.number.ensures, ne_eqb _ _ c.if-term-number.true)

pub returns : goal.returns
unfolding same_let
returns c =
    rw (
      ← c.term_words-term.ensures.0,
      c.if-term-number.false,
      c.number.ensures,
      ← c.same_halves-named.ensures,
      ← c.same_halves-bound.ensures,
    )
