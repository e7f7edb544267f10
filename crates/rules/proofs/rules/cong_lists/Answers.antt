-- `rules::cong_lists` meets its contract: a straight line of reads, in the definition's order.
use mathlib.Core.Path.{refl}
use Rattle.logic.specs.Tests.{passed}
use Rattle.rules.proofs.rules.cong_lists.Goals as goal

pub returns-then-not-good : goal.returns-then-not-good
unfolding passed
returns-then-not-good c = rw (
  ← c.term_field-left_kind.ensures,
  ← c.term_field-right_kind.ensures,
  ← c.term_field-left_symbol.ensures,
  ← c.term_field-right_symbol.ensures,
  ← c.number-application.ensures,
) c.if-not-good.true

pub returns : goal.returns
unfolding passed
returns c =
    record {
      good = rw (
        ← c.term_field-left_kind.ensures,
        ← c.term_field-right_kind.ensures,
        ← c.term_field-left_symbol.ensures,
        ← c.term_field-right_symbol.ensures,
        ← c.number-application.ensures,
      ) c.if-not-good.false;
      body = refl;
      context = refl;
      lefts = c.term_field-lefts.ensures;
      rights = c.term_field-rights.ensures;
    }
