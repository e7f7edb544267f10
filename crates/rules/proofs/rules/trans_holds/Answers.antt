-- `rules::trans_holds` meets its contract: a straight line of reads, in the definition's order.
use Rattle.logic.specs.Tests.{passed}
use Rattle.logic.specs.Rules.{trans_tests_by}
use Rattle.rules.proofs.rules.trans_holds.Goals as goal

pub returns : goal.returns
unfolding passed trans_tests_by
returns c =
    rw (
      c.carries-from_middle.ensures,
      c.carries-to_middle.ensures,
      c.field-middle.ensures,
      c.second_item-second.ensures,
      c.first_item-first.ensures,
      c.bundle-bundle.ensures,
    )
