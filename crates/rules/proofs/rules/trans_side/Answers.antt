-- `rules::trans_side` meets its contract: the middle is read, then tested.
use borrow.Author.Tests.{le-leb}
use Rattle.logic.specs.Rules.{trans_side_by}
use Rattle.rules.proofs.rules.trans_side.Goals as goal

pub returns : goal.returns
unfolding trans_side_by
returns c =
    rw (
      le-leb _ _ c.requires.1,
      c.is_settled.ensures,
      c.n.ensures,
      c.field-middle.ensures,
      c.of.ensures,
      c.bundle-2.ensures,
      c.first_item-first.ensures,
      c.bundle.ensures,
    )
