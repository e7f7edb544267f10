-- `nodes::text_fine` meets its contract.
use Rattle.node_tests.proofs.NodeLaws.{judges_not, judges}
use Rattle.node_tests.proofs.nodes.text_fine.Goals as goal

pub returns-then-sort-ne0 : goal.returns-then-sort-ne0
returns-then-sort-ne0 c = judges_not c.args.bundle.now c.args.text.now _ c.sort_at-sort.ensures c.if-sort-ne0.true

pub returns : goal.returns
returns c =
    judges c.args.bundle.now c.args.text.now _ c.sort_at-sort.ensures c.if-sort-ne0.false _ c.all_fine.ensures
