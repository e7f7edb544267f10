-- `heads::let_fine` meets its contract.
use Rattle.node_tests.proofs.HeadLaws.{fresh_start}
use Rattle.node_tests.proofs.heads.let_fine.Goals as goal

pub returns : goal.returns
returns c = fresh_start c.args.bundle.now c.after_lexeme.ensures c.all_fresh.ensures
