-- `nodes::bracket_fine` meets its contract.
use Rattle.node_tests.proofs.NodeLaws.{inside_over, inside_head, inside_none}
use Rattle.node_tests.proofs.nodes.bracket_fine.Goals as goal

pub returns-in_default : goal.returns-in_default
returns-in_default c = inside_over c.args.bundle.now _ c.in_default.ensures

pub returns-in-Word : goal.returns-in-Word
returns-in-Word c = inside_head c.args.bundle.now _ c.in-Some.ensures c.in-Word.is c.head_fine.ensures

pub returns-in-Opens : goal.returns-in-Opens
returns-in-Opens c = inside_none c.args.bundle.now _ c.in-Some.ensures c.in-Opens.is
