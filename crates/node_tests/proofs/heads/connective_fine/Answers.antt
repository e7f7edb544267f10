-- `heads::connective_fine` meets its contract.
use mathlib.Core.Path.{◌∙◌}
use Rattle.node_tests.proofs.HeadLaws.{joins_equal, joins_other}
use Rattle.node_tests.proofs.heads.connective_fine.Goals.{in-Equal, in_default}
use Rattle.node_tests.proofs.heads.connective_fine.Goals as goal

pub returns : goal.returns
returns c =
    c.joined_fine.ensures
    ∙ elim c.match-matches.branch [
      | in-Equal w ↦ rw (w.matches-is, w.in-Equal.is) (joins_equal _ _)
      | in_default w ↦ rw w.matches-is (joins_other _ w.in_default.not-Equal _ _)
    ]
