-- `nodes::all_fine` meets its contract.
use mathlib.Core.Path.{◌≡◌, ◌∙◌, sym}
use Rattle.lexing.specs.Words.{lexeme_in}
use Rattle.bracketing.specs.Brackets.{is_opening}
use Rattle.node_tests.proofs.NodeLaws.{opening, fine_over, fine_fails, fine_on}
use Rattle.node_tests.proofs.nodes.all_fine.Goals.{in-Opens, in_default-matches}
use Rattle.node_tests.proofs.nodes.all_fine.Goals as goal

pub returns-then-not-node_fine : goal.returns-then-not-node_fine
returns-then-not-node_fine c =
    fine_fails c.loop-l.invariant c.in-Some.ensures (sym c.node_fine.ensures ∙ c.if-not-node_fine.true)

pub loop-l-preserved : goal.loop-l-preserved
unfolding is_opening
loop-l-preserved c =
    let is : c.match-matches.matches ≡ is_opening (lexeme_in c.in-Some.l.lexeme) =
    elim c.match-matches.branch [
      | in-Opens w ↦ rw (w.matches-is, w.in-Opens.is)
      | in_default-matches w ↦ rw (w.matches-is, opening _ w.in_default-matches.not-Opens)
    ] in
    fine_on c.loop-l.invariant c.in-Some.ensures (sym c.node_fine.ensures ∙ c.if-not-node_fine.false) is

pub returns : goal.returns
returns c = fine_over c.loop-l.invariant c.in_default.ensures
