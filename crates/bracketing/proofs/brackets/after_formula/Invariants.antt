-- `brackets::after_formula` meets its contract. The invariant: what follows the formula is what follows here, where `open` of its brackets are open.
-- The measure is what is left of the text.
use lib.ListN.{length}
use Rattle.bracketing.proofs.TextLaws.{Skipping}
use Rattle.bracketing.proofs.brackets.after_formula.Given as goal

abbrev pub invariant-loop-l : goal.invariant-loop-l
invariant-loop-l l = Skipping l.text l.open l.rest

abbrev pub decreases-loop-l : goal.decreases-loop-l
decreases-loop-l l = length l.rest
