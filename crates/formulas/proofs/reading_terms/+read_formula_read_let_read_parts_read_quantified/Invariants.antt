-- The cycle of calls {read_formula, read_let, read_parts, read_quantified}. The measure is three times the bytes of the text; a list of variables or of parts has
-- one more than a formula, a let two more.
use lib.ListN.{length}
use Rattle.formulas.proofs.PartTurns as P
use Prim.Native.Nat.{◌+◌, ◌*◌}
use Rattle.formulas.proofs.reading_terms.+read_formula_read_let_read_parts_read_quantified.Given as goal

abbrev pub decreases-read_formula : goal.decreases-read_formula
decreases-read_formula l = 3 * length l.text.now

abbrev pub decreases-read_let : goal.decreases-read_let
decreases-read_let l = 3 * length l.text.now + 2

abbrev pub decreases-read_parts : goal.decreases-read_parts
decreases-read_parts l = 3 * length l.text.now + 1

abbrev pub decreases-read_quantified : goal.decreases-read_quantified
decreases-read_quantified l = 3 * length l.text.now + 1

abbrev pub invariant-read_parts-loop-part : goal.invariant-read_parts-loop-part
invariant-read_parts-loop-part l =
    P.Going l.bundle l.left l.bound l.text l.initial.filed l.initial.stack l.height l.filed l.stack l.top l.first l.part

abbrev pub decreases-read_parts-loop-part : goal.decreases-read_parts-loop-part
decreases-read_parts-loop-part l = length l.part.rest.now
