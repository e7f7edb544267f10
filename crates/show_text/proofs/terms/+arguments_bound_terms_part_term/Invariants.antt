-- The cycle of calls {arguments, bound_terms, part, term} is safe and ends. The measure is four times the number of the term, or of the term whose parts
-- are written, with 2 more for `term`, 1 more for its lists and none for a part: a part is written out only where its number is lower.
use Prim.Native.Nat.{◌+◌, ◌*◌}
use Rattle.show_text.proofs.terms.+arguments_bound_terms_part_term.Given as goal

abbrev pub decreases-arguments : goal.decreases-arguments
decreases-arguments l = 4 * l.owner + 1

abbrev pub decreases-bound_terms : goal.decreases-bound_terms
decreases-bound_terms l = 4 * l.owner + 1

abbrev pub decreases-part : goal.decreases-part
decreases-part l = 4 * l.owner

abbrev pub decreases-term : goal.decreases-term
decreases-term l = 4 * l.t + 2
