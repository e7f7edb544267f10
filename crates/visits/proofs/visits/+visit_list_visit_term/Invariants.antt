-- The cycle of calls {visit_list, visit_term}. The measure is the term's number first and the links left second, of which there are at most L, the
-- limit of links: a term has L + 2 times its number and L + 1 more, a list of the term o has L + 2 times o and the links left from it on.
use Prim.Native.Nat.{◌+◌, ◌*◌}
use Rattle.bundle.specs.Limits.{limits}
use Rattle.visits.proofs.ListTurns.{left}
use Rattle.visits.proofs.visits.+visit_list_visit_term.Given as goal

abbrev pub decreases-visit_list : goal.decreases-visit_list
decreases-visit_list l = l.owner * (limits.links + 2) + left l.list

abbrev pub decreases-visit_term : goal.decreases-visit_term
decreases-visit_term l = l.term * (limits.links + 2) + (limits.links + 1)
