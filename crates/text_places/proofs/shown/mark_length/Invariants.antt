-- `shown::mark_length` meets its contract. The invariant: what stands under the bytes before the next is in the area.
use Rattle.text_places.proofs.ShownLaws.{Marking}
use Rattle.text_places.proofs.shown.mark_length.Given as goal

abbrev pub invariant-loop-b : goal.invariant-loop-b
invariant-loop-b l = Marking l.part l.line l.n l.b-index
