-- `shown::shown_length` meets its contract. The invariant: the bytes before the next are in the area, as they are shown.
use Rattle.text_places.proofs.ShownLaws.{Showing}
use Rattle.text_places.proofs.shown.shown_length.Given as goal

abbrev pub invariant-loop-n : goal.invariant-loop-n
invariant-loop-n l = Showing l.part l.line l.n
