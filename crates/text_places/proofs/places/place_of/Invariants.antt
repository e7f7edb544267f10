-- `places::place_of` meets its contract. The invariant: line and start are those of byte j.
use Rattle.text_places.proofs.PlaceLaws.{Counted}
use Rattle.text_places.proofs.places.place_of.Given as goal

abbrev pub invariant-loop-j : goal.invariant-loop-j
invariant-loop-j l = Counted l.text l.at l.line l.start l.j
