-- `notes::note_sorts` meets its contract. The invariant: the sorts of the terms below t are noted, and nothing else is.
use mathlib.Core.Path.{◌≡◌}
use lib.ListN.{length}
use Rattle.sorting.proofs.SortsNoted.{SortsBelow}
use Rattle.sorting.proofs.notes.note_sorts.Given as goal

abbrev pub invariant-loop-t : goal.invariant-loop-t
invariant-loop-t l = (length l.sorts ≡ length l.initial.sorts) × SortsBelow l.bundle l.sorts l.t
