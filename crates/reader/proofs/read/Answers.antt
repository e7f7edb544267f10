-- `read` meets its contract: what `store_read` leaves, and zeros everywhere else.
use lib.ListN.{length}
use Rattle.expansion.proofs.AreasAfter.{file_room, left_zeroed}
use Rattle.reading.specs.Reading.{reading}
use Rattle.reading.proofs.Demands.{areas_left}
use Rattle.reader.proofs.read.Goals as goal

pub close-requires : goal.close-requires
close-requires c =
    let a = c.args in
    file_room (reading a.declarations.now a.text.now (length a.out.now) (length a.words.now) (length a.sets.now))
    a.out.now a.words.now a.sets.now _ _ _ _ c.store_read-answer.ensures

pub returns : goal.returns
returns c =
    let a = c.args in
    rw c.close.ensures.0
    (left_zeroed _ a.out.now a.words.now a.sets.now _ _ _ _
    (areas_left a.declarations.now a.text.now (length a.out.now) (length a.words.now) (length a.sets.now))
    c.store_read-answer.ensures c.close.ensures.1)
