-- `expand` meets its contract: what `store_job` leaves, and zeros everywhere else.
use lib.ListN.{length}
use Rattle.expansion.proofs.AreasAfter.{file_room, left_zeroed}
use Rattle.expansion.proofs.JobChecks.{zeros_left}
use Rattle.writer.proofs.expand.Goals as goal

pub close-requires : goal.close-requires
close-requires c =
    let a = c.args in
    file_room _ a.out.now a.words.now a.sets.now _ _ _ _ c.store_job-answer.ensures

pub returns : goal.returns
returns c =
    let a = c.args in
    rw c.close.ensures.0
    (left_zeroed _ a.out.now a.words.now a.sets.now _ _ _ _
    (zeros_left a.names a.job.now (length a.out.now) (length a.words.now) (length a.sets.now)) c.store_job-answer.ensures
    c.close.ensures.1)
