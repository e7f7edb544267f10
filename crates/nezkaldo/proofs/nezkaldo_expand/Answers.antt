-- `nezkaldo::nezkaldo_expand` meets its contract: what `expand` leaves, with its answer as one number.
use lib.ListN.{length}
use Rattle.nezkaldo.proofs.Exported.{expand_fits}
use Rattle.nezkaldo.proofs.nezkaldo_expand.Goals as goal

pub reply_number-requires : goal.reply_number-requires
reply_number-requires c =
    let a = c.args in
    rw c.expand-reply.ensures.answer (expand_fits _ a.job.now (length a.out.now) (length a.words.now) (length a.sets.now))
