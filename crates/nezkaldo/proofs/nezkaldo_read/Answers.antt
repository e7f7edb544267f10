-- `nezkaldo::nezkaldo_read` meets its contract: what `read` leaves, with its answer as one number.
use native.Mathlib.Omega.{arith}
use Prim.Native.Nat.{◌≤◌}
use lib.ListN.{length}
use Rattle.nezkaldo.proofs.Exported.{read_fits}
use Rattle.nezkaldo.proofs.nezkaldo_read.Goals as goal

pub reply_number-requires : goal.reply_number-requires
reply_number-requires c =
    let a = c.args in
    let most : length a.text.now ≤ 9223372036854775807 = omega (arith, c.well_formed.1.0.1) in
    rw c.read-reply.ensures.answer (read_fits a.declarations.now a.text.now (length a.out.now) (length a.words.now) (length a.sets.now) most)
