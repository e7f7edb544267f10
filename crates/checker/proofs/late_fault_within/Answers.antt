-- `late_fault_within` meets its contract: zeros are what is known of the empty context, and the room is long enough.
use Prim.Native.Nat.{ℕ}
use native.Mathlib.Omega.{arith}
use lib.ListN.{length-replicate}
use Rattle.images.proofs.ContextRows.{images_none, scopes_none}
use Rattle.checker.proofs.late_fault_within.Goals as goal

pub late_fault_in-requires : goal.late_fault_in-requires
late_fault_in-requires g c =
    let p = c.requires in
    let b = c.args.sorted.now in
    let places = g.row.PLACES in
    let words = g.row.WORDS in (
      p.0,
      p.2,
      omega (arith, p.3, length-replicate {A = ℕ} places 0),
      omega (arith, p.5, length-replicate {A = ℕ} words 0),
      images_none b places (omega (arith, p.3)),
      scopes_none b c.args.n words (omega (arith, p.5)),
      p.1,
    )
