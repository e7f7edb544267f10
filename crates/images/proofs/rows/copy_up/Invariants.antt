-- `rows::copy_up` meets its contract. The invariant: k places are copied, and what stands below the others is as it was.
use mathlib.Core.Path.{◌≡◌}
use lib.ListN.{length}
use Rattle.std.specs.List.{CopiedTo, SameBelow}
use Rattle.images.proofs.rows.copy_up.Given as goal

abbrev pub invariant-loop-k : goal.invariant-loop-k
invariant-loop-k g l =
    (length l.places ≡ length l.initial.places) × CopiedTo l.initial.places l.places l.from l.to l.k × SameBelow l.initial.places l.places l.to
