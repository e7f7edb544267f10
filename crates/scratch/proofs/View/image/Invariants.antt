-- The invariant: the image is that in the context where the walk has come to. The measure is that context's number.
use mathlib.Core.Path.{◌≡◌}
use Rattle.logic.specs.Contexts.{image}
use Rattle.scratch.proofs.View.image.Given as goal

abbrev pub invariant-loop-k : goal.invariant-loop-k
invariant-loop-k l = image l.self l.context l.x ≡ image l.self l.k l.x

abbrev pub decreases-loop-k : goal.decreases-loop-k
decreases-loop-k l = l.k
