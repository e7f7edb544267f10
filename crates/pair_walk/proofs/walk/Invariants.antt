-- `walk` meets its contract. The invariant: the pair, counted already, and then what is left to do on the path, is the whole walk. The measure is the pairs
-- left.
use mathlib.Core.List.{[]}
use mathlib.Core.Path.{◌≡◌}
use lib.ListN.{length}
use Rattle.free_variables.specs.TermSets.{free_in}
use Rattle.logic.specs.ReflWalk.{within_by}
use Rattle.images.specs.ContextRows.{image_at}
use Rattle.pair_walk.proofs.Visiting.{Visiting}
use Rattle.pair_walk.proofs.walk.Given as goal

abbrev pub invariant-loop-path : goal.invariant-loop-path
invariant-loop-path l =
    Visiting (free_in l.path.sets) (image_at (length l.path.sets.bundle.variables) l.images l.context)
    (within_by (free_in l.sets) (image_at (length l.sets.bundle.variables) l.images l.context) l.sets.bundle l.left [] l.right l.most) l.path l.l l.r l.spare
    × (l.path.sets ≡ l.sets)

abbrev pub decreases-loop-path : goal.decreases-loop-path
decreases-loop-path l = l.spare
