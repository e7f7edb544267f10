-- The invariant: what is left of the lists to cross, on top of what is crossed, is the whole.
use Rattle.bundle.specs.Links.{items}
use Rattle.pair_walk.proofs.CrossedLists.{Along}
use Rattle.pair_walk.proofs.turns.cross_lists.Given as goal

abbrev pub invariant-loop-x : goal.invariant-loop-x
invariant-loop-x l =
    Along l.initial.path (items l.initial.path.sets.bundle l.first) (items l.initial.path.sets.bundle l.second) l.path l.x-iterator l.others
