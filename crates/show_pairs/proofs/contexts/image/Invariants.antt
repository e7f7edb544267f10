-- `contexts::image` is safe and ends: a parent is lower, or the walk up ends.
use Rattle.show_pairs.proofs.contexts.image.Given as goal

abbrev pub invariant-loop-c : goal.invariant-loop-c
invariant-loop-c l = Unit {0}

abbrev pub decreases-loop-c : goal.decreases-loop-c
decreases-loop-c l = l.c
