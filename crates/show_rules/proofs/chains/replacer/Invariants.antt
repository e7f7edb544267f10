-- `chains::replacer` is safe and ends: each context is lower than the one before it.
use Rattle.show_rules.proofs.chains.replacer.Given as goal

abbrev pub invariant-loop-c : goal.invariant-loop-c
invariant-loop-c l = Unit {0}

abbrev pub decreases-loop-c : goal.decreases-loop-c
decreases-loop-c l = l.c
