-- `chains::chain_of` is safe and ends: each context is lower than the one before it, so there are no more entries than the first has numbers.
use Prim.Native.Nat.{◌+◌, ◌≤◌}
use Rattle.show_rules.proofs.chains.chain_of.Given as goal

abbrev pub invariant-loop-c : goal.invariant-loop-c
invariant-loop-c l = l.entries + l.c ≤ l.context

abbrev pub decreases-loop-c : goal.decreases-loop-c
decreases-loop-c l = l.c
