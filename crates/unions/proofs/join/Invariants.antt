-- `join` meets its contract. The invariant: the first k words are written; those that are read next are as they were.
use mathlib.Core.Path.{◌≡◌}
use lib.ListN.{length}
use Rattle.unions.specs.Unions.{joined}
use Rattle.unions.proofs.join.Given as goal

abbrev pub invariant-loop-k : goal.invariant-loop-k
invariant-loop-k l = (length l.lists ≡ length l.initial.lists) × (l.lists ≡ joined l.area l.first l.initial.lists l.second l.initial.lists l.to l.k)
