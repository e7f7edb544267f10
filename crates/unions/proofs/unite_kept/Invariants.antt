-- `unite_kept` meets its contract. The invariant: the first k words are united.
use mathlib.Core.Path.{◌≡◌}
use lib.ListN.{length}
use Rattle.unions.specs.Unions.{joined}
use Rattle.unions.proofs.unite_kept.Given as goal

abbrev pub invariant-loop-k : goal.invariant-loop-k
invariant-loop-k l = (length l.area ≡ length l.initial.area) × (l.area ≡ joined l.initial.area l.at l.lists l.from l.initial.area l.at l.k)
