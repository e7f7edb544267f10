-- `sets::unite_words` meets its contract. The invariant: the first k words are united; those that are read next are as they were.
use mathlib.Core.Path.{◌≡◌}
use Rattle.sets.specs.Sets.{united}
use Rattle.sets.proofs.unite_words.Given as goal

abbrev pub invariant-loop-k : goal.invariant-loop-k
invariant-loop-k l = l.area ≡ united l.initial.area l.to l.from l.k
