-- `sets::clear_words` meets its contract. The invariant: the first k words are cleared.
use mathlib.Core.Path.{◌≡◌}
use Rattle.sets.specs.Sets.{cleared}
use Rattle.sets.proofs.clear_words.Given as goal

abbrev pub invariant-loop-k : goal.invariant-loop-k
invariant-loop-k l = l.area ≡ cleared l.initial.area l.at l.k
