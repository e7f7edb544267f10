-- The invariant: the list has the halves where what is left of it has those that are left.
use mathlib.Core.Path.{◌≡◌}
use lib.ListN.{drop}
use Rattle.bundle.specs.Links.{items}
use Rattle.bundle.specs.Lists.{same_list}
use Rattle.scratch.specs.Stack.{halves_of}
use Rattle.scratch.proofs.lists.same_halves.Given as goal

abbrev pub invariant-loop-pair : goal.invariant-loop-pair
invariant-loop-pair g l = same_list (items (g.L.Links.bundle l.of) l.list) (halves_of l.upper l.pairs) ≡ same_list l.values (halves_of l.upper (drop l.pair-index l.pairs))
