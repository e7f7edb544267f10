-- The invariant: the set so far, but for what is left to remove, is the whole.
use Rattle.bundle.specs.Links.{items}
use Rattle.unions.specs.Put.{Kept}
use Rattle.unions.proofs.Puts.{Removing}
use Rattle.free_variables.proofs.remove_list.Given as goal

abbrev pub invariant-loop-v : goal.invariant-loop-v
invariant-loop-v l = record {
  kept : Kept l.initial.area l.area l.n l.at;
  removing : Removing l.initial.area l.n l.at (items l.bundle l.list) l.area l.v-iterator;
}
