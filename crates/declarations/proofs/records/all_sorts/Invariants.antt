-- The invariant: the list has only sorts where what is left of it has.
use mathlib.Core.Path.{◌≡◌}
use Rattle.bundle.specs.Links.{items}
use Rattle.bundle.specs.Lists.{each}
use Rattle.logic.specs.Symbols.{is_sort}
use Rattle.declarations.proofs.records.all_sorts.Given as goal

abbrev pub invariant-loop-s : goal.invariant-loop-s
invariant-loop-s l = each (is_sort l.bundle) (items l.bundle l.list) ≡ each (is_sort l.bundle) l.s-iterator
