-- `arguments_fit` meets its contract, by the cases of the argument sorts.
use mathlib.Core.Path.{refl, sym, ap, ◌∙◌}
use Rattle.bundle.specs.Bundle.{Bundle, symbol_of}
use Rattle.logic.specs.Symbols.{argument_sorts}
use Rattle.bundle.proofs.Walks.{walk_start, walk_start_le}
use Rattle.sorting.proofs.SortLists.{ended}
use Rattle.sorting.proofs.sorted_bundle.SortedBundle.arguments_fit.Goals as goal

pub returns-in-BuiltIn : goal.returns-in-BuiltIn
unfolding argument_sorts
returns-in-BuiltIn c = (rw c.in-BuiltIn.is c.all_of_sort.ensures, λ e. c.requires)

pub returns-in-Declared : goal.returns-in-Declared
unfolding argument_sorts
returns-in-Declared c = (
  rw (c.in-Declared.is, ← (c.symbol_field-list.ensures ∙ ap (λ (b : Bundle). (symbol_of b c.in-Declared.i).sorts) c.self.view_is)) c.same_sorts.ensures.0,
  c.same_sorts.ensures.1,
)

pub returns-in-Unknown : goal.returns-in-Unknown
unfolding argument_sorts
returns-in-Unknown c =
    let a = c.args in
    let r = c.first_link in
    let start = rw c.self.view_is at r.ensures in (
      rw (c.in-Unknown.is, walk_start a.self.now a.terms r.result start)
          (sym (ended a.self.now refl (walk_start_le a.self.now a.terms r.result start))),
      λ e. c.requires,
    )
