-- `variables_fit` meets its contract.
use borrow.Author.Tests.{eq-eqb, ne_eqb}
use Rattle.bundle.specs.Lists.{same_list}
use Rattle.logic.specs.Sorts.{sort_at}
use Rattle.sorting.proofs.SortLists.{no_more}
use Rattle.sorting.proofs.sorted_bundle.SortedBundle.variables_fit.Goals as goal

pub returns-in_default : goal.returns-in_default
unfolding same_list
returns-in_default c = rw (c.loop-v.invariant, c.in-Some.ensures.steps, c.in_default.ensures.steps.0)

pub returns-then-variable_sort-sort : goal.returns-then-variable_sort-sort
unfolding same_list
returns-then-variable_sort-sort c =
    rw (
      c.loop-v.invariant,
      c.in-Some.ensures.steps,
      c.in-Some-next.ensures.steps,
      ← (rw c.self.view_is at c.variable_sort.ensures),
      ← c.sort.ensures,
      ne_eqb _ _ c.if-variable_sort-sort.true,
    )

pub loop-v-preserved : goal.loop-v-preserved
unfolding same_list
loop-v-preserved c =
    rw (
      c.loop-v.invariant,
      c.in-Some.ensures.steps,
      c.in-Some-next.ensures.steps,
      ← (rw c.self.view_is at c.variable_sort.ensures),
      ← c.sort.ensures,
      eq-eqb _ _ c.if-variable_sort-sort.false,
    )

pub returns : goal.returns
returns c =
    rw (c.loop-v.invariant, c.in-None.ensures.steps.0)
    (no_more (sort_at c.args.self.now) _ _ _ _ c.next-2.ensures.steps c.is_none.ensures)
