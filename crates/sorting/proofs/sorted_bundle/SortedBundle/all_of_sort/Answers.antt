-- `all_of_sort` meets its contract.
use Rattle.std.proofs.Common.{◌≡◌, ◌+◌, ◌-◌, arith}
use borrow.Author.Tests.{eq-eqb, ne_eqb}
use Rattle.bundle.specs.Lists.{same_list}
use Rattle.logic.specs.Sorts.{sort_at}
use Rattle.sorting.proofs.SortLists.{replicate_cons, no_more}
use Rattle.sorting.proofs.sorted_bundle.SortedBundle.all_of_sort.Goals as goal

pub returns-in_default : goal.returns-in_default
unfolding same_list
returns-in_default c =
    let n = c.args.count - c.loop.counter in
    rw (c.loop.invariant, replicate_cons n c.args.sort (λ e. omega arith), c.in_default.ensures.steps.0)

pub returns-then-sort : goal.returns-then-sort
unfolding same_list
returns-then-sort c =
    let n = c.args.count - c.loop.counter in
    rw (
      c.loop.invariant,
      replicate_cons n c.args.sort (λ e. omega arith),
      c.in-Some.ensures.steps,
      ← c.sort.ensures,
      ne_eqb _ _ c.if-sort.true,
    )

pub loop-preserved : goal.loop-preserved
unfolding same_list
loop-preserved c =
    let n = c.args.count - c.loop.counter in
    let less : c.args.count - (c.loop.counter + 1) ≡ n - 1 = omega arith in
    rw (
      c.loop.invariant,
      replicate_cons n c.args.sort (λ e. omega arith),
      c.in-Some.ensures.steps,
      ← c.sort.ensures,
      eq-eqb _ _ c.if-sort.false,
      less,
    )

pub returns : goal.returns
returns c =
    let none : c.args.count - c.loop.counter ≡ 0 = omega arith in
    rw (c.loop.invariant, none) (no_more (sort_at c.args.self.now) _ _ _ _ c.next-2.ensures.steps c.is_none.ensures)
