-- `all_of_sort` meets its contract.
use mathlib.Core.Path.{◌≡◌, sym, ◌∙◌}
use mathlib.Core.Bool.{false}
use Prim.Native.Nat.{◌+◌, ◌-◌}
use native.Mathlib.Omega.{arith}
use lib.ListN.{replicate, length-replicate, length-map}
use borrow.Author.Tests.{eq-eqb, ne_eqb}
use Rattle.bundle.specs.Lists.{same_list}
use Rattle.sorting.proofs.SortLists.{replicate_cons}
use Rattle.scratch.specs.Stack.{half_of, halves_of}
use Rattle.scratch.proofs.Halves.{rest_none, rest_more}
use Rattle.pass_terms.proofs.PairSorts.{uneven}
use Rattle.pass_terms.proofs.sorts.all_of_sort.Goals as goal

pub returns-then-pairs-count : goal.returns-then-pairs-count
returns-then-pairs-count c =
    let ps = c.args.pairs.now in
    sym (uneven (replicate c.args.count c.args.sort) (halves_of false ps)
    (λ e. c.if-pairs-count.true (sym (length-map ps (half_of false)) ∙ sym e ∙ length-replicate c.args.count c.args.sort)))

pub returns-then-sort-half : goal.returns-then-sort-half
unfolding same_list
returns-then-sort-half c =
    let l = c.loop-pair in
    rw (l.invariant, rest_more false c.args.pairs.now l.pair-index c.loop-pair-test.true, replicate_cons (c.args.count - l.pair-index) c.args.sort (omega arith))
    (rw (← c.half.ensures.0, ne_eqb _ _ c.if-sort-half.true))

pub loop-pair-preserved : goal.loop-pair-preserved
unfolding same_list
loop-pair-preserved c =
    let l = c.loop-pair in
    let one : c.args.count - l.pair-index - 1 ≡ c.args.count - (l.pair-index + 1) = omega arith in
    rw (l.invariant, rest_more false c.args.pairs.now l.pair-index c.loop-pair-test.true, replicate_cons (c.args.count - l.pair-index) c.args.sort (omega arith))
    (rw (← c.half.ensures.0, eq-eqb _ _ c.if-sort-half.false, one))

pub returns : goal.returns
unfolding same_list
returns c =
    let l = c.loop-pair in
    let none : c.args.count - l.pair-index ≡ 0 = omega arith in
    rw (l.invariant, rest_none false c.args.pairs.now l.pair-index c.loop-pair-test.false, none)
