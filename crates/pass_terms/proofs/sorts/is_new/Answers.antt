-- `is_new` meets its contract.
use mathlib.Core.Bool.{false}
use borrow.Author.Tests.{eq-eqb, ne_eqb}
use Rattle.bundle.specs.Lists.{has}
use Rattle.scratch.proofs.Halves.{rest_none, rest_more}
use Rattle.pass_terms.proofs.sorts.is_new.Goals as goal

pub returns-then-x-half : goal.returns-then-x-half
unfolding has
returns-then-x-half c =
    let l = c.loop-pair in
    rw (l.invariant, rest_more false c.args.pairs.now l.pair-index c.loop-pair-test.true) (rw (← c.half.ensures.0, eq-eqb _ _ c.if-x-half.true))

pub loop-pair-preserved : goal.loop-pair-preserved
unfolding has
loop-pair-preserved c =
    let l = c.loop-pair in
    rw (l.invariant, rest_more false c.args.pairs.now l.pair-index c.loop-pair-test.true) (rw (← c.half.ensures.0, ne_eqb _ _ c.if-x-half.false))

pub returns : goal.returns
unfolding has
returns c =
    let l = c.loop-pair in
    rw (l.invariant, rest_none false c.args.pairs.now l.pair-index c.loop-pair-test.false)
