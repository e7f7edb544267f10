-- `same_halves` meets its contract.
use mathlib.Core.Path.{◌≡◌, refl}
use mathlib.Core.List.{List, [], ◌∷◌}
use Prim.Native.Nat.{ℕ}
use borrow.Author.Tests.{eq-eqb, ne_eqb}
use Rattle.bundle.specs.Lists.{same_list}
use Rattle.bundle.proofs.Ended.{ended}
use Rattle.scratch.proofs.Halves.{rest_none, rest_more}
use Rattle.scratch.proofs.lists.same_halves.Goals as goal

pub returns-in_default : goal.returns-in_default
unfolding same_list
returns-in_default g c =
    let l = c.loop-pair in
    rw (l.invariant, c.in_default.ensures.steps.0, rest_more c.args.upper c.args.pairs.now l.pair-index c.loop-pair-test.true)

pub returns-then-value-half : goal.returns-then-value-half
unfolding same_list
returns-then-value-half g c =
    let l = c.loop-pair in
    rw (l.invariant, c.in-Some.ensures.steps, rest_more c.args.upper c.args.pairs.now l.pair-index c.loop-pair-test.true)
    (rw (← c.half.ensures.0, ne_eqb _ _ c.if-value-half.true))

pub loop-pair-preserved : goal.loop-pair-preserved
unfolding same_list
loop-pair-preserved g c =
    let l = c.loop-pair in
    rw (l.invariant, c.in-Some.ensures.steps, rest_more c.args.upper c.args.pairs.now l.pair-index c.loop-pair-test.true)
    (rw (← c.half.ensures.0, eq-eqb _ _ c.if-value-half.false))

-- where one of two lists has ended it does not matter which
turned : (xs : List ℕ) → same_list xs [] ≡ same_list [] xs
unfolding same_list
turned [] = refl
turned (x ∷ xs) = refl

pub returns : goal.returns
returns g c =
    let l = c.loop-pair in
    rw (l.invariant, rest_none c.args.upper c.args.pairs.now l.pair-index c.loop-pair-test.false, turned l.values)
    (ended _ _ _ _ c.next-2.ensures.steps c.is_none.ensures)
