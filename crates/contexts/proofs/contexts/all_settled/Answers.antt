-- `all_settled` meets its contract.
use native.Mathlib.Omega.{arith}
use Rattle.bundle.specs.Lists.{each}
use Rattle.images.proofs.ReadingRight.{settled_right}
use Rattle.contexts.proofs.contexts.all_settled.Goals as goal

pub is_settled-requires : goal.is_settled-requires
is_settled-requires c = rw c.n.ensures (omega (arith, c.requires.1.long))

pub returns-then-not-is_settled : goal.returns-then-not-is_settled
unfolding each
returns-then-not-is_settled c =
    let a = c.args in
    let p = c.requires in
    rw (
      c.loop-t.invariant,
      c.in-Some.ensures.steps,
      ← settled_right a.sets.now p.0 (rw c.words-words.ensures.0 at c.words-words.ensures.2) a.scopes.now a.context c.in-Some.t p.1,
      ← (rw c.n.ensures at c.is_settled.ensures),
      c.if-not-is_settled.true,
    )

pub loop-t-preserved : goal.loop-t-preserved
unfolding each
loop-t-preserved c =
    let a = c.args in
    let p = c.requires in
    rw (
      c.loop-t.invariant,
      c.in-Some.ensures.steps,
      ← settled_right a.sets.now p.0 (rw c.words-words.ensures.0 at c.words-words.ensures.2) a.scopes.now a.context c.in-Some.t p.1,
      ← (rw c.n.ensures at c.is_settled.ensures),
      c.if-not-is_settled.false,
    )

pub returns : goal.returns
unfolding each
returns c = rw (c.loop-t.invariant, c.in-None.ensures.steps.0)
