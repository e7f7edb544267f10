-- `records::all_sorts_meet` meets its contract.
use Rattle.bundle.proofs.Ended.{ended}
use Rattle.logic.specs.ReflWalk.{all_sorts_meet}
use Rattle.crossings.proofs.Pairs.{none_sorts}
use Rattle.crossings.proofs.records.all_sorts_meet.Goals as goal

pub returns-in_default : goal.returns-in_default
unfolding all_sorts_meet
returns-in_default c = rw (c.loop-x.invariant, c.in-Some.ensures.steps, c.in_default.ensures.steps.0)

pub returns-then-not-sorts_meet : goal.returns-then-not-sorts_meet
unfolding all_sorts_meet
returns-then-not-sorts_meet c =
    rw (c.loop-x.invariant, c.in-Some.ensures.steps, c.in-Some-next.ensures.steps, ← c.sorts_meet.ensures, c.if-not-sorts_meet.true)

pub loop-x-preserved : goal.loop-x-preserved
unfolding all_sorts_meet
loop-x-preserved c =
    rw (c.loop-x.invariant, c.in-Some.ensures.steps, c.in-Some-next.ensures.steps, ← c.sorts_meet.ensures, c.if-not-sorts_meet.false)

pub returns : goal.returns
returns c = rw (c.loop-x.invariant, c.in-None.ensures.steps.0, none_sorts) (ended _ _ _ _ c.next-2.ensures.steps c.is_none.ensures)
