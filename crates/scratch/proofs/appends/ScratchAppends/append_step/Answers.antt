-- `Scratch::append_step` meets its contract: the stores write the new record at the section's end, and `step_stored` says what that leaves.
use native.Mathlib.Omega.{arith}
use lib.ListN.{length-set}
use Rattle.scratch.proofs.ScratchFields.{sized_as}
use Rattle.scratch.proofs.Appended.{step_stored}
use Rattle.scratch.proofs.appends.ScratchAppends.append_step.Goals as goal

pub bounds-self-inside-at : goal.bounds-self-inside-at
bounds-self-inside-at c = rw (c.steps_at.ensures.0, c.largest.ensures) (omega (arith, c.self.invariant.long, (sized_as _ _ c.self.view_is).steps))

pub bounds-self-inside-at-2 : goal.bounds-self-inside-at-2
bounds-self-inside-at-2 c = simp length-set (rw (c.steps_at.ensures.0, c.largest.ensures) (omega (arith, c.self.invariant.long, (sized_as _ _ c.self.view_is).steps)))

pub bounds-self-inside-at-3 : goal.bounds-self-inside-at-3
bounds-self-inside-at-3 c = simp length-set (rw (c.steps_at.ensures.0, c.largest.ensures) (omega (arith, c.self.invariant.long, (sized_as _ _ c.self.view_is).steps)))

pub bounds-self-inside-at-4 : goal.bounds-self-inside-at-4
bounds-self-inside-at-4 c = simp length-set (rw (c.steps_at.ensures.0, c.largest.ensures) (omega (arith, c.self.invariant.long, (sized_as _ _ c.self.view_is).steps)))

pub bounds-self-inside-at-5 : goal.bounds-self-inside-at-5
bounds-self-inside-at-5 c = simp length-set (rw (c.steps_at.ensures.0, c.largest.ensures) (omega (arith, c.self.invariant.long, (sized_as _ _ c.self.view_is).steps)))

pub invariant_of-self : goal.invariant_of-self
invariant_of-self c = rw (c.steps_at.ensures.0, c.largest.ensures) (step_stored c.self.invariant c.self.view_is _ _ _ _ _ c.requires.0).0

pub returns : goal.returns
returns c =
    rw (c.as_word.ensures, c.as_word-2.ensures, c.as_word-3.ensures, c.as_word-4.ensures, c.as_word-5.ensures, c.steps_at.ensures.0, c.largest.ensures)
    (step_stored c.self.invariant c.self.view_is _ _ _ _ _ c.requires.0).1
