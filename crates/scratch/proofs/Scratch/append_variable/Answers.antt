-- `Scratch::append_variable` meets its contract: the stores write the new record at the section's end, and `variable_stored` says what that leaves.
use Rattle.scratch.proofs.Appended.{variable_stored}
use Rattle.scratch.proofs.Scratch.append_variable.Goals as goal

pub invariant_of-self : goal.invariant_of-self
invariant_of-self c = rw (c.variables_at.ensures.0, c.largest.ensures) (variable_stored c.self.invariant c.self.view_is _ c.requires.0).0

pub returns : goal.returns
returns c = rw (c.as_word.ensures, c.variables_at.ensures.0, c.largest.ensures) (variable_stored c.self.invariant c.self.view_is _ c.requires.0).1
