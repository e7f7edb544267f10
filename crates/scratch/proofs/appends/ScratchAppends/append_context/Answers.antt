-- `Scratch::append_context` meets its contract: the stores write the new record at the section's end, and `context_stored` says what that leaves.
use Rattle.scratch.proofs.Appended.{context_stored}
use Rattle.scratch.proofs.appends.ScratchAppends.append_context.Goals as goal

pub invariant_of-self : goal.invariant_of-self
invariant_of-self c = rw (c.contexts_at.ensures.0, c.largest.ensures) (context_stored c.self.invariant c.self.view_is _ _ _ _ c.requires.0).0

pub returns : goal.returns
returns c = rw (c.as_word.ensures, c.as_word-2.ensures, c.as_word-3.ensures, c.as_word-4.ensures, c.contexts_at.ensures.0, c.largest.ensures) (context_stored c.self.invariant c.self.view_is _ _ _ _ c.requires.0).1
