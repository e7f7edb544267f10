-- `Scratch::append_term` meets its contract: the stores write the new record at the section's end, and `term_stored` says what that leaves.
use Rattle.scratch.proofs.Appended.{term_stored}
use Rattle.scratch.proofs.Scratch.append_term.Goals as goal

pub invariant_of-self : goal.invariant_of-self
invariant_of-self c = rw (c.terms_at.ensures.0, c.largest.ensures) (term_stored c.self.invariant c.self.view_is _ _ _ _ c.requires.0).0

pub returns : goal.returns
returns c = rw (c.as_word.ensures, c.as_word-2.ensures, c.as_word-3.ensures, c.as_word-4.ensures, c.terms_at.ensures.0, c.largest.ensures) (term_stored c.self.invariant c.self.view_is _ _ _ _ c.requires.0).1
