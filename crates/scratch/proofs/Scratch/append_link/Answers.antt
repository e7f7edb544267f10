-- `Scratch::append_link` meets its contract: the stores write the new record at the section's end, and `link_stored` says what that leaves.
use Rattle.scratch.proofs.Appended.{link_stored}
use Rattle.scratch.proofs.Scratch.append_link.Goals as goal

pub invariant_of-self : goal.invariant_of-self
invariant_of-self c = rw (c.links_at.ensures.0, c.largest.ensures) (link_stored c.self.invariant c.self.view_is _ _ c.requires.0).0

pub returns : goal.returns
returns c = rw (c.as_word.ensures, c.as_word-2.ensures, c.links_at.ensures.0, c.largest.ensures) (link_stored c.self.invariant c.self.view_is _ _ c.requires.0).1
