-- `Scratch::into_words` meets its contract: the words hold the bundle by its own counts.
use Rattle.scratch.proofs.ScratchFields.{own_counts_as}
use Rattle.scratch.proofs.Scratch.into_words.Goals as goal

pub returns : goal.returns
returns c =
    rw (← own_counts_as _ _ c.self.view_is)
    (c.self.invariant, c.self.view_is)
