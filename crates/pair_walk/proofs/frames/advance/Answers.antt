-- `frames::advance` meets its contract: two words stored.
use lib.ListN.{length-set}
use Rattle.pair_walk.proofs.FrameWords.{frames_advanced}
use Rattle.pair_walk.proofs.frames.advance.Goals as goal

pub returns : goal.returns
returns c = (simp length-set, frames_advanced c.args.agenda.now c.args.h c.requires.0 c.args.i c.args.j)
