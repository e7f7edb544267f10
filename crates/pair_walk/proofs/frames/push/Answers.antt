-- `frames::push` meets its contract: five words stored.
use lib.ListN.{length-set}
use Rattle.pair_walk.proofs.FrameWords.{frames_pushed}
use Rattle.pair_walk.proofs.frames.push.Goals as goal

pub returns : goal.returns
returns c = (simp length-set, frames_pushed c.args.agenda.now c.args.h c.requires.0 c.args.l c.args.r c.args.i c.args.j c.args.e)
