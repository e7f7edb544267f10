-- `Path::top` meets its contract: the words of the frame on top.
use mathlib.Core.Path.{refl}
use Rattle.pair_walk.specs.Agenda.{frames}
use Rattle.pair_walk.proofs.Paths.{top_is, rest_is}
use Rattle.pair_walk.proofs.path.Path.top.Goals as goal

pub returns-then-self-eq0 : goal.returns-then-self-eq0
unfolding frames
returns-then-self-eq0 c = rw (← c.self.view_is, c.if-self-eq0.true) refl

pub returns : goal.returns
returns c =
    let s = c.self.inside in
    rw (← c.self.view_is, c.from.ensures, c.from-2.ensures, c.from-3.ensures, c.from-4.ensures, c.from-5.ensures, ← rest_is)
    (top_is s.agenda.now s.height c.if-self-eq0.false)
