-- `Path::open` meets its contract: `open` of its agenda.
use native.Mathlib.Omega.{arith}
use mathlib.Core.Path.{ap, ◌∙◌}
use Rattle.pair_walk.specs.Agenda.{frames, crossed_by}
use Rattle.pair_walk.proofs.FrameWords.{kept_same}
use Rattle.pair_walk.proofs.Paths.{kept_room}
use Rattle.pair_walk.proofs.ByKind.{opened_crossed}
use Rattle.pair_walk.proofs.path.Path.open.Goals as goal

pub open-self-inside-requires : goal.open-self-inside-requires
open-self-inside-requires c =
    let h = rw (← c.self.view_is) at c.requires in
    rw c.bundle.ensures ((kept_room c.self.invariant h.0).1, h.1)

pub invariant_of-self : goal.invariant_of-self
invariant_of-self c =
    let a = c.args in
    let s = c.self.inside in
    let h = rw (← c.self.view_is) at c.requires in
    let e = rw c.bundle.ensures at c.open-self-inside.ensures in
    kept_same s.binders s.agenda.now c.open-self-inside.new.agenda s.most s.height _ s.depth c.self.invariant
    (omega (arith, e.1, (kept_room c.self.invariant h.0).0)) e.0
    (ap crossed_by e.2 ∙ opened_crossed s.binders.sets.bundle a.l a.r (frames s.agenda.now s.height))
