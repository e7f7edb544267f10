-- `Path::uncross` meets its contract: the places before are put back.
use Rattle.pair_walk.specs.Agenda.{crossed_by}
use Rattle.pair_walk.proofs.Paths.{rest_is, leave_some, leave_fits, kept_uncrossed}
use Rattle.pair_walk.proofs.path.Path.uncross.Goals as goal

pub uncross-requires : goal.uncross-requires
uncross-requires c =
    let h = rw (← c.self.view_is) at c.requires in
    let fits = leave_fits c.self.invariant h.1 h.2 in
    (h.2.left_known, h.2.right_known, c.self.invariant.bits, fits.0, fits.1)

pub overflow_sub-self : goal.overflow_sub-self
overflow_sub-self c = let h = rw (← c.self.view_is) at c.requires in (leave_some c.self.invariant h.1).0

pub overflow_sub-self-2 : goal.overflow_sub-self-2
overflow_sub-self-2 c = let h = rw (← c.self.view_is) at c.requires in (leave_some c.self.invariant h.1).1

pub invariant_of-self : goal.invariant_of-self
invariant_of-self c =
    let h = rw (← c.self.view_is) at c.requires in
    let was = leave_some c.self.invariant h.1 in
    kept_uncrossed c.self.invariant h.1 c.uncross.new.self c.uncross.ensures.0 (c.uncross.ensures.1 (crossed_by h.0) h.2.left_place h.2.right_place was.2)

pub returns : goal.returns
returns c = let s = c.self.inside in rw (← c.self.view_is, c.uncross.ensures.0, rest_is s.agenda.now s.height)
