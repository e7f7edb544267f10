-- `Path::advance` meets its contract: two words of the frame on top.
use native.Mathlib.Omega.{arith}
use Rattle.pair_walk.proofs.Paths.{pending_some, advanced_is, kept_advanced}
use Rattle.pair_walk.proofs.path.Path.advance.Goals as goal

pub overflow_sub-self-inside : goal.overflow_sub-self-inside
overflow_sub-self-inside c = pending_some c.self.inside.agenda.now c.self.inside.height (rw (← c.self.view_is) at c.requires.0)

pub advance-requires : goal.advance-requires
advance-requires c =
    let s = c.self.inside in
    let k = c.self.invariant in
    let some = pending_some s.agenda.now s.height (rw (← c.self.view_is) at c.requires.0) in
    (omega (arith, k.long, k.high, some), c.requires.1, c.requires.2)

pub invariant_of-self : goal.invariant_of-self
invariant_of-self c =
    kept_advanced c.self.invariant (rw (← c.self.view_is) at c.requires.0) c.advance.new.agenda c.args.i c.args.j c.advance.ensures.0 c.advance.ensures.1

pub returns : goal.returns
returns c =
    rw (
      ← c.self.view_is,
      advanced_is c.self.invariant (rw (← c.self.view_is) at c.requires.0) c.advance.new.agenda c.args.i c.args.j c.advance.ensures.0
          c.advance.ensures.1,
    )
