-- `Path::pop` meets its contract: the frame of a pair crosses nothing.
use Rattle.pair_walk.proofs.Paths.{rest_is, pending_some, kept_popped}
use Rattle.pair_walk.proofs.path.Path.pop.Goals as goal

pub overflow_sub-self : goal.overflow_sub-self
overflow_sub-self c = pending_some c.self.inside.agenda.now c.self.inside.height (rw (← c.self.view_is) at c.requires)

pub invariant_of-self : goal.invariant_of-self
invariant_of-self c = kept_popped c.self.invariant (rw (← c.self.view_is) at c.requires)

pub returns : goal.returns
returns c = let s = c.self.inside in rw (← c.self.view_is, rest_is s.agenda.now s.height)
