-- `Uniting::next` meets its contract: what is known for t is known for t + 1.
use Rattle.unions.proofs.Unions.{unions_later}
use Rattle.unions.proofs.Uniting.next.Goals as goal

pub invariant_of-self : goal.invariant_of-self
invariant_of-self c = let u = c.self.inside in unions_later u.bundle.now u.n u.t u.lists.now u.marks.now c.self.invariant
