-- The invariant: the set so far and what is left to add make up the whole.
use Rattle.bundle.specs.Links.{items}
use Rattle.unions.specs.Unions.{Partly}
use Rattle.unions.proofs.Uniting.unite_each.Given as goal

abbrev pub invariant-loop-term : goal.invariant-loop-term
invariant-loop-term l = Partly l.initial.area l.area l.self-inside.n l.self-inside.t l.at (items l.self-inside.bundle.now l.list) l.term-iterator
