-- `place_bound` meets its contract.
use Rattle.std.proofs.lemmas.Option.{IfSome_then}
use Rattle.pass_terms.proofs.PairsPut.{binder_put}
use Rattle.pass_terms.proofs.ends.place_bound.Goals as goal

pub returns : goal.returns
returns c = IfSome_then c.lay.result c.lay.ensures (λ u l. binder_put c.pop.new.self c.in_ok-pop.field-0 c.in_ok-pop.ensures c.half-body.ensures.0 c.in_ok-term.ensures l)
