-- `place_named` meets its contract.
use Rattle.std.proofs.lemmas.Option.{IfSome_then}
use Rattle.pass_terms.proofs.PairsPut.{let_put}
use Rattle.pass_terms.proofs.ends.place_named.Goals as goal

pub returns : goal.returns
returns c =
    IfSome_then c.lay.result c.lay.ensures (λ u l.
    let_put c.pop.new.self c.in_ok-body.body c.in_ok-close.ensures c.in_ok-body.ensures c.half.ensures.0 c.above.ensures c.in_ok-term.ensures c.cut.ensures c.half-2.ensures.0 l)
