-- `Uniting::unite_rest` meets its contract: the terms up to a link that was met, then those from there on.
use Rattle.bundle.proofs.Walks.{walk_nil}
use Rattle.unions.proofs.Puts.{room_kept, partly_end}
use Rattle.unions.proofs.Unions.{below_same, partly_put}
use Rattle.unions.proofs.Uniting.unite_rest.Goals as goal

pub unite_met-requires : goal.unite_met-requires
unite_met-requires c =
    let a = c.args in
    let u = a.self.now in
    let met = c.unite_new-met in
    let kept = met.ensures.fact.1.kept in
    rw met.ensures.same (
      room_kept a.area.now met.new.area u.n u.t a.at c.requires.0 kept,
      below_same a.area.now met.new.area u.n u.t a.at u.bundle c.requires.0 kept c.requires.1,
      met.ensures.fact.0,
    )

pub returns-then-met-ne0-clause-put : goal.returns-then-met-ne0-clause-put
returns-then-met-ne0-clause-put c =
    let met = c.unite_new-met in
    partly_put c.requires.0 met.ensures.fact.1 (rw met.ensures.same at c.unite_met.ensures.put)

pub returns-else-met-ne0-clause-put : goal.returns-else-met-ne0-clause-put
returns-else-met-ne0-clause-put c =
    partly_end c.unite_new-met.ensures.fact.1 (walk_nil c.args.self.now.bundle c.unite_new-met.result c.if-met-ne0.false)
