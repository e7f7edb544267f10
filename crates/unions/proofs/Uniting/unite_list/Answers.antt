-- `Uniting::unite_list` meets its contract: the first terms, then the rest.
use Rattle.bundle.proofs.Walks.{walk_nil}
use Rattle.unions.proofs.Puts.{room_kept, partly_end}
use Rattle.unions.proofs.Unions.{below_same, partly_put}
use Rattle.unions.proofs.Uniting.unite_list.Goals as goal

pub unite_rest-requires : goal.unite_rest-requires
unite_rest-requires c =
    let a = c.args in
    let u = a.self.now in
    let part = c.unite_first-rest.ensures.1 in (
      room_kept a.area.now c.unite_first-rest.new.area u.n u.t a.at c.requires.0 part.kept,
      below_same a.area.now c.unite_first-rest.new.area u.n u.t a.at u.bundle c.requires.0 part.kept c.requires.1,
      c.unite_first-rest.ensures.0,
    )

pub returns-then-rest-ne0-clause-put : goal.returns-then-rest-ne0-clause-put
returns-then-rest-ne0-clause-put c = partly_put c.requires.0 c.unite_first-rest.ensures.1 c.unite_rest.ensures.put

pub returns-else-rest-ne0-clause-put : goal.returns-else-rest-ne0-clause-put
returns-else-rest-ne0-clause-put c =
    partly_end c.unite_first-rest.ensures.1 (walk_nil c.args.self.now.bundle c.unite_first-rest.result c.if-rest-ne0.false)
