-- `lists::is_pair` meets its contract.
use Rattle.bundle.proofs.Walks.{walk_start, walk_start_le}
use Rattle.bundle.proofs.ListPlaces.{pair_is}
use Rattle.bundle.proofs.Bundle.is_pair.Goals as goal

pub returns : goal.returns
returns c =
    let a = c.args in
    let r = c.first_link-first in
    rw (walk_start a.self.now a.list r.result r.ensures, c.next_link-third.ensures, c.next_link-second.ensures)
    (pair_is a.self.now r.result (walk_start_le a.self.now a.list r.result r.ensures))
