-- `Bundle::second_item` meets its contract.
use mathlib.Core.Path.{◌∙◌}
use Rattle.bundle.proofs.Walks.{walk_start, walk_start_le}
use Rattle.bundle.proofs.ListPlaces.{second_is}
use Rattle.bundle.proofs.Bundle.second_item.Goals as goal

pub returns : goal.returns
returns c =
    let b = c.args.self.now in
    let r = c.first_link in
    rw (walk_start b c.args.list r.result r.ensures)
    (c.link_field.ensures ∙ rw c.next_link-second.ensures
    (second_is b r.result (walk_start_le b c.args.list r.result r.ensures)))
