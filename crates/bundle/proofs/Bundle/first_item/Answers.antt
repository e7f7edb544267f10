-- `Bundle::first_item` meets its contract.
use mathlib.Core.Path.{◌∙◌}
use Rattle.bundle.proofs.ListPlaces.{first_is}
use Rattle.bundle.proofs.Bundle.first_item.Goals as goal

pub returns : goal.returns
returns c = c.link_field.ensures ∙ first_is c.args.self.now c.args.list
