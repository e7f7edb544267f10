-- `add_value` meets its contract: None where there is no room for a link, else the list of one.
use native.Mathlib.Omega.{arith}
use Rattle.logic.proofs.Longer.{list_length}
use Rattle.placing.proofs.add_value.Goals as goal

pub returns-then-counts-ge-LINKS : goal.returns-then-counts-ge-LINKS
returns-then-counts-ge-LINKS g c = Prim.grind (arith, list_length)

pub returns : goal.returns
returns g c = Prim.grind (arith, list_length)
