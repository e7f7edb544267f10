-- `add_halves` meets its contract: None where the links would pass their limit, else the list.
use native.Mathlib.Omega.{arith}
use lib.ListN.{length-map}
use Rattle.logic.proofs.Longer.{list_length}
use Rattle.placing.proofs.add_halves.Goals as goal

pub returns-then-pairs-counts : goal.returns-then-pairs-counts
returns-then-pairs-counts g c = Prim.grind (arith, list_length, length-map)

pub returns : goal.returns
returns g c = Prim.grind (arith, list_length, length-map)
