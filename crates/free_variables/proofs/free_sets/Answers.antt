-- `free_sets` meets its contract: all sets, and zeros after them.
use native.Mathlib.Omega.{arith}
use mathlib.Core.Path.{refl}
use lib.ListN.{length}
use Rattle.free_variables.proofs.SetWords.{area_is}
use Rattle.free_variables.proofs.free_sets.Goals as goal

pub returns : goal.returns
returns c =
    let a = c.args in
    let f = c.fitting in
    area_is a.bundle.now a.n (length a.area.now)
    c.requires.0 f.new.area
    c.clear.new.area (length a.bundle.now.terms) refl f.ensures.0
    (omega (arith, c.requires.2, f.ensures.0)) f.ensures.1.sets
    (rw c.terms.ensures.0 at c.clear.ensures) (λ j. omega (arith, c.type_inv.area j))
