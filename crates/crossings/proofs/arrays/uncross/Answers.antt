-- `arrays::uncross` meets its contract: the places of both variables are put back, and the right one is taken out where it has none.
use mathlib.Core.Path.{refl, ap, ◌∙◌}
use lib.ListN.{length, length-set}
use borrow.Author.Tests.{eq-eqb, ne_eqb}
use Rattle.sets.specs.Sets.{without_bit}
use Rattle.sets.proofs.Members.{changed_length}
use Rattle.crossings.proofs.Places.{places_uncrossed}
use Rattle.crossings.proofs.arrays.uncross.Goals as goal

pub returns-then-right-eq0 : goal.returns-then-right-eq0
returns-then-right-eq0 c =
    let a = c.args in
    let h = c.requires in (
      simp length-set,
      ap length c.remove.ensures ∙ changed_length without_bit a.bound.now 0 a.n a.y,
      λ ps dl dr known. places_uncrossed a.variables a.n a.places.now a.bound.now a.x a.left a.y a.right h.0 h.2.0 h.2.1 h.3.0 h.3.1 h.1 h.4 ps dl dr
          (rw (eq-eqb a.right 0 c.if-right-eq0.true) c.remove.ensures) known,
    )

pub returns-else-right-eq0 : goal.returns-else-right-eq0
returns-else-right-eq0 c =
    let a = c.args in
    let h = c.requires in (
      simp length-set,
      refl,
      λ ps dl dr known. places_uncrossed a.variables a.n a.places.now a.bound.now a.x a.left a.y a.right h.0 h.2.0 h.2.1 h.3.0 h.3.1 h.1 h.4 ps dl dr
          (rw (ne_eqb a.right 0 c.if-right-eq0.false) refl) known,
    )
