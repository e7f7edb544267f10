-- `arrays::cross` meets its contract: both variables get the next place, and the right one is bound.
use Prim.Native.Nat.{ℕ, ◌+◌}
use mathlib.Core.Path.{sym, ap, ◌∙◌}
use lib.ListN.{length, length-set}
use Rattle.sets.specs.Sets.{with_bit}
use Rattle.sets.proofs.Members.{changed_length}
use Rattle.crossings.proofs.Places.{left_at, right_at, places_crossed}
use Rattle.crossings.proofs.arrays.cross.Goals as goal

pub returns : goal.returns
returns c =
    let a = c.args in
    let h = c.requires in (
      simp length-set,
      ap length c.insert.ensures ∙ changed_length with_bit a.bound.now 0 a.n a.y,
      λ ps e known. (
        places_crossed a.variables a.n a.places.now a.bound.now a.x (a.depth + 1) a.y (a.depth + 1) h.0 h.2.0 h.2.1 h.3.0 h.3.1 h.1 h.4 ps
            (ap (λ (k : ℕ). k + 1) (sym e)) (ap (λ (k : ℕ). k + 1) (sym e)) c.insert.ensures known,
        left_at a.variables a.n a.places.now a.bound.now ps known a.x h.2.0 h.2.1 c.from-left.ensures,
        right_at a.variables a.n a.places.now a.bound.now ps known a.y h.3.0 h.3.1 c.from-right.ensures,
      ),
    )
