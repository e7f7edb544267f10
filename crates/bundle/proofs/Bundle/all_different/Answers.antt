-- `lists::all_different` meets its contract. The invariant: the list has no item twice where what is left of it has none.
use native.Mathlib.Omega.{arith}
use Prim.Native.Nat.{ℕ}
use mathlib.Core.Path.{◌≡◌, refl}
use mathlib.Core.List.{List, ◌∷◌}
use mathlib.Core.Bool.{not, ◌&&◌}
use Rattle.bundle.specs.Lists.{has, different}
use Rattle.bundle.proofs.Walks.{walk_start, walk_start_le, walk_le, walk_nil, walk_cons, walk_length}
use Rattle.bundle.proofs.Bundle.all_different.Goals as goal

-- one step of the definition, with `has` shut
different_on : (x : ℕ) (xs : List ℕ) → different (x ∷ xs) ≡ (not (has x xs) && different xs)
unfolding different
different_on x xs = refl

pub loop-i-init : goal.loop-i-init
loop-i-init c =
    let a = c.args in
    let r = c.first_link-i in
    (walk_start_le a.self.now a.list r.result r.ensures, rw (walk_start a.self.now a.list r.result r.ensures))

pub returns-then-has_item : goal.returns-then-has_item
returns-then-has_item c =
    let a = c.args in
    let l = c.loop-i in
    let x = c.link_field-x in
    let r = c.next_link-rest in
    rw (
      l.invariant.1,
      walk_cons a.self.now l.i x.result r.result c.loop-i-test.true l.invariant.0 x.ensures
          r.ensures,
      different_on,
      ← c.has_item.ensures,
      c.if-has_item.true,
    )

pub loop-i-smaller : goal.loop-i-smaller
loop-i-smaller c =
    let a = c.args in
    let l = c.loop-i in
    let r = c.next_link-rest in
    omega (arith, walk_length a.self.now l.i r.result c.loop-i-test.true l.invariant.0 r.ensures)

pub loop-i-preserved : goal.loop-i-preserved
loop-i-preserved c =
    let a = c.args in
    let l = c.loop-i in
    let x = c.link_field-x in
    let r = c.next_link-rest in (
      walk_le a.self.now l.i r.result r.ensures,
      rw (
        l.invariant.1,
        walk_cons a.self.now l.i x.result r.result c.loop-i-test.true l.invariant.0
            x.ensures r.ensures,
        different_on,
        ← c.has_item.ensures,
        c.if-has_item.false,
      ),
    )

pub returns : goal.returns
unfolding different
returns c =
    let a = c.args in
    rw (c.loop-i.invariant.1, walk_nil a.self.now c.loop-i.i c.loop-i-test.false)
