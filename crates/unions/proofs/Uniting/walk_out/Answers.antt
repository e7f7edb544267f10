-- `Uniting::walk_out` meets its contract. The invariant: what is known is so.
use native.Mathlib.Omega.{arith}
use mathlib.Core.Path.{◌≡◌, refl, sym, ◌∙◌}
use mathlib.Core.Bool.{false}
use Rattle.bundle.proofs.Walks.{walk_le, walk_length}
use Rattle.unions.specs.Unions.{known}
use Rattle.unions.proofs.Unions.{unknown_some, unions_fewer, fewer_refl, fewer_on, links_seen}
use Rattle.unions.proofs.Uniting.walk_out.Goals as goal

pub loop-self-smaller : goal.loop-self-smaller
loop-self-smaller c =
    let l = c.loop-self in
    let u = l.self-inside in
    let new : known u.marks.now l.i ≡ false = sym (c.is_known.ensures u.marks.now refl) ∙ c.loop-self-test.true in
    omega (
      arith,
      walk_length u.bundle.now l.i c.next_link-i.result (unknown_some u.marks.now l.i new)
          (omega (arith, links_seen l.invariant.same, l.invariant.link)) c.next_link-i.ensures,
    )

pub loop-self-preserved : goal.loop-self-preserved
loop-self-preserved c =
    let l = c.loop-self in
    let u = l.self-inside in
    let new : known u.marks.now l.i ≡ false = sym (c.is_known.ensures u.marks.now refl) ∙ c.loop-self-test.true in
    record {
      last = l.invariant.link;
      link = omega (arith, links_seen l.invariant.same, walk_le u.bundle.now l.i c.next_link-i.result c.next_link-i.ensures);
      same = l.invariant.same;
      unions = unions_fewer u.bundle.now u.n u.t u.lists.now u.marks.now _ l.invariant.unions
          (fewer_on u.marks.now u.marks.now l.i l.last (fewer_refl u.marks.now) (omega (arith, links_seen l.invariant.same, l.invariant.link, l.invariant.unions.marked))
          (unknown_some u.marks.now l.i new)
          (omega (arith, c.links-links.ensures.0, c.links-links.ensures.1, links_seen c.self.view_is, l.invariant.last)));
    }
