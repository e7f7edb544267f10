-- `Uniting::unite_new` meets its contract. The invariant: the set so far and what is left to add make up the whole; what is known is so.
use native.Mathlib.Omega.{arith}
use mathlib.Core.Path.{◌≡◌, refl, sym, ◌∙◌}
use Rattle.bundle.proofs.Walks.{walk_le, walk_cons, walk_length}
use Rattle.unions.proofs.Puts.{partly_on}
use Rattle.unions.proofs.Unions.{unmet_some, unions_fewer, fewer_refl, fewer_on, links_seen}
use Rattle.unions.proofs.Uniting.unite_new.Goals as goal

pub loop-self-smaller : goal.loop-self-smaller
loop-self-smaller c =
    let l = c.loop-self in
    let u = l.self-inside in
    let some : l.i ≡ 0 → ⊥ = unmet_some u.marks.now l.i (sym (c.is_new.ensures u.marks.now refl) ∙ c.loop-self-test.true) in
    omega (
      arith,
      walk_length u.bundle.now l.i c.next_link-i.result some (omega (arith, links_seen l.invariant.same, l.invariant.link)) c.next_link-i.ensures,
    )

pub loop-self-preserved : goal.loop-self-preserved
loop-self-preserved c =
    let l = c.loop-self in
    let u = l.self-inside in
    let some : l.i ≡ 0 → ⊥ = unmet_some u.marks.now l.i (sym (c.is_new.ensures u.marks.now refl) ∙ c.loop-self-test.true) in
    let link = rw (← l.invariant.same) at l.invariant.link in
    rw (← l.invariant.same) (record {
      link = walk_le u.bundle.now l.i c.next_link-i.result c.next_link-i.ensures;
      part = partly_on (rw (← l.invariant.same) at c.requires.0) (rw (← l.invariant.same) at l.invariant.part)
          (walk_cons u.bundle.now l.i c.link_field-term.result c.next_link-i.result some link c.link_field-term.ensures c.next_link-i.ensures)
          c.unite_far.ensures;
      same = refl;
      unions = unions_fewer u.bundle.now u.n u.t u.lists.now u.marks.now _ l.invariant.unions
          (fewer_on u.marks.now u.marks.now l.i 1 (fewer_refl u.marks.now) (omega (arith, link, l.invariant.unions.marked)) some (omega arith));
    })
