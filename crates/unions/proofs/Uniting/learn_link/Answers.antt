-- `Uniting::learn_link` meets its contract: the union of a list is that of its first term's set and of the rest, if they are known.
use native.Mathlib.Omega.{arith}
use Prim.Native.Nat.{◌+◌, ◌*◌, ◌-◌, ◌≤◌}
use mathlib.Core.Path.{◌≡◌, refl, sym, ◌∙◌}
use mathlib.Core.Bool.{true}
use lib.ListN.{length}
use Rattle.bundle.specs.Lists.{numbers}
use Rattle.bundle.proofs.Fields.{record_within}
use Rattle.bundle.proofs.Walks.{walk_le, walk_up, walk_cons}
use Rattle.logic.proofs.Tests.{numbers_of_lem}
use Rattle.unions.specs.Unions.{known}
use Rattle.unions.proofs.Unions.{apart, next_side, link_fits, unions_learnt}
use Rattle.unions.proofs.Uniting.learn_link.Goals as goal

pub offset_bounds-self-inside-next : goal.offset_bounds-self-inside-next
offset_bounds-self-inside-next c =
    omega (arith, c.self.invariant.marked, walk_le c.self.inside.bundle.now c.args.k c.next_link-next.result c.next_link-next.ensures)

pub bounds-self-inside-next : goal.bounds-self-inside-next
bounds-self-inside-next c =
    omega (arith, c.self.invariant.marked, walk_le c.self.inside.bundle.now c.args.k c.next_link-next.result c.next_link-next.ensures)

pub overflow_mul-n-3 : goal.overflow_mul-n-3
overflow_mul-n-3 c =
    let u = c.self.inside in
    let next = c.next_link-next in
    omega (
      arith,
      link_fits u.n next.result (length u.bundle.now.links) (length u.lists.now)
          (walk_le u.bundle.now c.args.k next.result next.ensures) c.self.invariant.room,
    )

pub join-requires : goal.join-requires
join-requires c =
    let a = c.args in
    let u = c.self.inside in
    let asked = rw (← c.self.view_is) at c.requires in
    let term = c.link_field-term.result in
    let next = c.next_link-next in
    let low : numbers (u.t - 1) term ≡ true = sym c.is_lower.ensures ∙ c.if-not-is_lower.false in
    let within : u.n * (term - 1) + u.n ≤ u.n * (u.t - 1) = record_within u.n (u.t - 1) term
    (λ z. omega (arith, (numbers_of_lem (u.t - 1) term low).0)) (numbers_of_lem (u.t - 1) term low).1 in (
      apart u.n next.result a.k (next_side a.k next.result asked.1 (walk_up u.bundle.now a.k next.result next.ensures)),
      omega (arith, asked.0.fits),
      link_fits u.n next.result (length u.bundle.now.links) (length u.lists.now) (walk_le u.bundle.now a.k next.result next.ensures) c.self.invariant.room,
      link_fits u.n a.k (length u.bundle.now.links) (length u.lists.now) asked.2 c.self.invariant.room,
    )

pub invariant_of-self : goal.invariant_of-self
invariant_of-self c =
    let a = c.args in
    let u = c.self.inside in
    let b = u.bundle.now in
    let asked = rw (← c.self.view_is) at c.requires in
    let term = c.link_field-term in
    let next = c.next_link-next in
    let low : numbers (u.t - 1) term.result ≡ true = sym c.is_lower.ensures ∙ c.if-not-is_lower.false in
    let then : known u.marks.now next.result ≡ true = sym (c.is_known.ensures u.marks.now refl) ∙ c.if-not-is_known.false in
    unions_learnt a.area.now u.lists.now u.marks.now u.n u.t a.k term.result next.result b asked.0 c.self.invariant asked.1 asked.2
    (walk_cons b a.k term.result next.result (λ z. omega (arith, asked.1)) asked.2 term.ensures next.ensures) low then c.join.new.lists _ c.join.ensures refl
