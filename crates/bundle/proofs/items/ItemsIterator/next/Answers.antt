-- The items of a list, one after another: at a link that is 0 the list has ended, and any other gives its item and what is left.
use borrow.Author.Rules.{rules}
use mathlib.Core.Path.{◌≡◌, sym, ap, ◌∙◌}
use Prim.Native.Nat.{ℕ}
use Rattle.bundle.specs.Links.{follows, next_of}
use Rattle.bundle.proofs.Walks.{walk_nil, walk_cons, walk_le, next_is}
use Rattle.bundle.proofs.items.ItemsIterator.next.Given as given
use Rattle.bundle.proofs.items.ItemsIterator.next.Goals as goal

pub returns-then-self-eq0-clause-steps : goal.returns-then-self-eq0-clause-steps
returns-then-self-eq0-clause-steps g c =
    let none = sym c.self.view_is ∙ walk_nil (g.L.Links.bundle c.self.inside.of.now) c.self.inside.link c.if-self-eq0.true in
    (none, none)

-- the link that is next
after : (g : given.Over) (c : goal.After-self-1 g) → c.followed-self-inside.result ≡ next_of (g.L.Links.bundle c.self.inside.of.now).links c.self.inside.link
after g c =
    next_is (g.L.Links.bundle c.self.inside.of.now) c.self.inside.link c.field.ensures
    (c.followed-self-inside.ensures ∙ ap (λ (n : ℕ). follows n c.self.inside.link c.field.result) c.count.ensures)

pub invariant_of-self : goal.invariant_of-self
invariant_of-self g c = walk_le (g.L.Links.bundle c.self.inside.of.now) c.self.inside.link c.followed-self-inside.result (after g c)

pub returns-clause-steps : goal.returns-clause-steps
returns-clause-steps g c =
    let s = c.self.inside in
    sym c.self.view_is
    ∙ walk_cons (g.L.Links.bundle s.of.now) s.link c.field-item.result c.followed-self-inside.result c.if-self-eq0.false c.self.invariant
    c.field-item.ensures (after g c)

pub returns-clause-goes : goal.returns-clause-goes
returns-clause-goes g c = rw (returns-clause-steps g c) (search rules)
