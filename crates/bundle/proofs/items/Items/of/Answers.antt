-- `Items::of` meets its contract: a walk starts at the list's first link.
use mathlib.Core.Path.{sym, ap, ◌∙◌}
use Prim.Native.Nat.{ℕ}
use Rattle.bundle.specs.Links.{starts_at}
use Rattle.bundle.proofs.Walks.{walk_start, walk_start_le}
use Rattle.bundle.proofs.items.Items.of.Goals as goal

pub invariant_of-result : goal.invariant_of-result
invariant_of-result g c =
    walk_start_le (g.L.Links.bundle c.args.of.now) c.args.start c.starting.result
    (c.starting.ensures ∙ ap (λ (n : ℕ). starts_at n c.args.start) c.count.ensures)

pub returns : goal.returns
returns g c =
    sym
    (walk_start (g.L.Links.bundle c.args.of.now) c.args.start c.starting.result
    (c.starting.ensures ∙ ap (λ (n : ℕ). starts_at n c.args.start) c.count.ensures))
