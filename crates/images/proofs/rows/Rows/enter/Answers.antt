-- `enter` meets its contract: what is found in the parent, with what the entry says over it, is what is found in the context.
use native.Mathlib.Omega.{arith}
use mathlib.Core.Path.{◌≡◌, refl, sym, ◌∙◌}
use Prim.Native.Nat.{ℕ, ◌<◌}
use mathlib.Core.Bool.{true, cond}
use lib.Dec.{eqb}
use Rattle.bundle.specs.Links.{items}
use Rattle.bundle.specs.Bundle.{Bundle, context_of}
use Rattle.logic.specs.Contexts.{lookup, or_above, found, as_image, moved_by, context_refers}
use Rattle.logic.proofs.Found.{found_fixes, found_replaces}
use Rattle.images.specs.ContextRows.{fixed_place, as_mention}
use Rattle.logic.proofs.EntryFacts.{lower_parent, fixes_number, replaces_kind, replaces_lists}
use Rattle.images.proofs.ContextRows.{room_on, agrees_copied, rows_on}
use Rattle.images.proofs.rows.Rows.enter.Goals as goal

-- the parent lies below
low_parent : (b : Bundle) {k p : ℕ} → context_refers b k ≡ true → p ≡ (context_of b k).parent → p < k
low_parent b {k} good e = rw e (lower_parent b k good)

-- what an entry says over what is found in the parent
module _ (b : Bundle) (k : ℕ) {p x : ℕ} (good : context_refers b k ≡ true) (parent : p ≡ (context_of b k).parent) (first : x ≡ (context_of b k).a) where
  fixes_own : (context_of b k).kind ≡ 1 → (v : ℕ) → cond (eqb x v) (as_mention fixed_place) (found b p v) ≡ found b k v
  unfolding as_mention
  fixes_own kind v = rw (parent, first) (sym (found_fixes b k kind (lower_parent b k good) v))

  replaces_own : {b' : Bundle} {y : ℕ} → b' ≡ b → (context_of b k).kind ≡ 2 → y ≡ (context_of b k).b → (v : ℕ)
      → or_above (lookup (items b' x) (items b' y) v) (found b p v) ≡ found b k v
  replaces_own same kind second v = rw (same, parent, first, second) (sym (found_replaces b k kind (lower_parent b k good) v))

pub inherit-requires : goal.inherit-requires
inherit-requires c =
    let p = rw (← c.self.view_is) at c.requires in
    rw (← c.self.view_is) (p.2, low_parent _ p.4 c.context_field-parent.ensures)

pub set_image-requires : goal.set_image-requires
unfolding moved_by as_image as_mention
set_image-requires c =
    let k = c.args.k in
    let p = rw (← c.self.view_is) at c.requires in
    let i = rw (← c.self.view_is) at c.inherit.ensures in
    let f = fixes_number _ k p.4 (sym c.context_field-kind.ensures ∙ c.if-kind-number.true ∙ c.number.ensures) in
    let first = c.context_field-first.ensures in
    let low = low_parent _ p.4 c.context_field-parent.ensures in (
      room_on _ c.inherit.new.self k i.0 p.2,
      rw first f.0,
      rw (first, i.0.bundle) f.1,
      rw (i.0.bundle, i.0.n) p.3,
      omega arith,
      omega arith,
      refl,
      agrees_copied _ c.inherit.new.self k _ low p.0 p.1 i.0 i.1 i.2,
    )

pub replace-requires : goal.replace-requires
replace-requires c =
    let k = c.args.k in
    let p = rw (← c.self.view_is) at c.requires in
    let i = rw (← c.self.view_is) at c.inherit.ensures in
    let first = c.context_field-first.ensures in
    let second = c.context_field-second.ensures in
    let kind = replaces_kind _ k p.4 (λ e. c.if-kind-number.false (c.context_field-kind.ensures ∙ e ∙ sym c.number.ensures)) in
    let f = replaces_lists _ k p.4 kind in
    let low = low_parent _ p.4 c.context_field-parent.ensures in (
      room_on _ c.inherit.new.self k i.0 p.2,
      rw (i.0.bundle, i.0.n) p.3,
      rw (first, i.0.bundle) f.0,
      rw (second, i.0.bundle) f.1,
      rw (first, i.0.bundle) f.2,
      agrees_copied _ c.inherit.new.self k _ low p.0 p.1 i.0 i.1 i.2,
    )

pub returns-then-kind-number-clause-entered : goal.returns-then-kind-number-clause-entered
returns-then-kind-number-clause-entered c =
    let k = c.args.k in
    let p = rw (← c.self.view_is) at c.requires in
    let i = rw (← c.self.view_is) at c.inherit.ensures in
    let parent = c.context_field-parent.ensures in
    let kind = sym c.context_field-kind.ensures ∙ c.if-kind-number.true ∙ c.number.ensures in
    let own = fixes_own _ k p.4 parent c.context_field-first.ensures kind in
    let low = low_parent _ p.4 parent in
    rw (← c.self.view_is) (rows_on _ c.inherit.new.self k _ low p.0 p.1 i.0 i.1 c.set_image.new.self p.2 _ c.set_image.ensures own)

pub returns-else-kind-number-clause-entered : goal.returns-else-kind-number-clause-entered
returns-else-kind-number-clause-entered c =
    let k = c.args.k in
    let p = rw (← c.self.view_is) at c.requires in
    let i = rw (← c.self.view_is) at c.inherit.ensures in
    let parent = c.context_field-parent.ensures in
    let kind = replaces_kind _ k p.4 (λ e. c.if-kind-number.false (c.context_field-kind.ensures ∙ e ∙ sym c.number.ensures)) in
    let own = replaces_own _ k p.4 parent c.context_field-first.ensures i.0.bundle kind c.context_field-second.ensures in
    let low = low_parent _ p.4 parent in
    rw (← c.self.view_is) (rows_on _ c.inherit.new.self k _ low p.0 p.1 i.0 i.1 c.replace.new.self p.2 _ c.replace.ensures own)
