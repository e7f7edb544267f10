-- Variables that an entry of a context mentions, and their images.
--     mentioned_above, mentioned_kept     what a parent's entries mention; what is mentioned in a longer bundle
--     scope_kept                          a term is in scope in a longer bundle too
--     FixedIn, fixed_kept                 a variable that is mentioned, and its own image
use mathlib.Core.Path.{◌≡◌, refl, sym, ap, ◌∙◌, subst}
use Prim.Native.Nat.{ℕ, ◌≤◌}
use lib.ListN.{length}
use Rattle.bundle.specs.Bundle.{Bundle, Context, context_of}
use Rattle.bundle.specs.Links.{items}
use Rattle.logic.specs.Lists.{Among}
use Rattle.logic.specs.Terms.{var, tree}
use Rattle.logic.specs.Contexts.{Mentioned, by_fixing, by_replacing, by_parent, image_tree, InScope}
use Rattle.logic.specs.WellFormed.{WellFormed}
use Rattle.logic.specs.Longer.{Longer}
use Rattle.logic.proofs.Kept.{context_kept, parent_le, entry_kept, tree_kept}
use Rattle.logic.proofs.FormedKept.{image_tree_kept}

pub mentioned_above : {b : Bundle} {c d x : ℕ} {r : Context} → context_of b d ≡ r → r.parent ≡ c → Mentioned b c x → Mentioned b d x
mentioned_above {b} {x = x} is e m = by_parent (subst (λ (p : ℕ). Mentioned b p x) (sym (ap (λ (k : Context). k.parent) is ∙ e)) m)

-- The image as a tree: a variable that is fixed is its own image, and so is one that is replaced by its own term.
pub record FixedIn (b : Bundle) (c x : ℕ) : Type 0 where
  pub mentioned : Mentioned b c x
  pub image : image_tree b c x ≡ var x

module _ {b b' : Bundle} (longer : Longer b b') (well : WellFormed b) where
  pub mentioned_kept : {c x : ℕ} → c ≤ length b.contexts → Mentioned b c x → Mentioned b' c x
  mentioned_kept h (by_fixing {c = c} {x = x} k a) = by_fixing {c = c} {x = x} (rw (context_kept longer c h) k) (rw (context_kept longer c h) a)
  mentioned_kept h (by_replacing {c = c} {x = x} k m) =
      let list : items b' (context_of b' c).a ≡ items b (context_of b c).a =
      ap (λ (r : Context). items b' r.a) (context_kept longer c h) ∙ (entry_kept longer well c k).0 in
      by_replacing {c = c} {x = x} (rw (context_kept longer c h) k) (subst (Among x) (sym list) m)
  mentioned_kept h (by_parent {c = c} m) = mentioned_above (context_kept longer c h) refl (mentioned_kept (parent_le well c h) m)

  pub scope_kept : (c t : ℕ) → c ≤ length b.contexts → t ≤ length b.terms → InScope b c (tree b t) → InScope b' c (tree b' t)
  scope_kept c t hc ht scope x f = mentioned_kept hc (scope x (rw (tree_kept longer well.tables t ht) at f))

  pub fixed_kept : (c x : ℕ) → c ≤ length b.contexts → FixedIn b c x → FixedIn b' c x
  fixed_kept c x h f = record { mentioned = mentioned_kept h f.mentioned; image = image_tree_kept longer well c x h ∙ f.image }
