-- The walk towards the empty context, with no code in it: the image in a context is what its entry says, else the image in its parent, if that
-- is lower.
--     image_zero                       in the empty context
--     image_fixed, image_replaced      the entry mentions the variable
--     image_on, image_not_lower        it does not: on to the parent; a parent that is not lower ends the walk
use mathlib.Core.Path.{◌≡◌, refl, ap, ◌∙◌}
use Prim.Native.Nat.{ℕ, ◌≤◌, ◌<◌}
use borrow.Author.Tests.{lt-ltb, le-ltb}
use Rattle.bundle.specs.Bundle.{Bundle, no_context, context_of}
use Rattle.logic.specs.declared.Mention.{Mention}
use Rattle.logic.specs.declared.Mention.TheVariants.{Fixed, Replaced, Absent}
use Rattle.logic.specs.declared.Image.{Image}
use Rattle.logic.specs.declared.Image.TheVariants.{Own, Gives}
use Rattle.logic.specs.Table.{table, below}
use Rattle.logic.specs.Contexts.{mention, image_by, own_image, image}
use Rattle.logic.proofs.Tables.{table_below}

image_below : (b : Bundle) (k x : ℕ) → image b k x ≡ image_by b (below own_image k (image b)) (context_of b k) x
unfolding image image_by
image_below b k x = ap (λ (f : ℕ → Image). f x) (table_below (image_by b) own_image no_context (λ f. refl) b.contexts k)

pub image_zero : (b : Bundle) (k x : ℕ) → k ≡ 0 → image b k x ≡ Own
unfolding image table
image_zero b k x e = rw e

-- m is what the entry of context k says of x
module _ (b : Bundle) (k x : ℕ) {m : Mention} (says : m ≡ mention b (context_of b k) x) where
  pub image_fixed : m ≡ Fixed → image b k x ≡ Own
  unfolding image_by
  image_fixed e = image_below b k x ∙ rw (← says, e)

  pub image_replaced : (t : ℕ) → m ≡ Replaced t → image b k x ≡ Gives t
  unfolding image_by
  image_replaced t e = image_below b k x ∙ rw (← says, e)

  -- p is the parent
  module _ (e : m ≡ Absent) {p : ℕ} (parent : p ≡ (context_of b k).parent) where
    pub image_on : p < k → image b k x ≡ image b p x
    unfolding image_by
    image_on low = image_below b k x ∙ rw (← says, e, ← parent, lt-ltb p k low)

    pub image_not_lower : k ≤ p → image b k x ≡ Own
    unfolding image_by
    image_not_lower high = image_below b k x ∙ rw (← says, e, ← parent, le-ltb p k high)
