-- Images keep sorts: the values that variables take through a context of a well-formed bundle are of their sorts.
--     given_value        what a replacing context gives has the values that a let assigns, where there are as many terms as variables
--     seen_valuation     THE THEOREM: what a valuation gives, seen through a context, is a valuation
use mathlib.Core.Path.{◌≡◌, refl, sym, ap, ◌∙◌, subst}
use Prim.Native.Nat.{ℕ}
use mathlib.Core.Bool.{Bool, true, false, cond}
use mathlib.Core.List.{List, [], ◌∷◌, map}
use lib.ListN.{length}
use lib.Dec.{eqb}
use Rattle.bundle.specs.Bundle.{Bundle, Context, no_context, context_of, sort_of_variable}
use Rattle.bundle.specs.Links.{items}
use Rattle.logic.specs.Lists.{Number}
use Rattle.logic.specs.declared.Mention.TheVariants.{Fixed, Absent}
use Rattle.logic.specs.declared.Image.{Image}
use Rattle.logic.specs.Terms.{Term, Terms, none, more, gather, tree}
use Rattle.logic.specs.Contexts.{first, image_by, own_image, image, tree_of_image, image_tree}
use Rattle.logic.specs.WellFormed.{ContextFormed, fixes, replaces, WellFormed}
use Rattle.logic.specs.Values.{Value, World, Has, OfSorts, Valuation, assign, value, values, seen}
use Rattle.logic.proofs.Tables.{Keeps, table_all, everywhere}
use Rattle.logic.proofs.Images.{given, sorts_of, lookup_given, sorts_gather}
use Rattle.logic.proofs.ValueSorts.{assign_valuation, list_keeps, values_keep_sorts}

module _ (b : Bundle) (w : World b) (ρ : ℕ → Value) where
  pub given_value : (xs : List ℕ) (ts : Terms) → map (sort_of_variable b) xs ≡ sorts_of b ts → (f : ℕ → Term) (z : ℕ)
      → assign xs (values w ρ ts) (λ y. value w ρ (f y)) z ≡ value w ρ (given xs ts f z)
  unfolding assign given value sorts_of
  given_value [] ts e f z = refl
  given_value (x ∷ xs) none e f z = cc
  given_value (x ∷ xs) (more t ts) e f z = go (eqb x z) (given_value xs ts (cc) f z)
    where
      go : (p : Bool) → assign xs (values w ρ ts) (λ y. value w ρ (f y)) z ≡ value w ρ (given xs ts f z)
          → cond p (value w ρ t) (assign xs (values w ρ ts) (λ y. value w ρ (f y)) z) ≡ value w ρ (cond p t (given xs ts f z))
      go true ih = refl
      go false ih = ih

module _ {b : Bundle} (well : WellFormed b) (w : World b) (ρ : ℕ → Value) (val : Valuation b w ρ) where
  -- what is seen through images is a valuation
  abbrev Through : (ℕ → Image) → Type 0
  Through g = Valuation b w (λ x. value w ρ (tree_of_image b (g x) x))

  own : Through own_image
  unfolding value tree_of_image
  own = val

  -- an entry keeps that
  abbrev KeepsThrough : Context → Type 0
  KeepsThrough = Keeps (image_by b) own_image Through own

  formed_keeps : (c : ℕ) → ContextFormed b c → KeepsThrough (context_of b c)
  unfolding image_by first value tree_of_image
  formed_keeps c (fixes y p e n low) = subst KeepsThrough (sym e) (λ f h x m. go f x (eqb y x) (val x m) (h p x m))
    where
      go : (f : ℕ → ℕ → Image) (x : ℕ) (q : Bool) → Has w (sort_of_variable b x) (ρ x)
          → Has w (sort_of_variable b x) (value w ρ (tree_of_image b (f p x) x))
          → Has w (sort_of_variable b x) (value w ρ (tree_of_image b (first (cond q Fixed Absent) (f p x)) x))
      go f x true here above = here
      go f x false here above = above
  formed_keeps c (replaces vs ts p e sv nv st nt lists low settled) =
      subst KeepsThrough (sym e) (λ f h x m.
      subst (Has w (sort_of_variable b x))
      (given_value b w ρ (items b vs) (gather (tree b) (items b ts)) (lists.sorts ∙ sorts_gather b (items b ts)) (λ y. tree_of_image b (f p y) y) x
      ∙ ap (value w ρ) (sym (lookup_given b (items b vs) (items b ts) (f p) x)))
      (assign_valuation w (items b vs) (values w ρ (gather (tree b) (items b ts))) of_sorts (λ y. value w ρ (tree_of_image b (f p y) y)) (h p) x m))
    where
      of_sorts : OfSorts w (values w ρ (gather (tree b) (items b ts))) (map (sort_of_variable b) (items b vs))
      of_sorts =
          subst (OfSorts w (values w ρ (gather (tree b) (items b ts)))) (sym lists.sorts)
          (list_keeps w well.tables (Number (length b.terms)) (λ t n σ v. values_keep_sorts b well.tables w σ v t n) (items b ts) nt ρ val)

  pub seen_valuation : (c : ℕ) → Valuation b w (seen b w c ρ)
  unfolding seen image_tree image
  seen_valuation =
      table_all (image_by b) own_image Through own no_context b.contexts
      (everywhere no_context b.contexts (λ r c. KeepsThrough r) (λ c f h. own) (λ c lo hi. formed_keeps c (well.contexts c (lo, hi))))
