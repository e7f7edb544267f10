-- Equations of images, from what a context's record says.
--     image_empty, tree_empty            in context 0 every variable is its own image
--     image_fixes, image_replaces        in a context of kind 1 or 2 whose parent is lower: by its entry, and the image in the parent
--     given, tree_fixes, tree_replaces   the same of images as trees
--     formed_context                     in a well-formed bundle a context of a kind other than 0 is well formed,
--     parent_lower, same_sorts           so its parent is lower; its terms have the sorts of its variables
--     fixed_tree, replaced_tree, replaced_sorts     so these equations hold of what the rules' Fixes and Replaces say
--     replaced_settled                   and the terms of what Replaces says are settled in the parent: check 11
use mathlib.Core.Path.{◌≡◌, refl, sym, ap, ap₂, ◌∙◌, subst}
use Prim.Native.Nat.{ℕ, ◌<◌}
use native.Mathlib.Omega.{arith}
use mathlib.Core.Bool.{Bool, true, false, cond}
use mathlib.Core.List.{List, [], ◌∷◌, map}
use lib.ListN.{length}
use lib.Dec.{eqb}
use Rattle.bundle.specs.Bundle.{Bundle, Context, no_context, context_of, sort_of_variable}
use Rattle.bundle.specs.Links.{items}
use Rattle.logic.specs.declared.Mention.TheVariants.{Fixed, Replaced, Absent}
use Rattle.logic.specs.declared.Image.{Image}
use Rattle.logic.specs.declared.Image.TheVariants.{Own}
use Rattle.logic.specs.Lists.{All, Number}
use Rattle.logic.specs.Table.{table}
use Rattle.logic.specs.Terms.{Term, Terms, var, none, more, gather, tree}
use Rattle.logic.specs.Sorts.{sort}
use Rattle.logic.specs.Contexts.{entry_of, lookup, mention_as, mention, first, image_by, own_image, image, tree_of_image, image_tree, Settled}
use Rattle.logic.specs.WellFormed.{sort_of_term, ContextFormed, fixes, replaces, WellFormed}
use Rattle.logic.specs.Instance.{Fixes, Replaces, AllSettled}
use Rattle.logic.proofs.Tables.{table_step, everywhere}

-- The tree that the lists of a replacing context give for x, f x where they do not mention it.
unfoldable pub given : List ℕ → Terms → (ℕ → Term) → ℕ → Term
given [] ts f x = f x
given (v ∷ vs) none f x = f x
given (v ∷ vs) (more t ts) f x = cond (eqb v x) t (given vs ts f x)

-- the sorts of a list of trees
unfoldable pub sorts_of : Bundle → Terms → List ℕ
unfolding sort
sorts_of b none = []
sorts_of b (more t ts) = sort b t ∷ sorts_of b ts

module _ (b : Bundle) where
  -- ---- images

  pub image_empty : (x : ℕ) → image b 0 x ≡ Own
  unfolding image table
  image_empty x = refl

  -- where the parent is lower, the images are what the record makes of those in the parent
  pub image_here : (c : ℕ) → (context_of b c).parent < c → image b c ≡ image_by b (image b) (context_of b c)
  unfolding image image_by mention entry_of mention_as first
  image_here c lower =
      table_step (image_by b) own_image no_context (λ f. refl) b.contexts c
      (λ f g h. ap {B = ℕ → Image} (λ (m : ℕ → Image) (x : ℕ). first (mention b (context_of b c) x) (m x)) (h (context_of b c).parent lower))

  pub image_fixes : (c : ℕ) → (context_of b c).kind ≡ 1 → (context_of b c).parent < c → (x : ℕ)
      → image b c x ≡ cond (eqb (context_of b c).a x) Own (image b (context_of b c).parent x)
  unfolding image_by mention mention_as entry_of first
  image_fixes c k lower x =
      ap (λ (m : ℕ → Image). m x) (image_here c lower)
      ∙ ap (λ (n : ℕ). first (mention_as b (entry_of n) (context_of b c) x) (image b (context_of b c).parent x)) k
      ∙ go (eqb (context_of b c).a x)
    where
      go : (p : Bool) → first (cond p Fixed Absent) (image b (context_of b c).parent x) ≡ cond p Own (image b (context_of b c).parent x)
      go true = refl
      go false = refl

  pub image_replaces : (c : ℕ) → (context_of b c).kind ≡ 2 → (context_of b c).parent < c → (x : ℕ)
      → image b c x ≡ first (lookup (items b (context_of b c).a) (items b (context_of b c).b) x) (image b (context_of b c).parent x)
  unfolding image_by mention mention_as entry_of
  image_replaces c k lower x =
      ap (λ (m : ℕ → Image). m x) (image_here c lower)
      ∙ ap (λ (n : ℕ). first (mention_as b (entry_of n) (context_of b c) x) (image b (context_of b c).parent x)) k

  -- ---- images as trees

  pub tree_empty : (x : ℕ) → image_tree b 0 x ≡ var x
  unfolding image_tree tree_of_image
  tree_empty x = ap (λ (i : Image). tree_of_image b i x) (image_empty x)

  pub tree_fixes : (c : ℕ) → (context_of b c).kind ≡ 1 → (context_of b c).parent < c → (x : ℕ)
      → image_tree b c x ≡ cond (eqb (context_of b c).a x) (var x) (image_tree b (context_of b c).parent x)
  unfolding image_tree tree_of_image
  tree_fixes c k lower x = ap (λ (i : Image). tree_of_image b i x) (image_fixes c k lower x) ∙ go (eqb (context_of b c).a x)
    where
      go : (p : Bool) → tree_of_image b (cond p Own (image b (context_of b c).parent x)) x ≡ cond p (var x) (image_tree b (context_of b c).parent x)
      go true = refl
      go false = refl

  pub lookup_given : (vs ts : List ℕ) (f : ℕ → Image) (x : ℕ)
      → tree_of_image b (first (lookup vs ts x) (f x)) x ≡ given vs (gather (tree b) ts) (λ y. tree_of_image b (f y) y) x
  unfolding lookup first tree_of_image given gather
  lookup_given [] ts f x = refl
  lookup_given (v ∷ vs) [] f x = refl
  lookup_given (v ∷ vs) (t ∷ ts) f x = go (eqb v x) (lookup_given vs ts f x)
    where
      rest : Term
      rest = given vs (gather (tree b) ts) (λ y. tree_of_image b (f y) y) x

      go : (p : Bool) → tree_of_image b (first (lookup vs ts x) (f x)) x ≡ rest
          → tree_of_image b (first (cond p (Replaced t) (lookup vs ts x)) (f x)) x ≡ cond p (tree b t) rest
      go true ih = refl
      go false ih = ih

  pub tree_replaces : (c : ℕ) → (context_of b c).kind ≡ 2 → (context_of b c).parent < c → (x : ℕ)
      → image_tree b c x
      ≡ given (items b (context_of b c).a) (gather (tree b) (items b (context_of b c).b)) (image_tree b (context_of b c).parent) x
  unfolding image_tree
  tree_replaces c k lower x =
      ap (λ (i : Image). tree_of_image b i x) (image_replaces c k lower x)
      ∙ lookup_given (items b (context_of b c).a) (items b (context_of b c).b) (image b (context_of b c).parent) x

  -- ---- what is known of a well-formed context

  pub formed_context : WellFormed b → (c : ℕ) → ((context_of b c).kind ≡ 0 → ⊥) → ContextFormed b c
  formed_context wf c some =
      wf.contexts c
      (everywhere no_context b.contexts (λ r i. (r.kind ≡ 0 → ⊥) → Number (length b.contexts) i)
      (λ i h. absurd (h refl)) (λ i lo hi h. (lo, hi)) c some)

  pub parent_lower : {c : ℕ} → ContextFormed b c → (context_of b c).parent < c
  parent_lower (fixes x p e n l) = rw e l
  parent_lower (replaces vs ts p e i vars j terms ls l s) = rw e l

  pub sorts_gather : (ts : List ℕ) → map (sort_of_term b) ts ≡ sorts_of b (gather (tree b) ts)
  unfolding sorts_of gather
  sorts_gather [] = refl
  sorts_gather (t ∷ ts) = ap (λ (ss : List ℕ). sort_of_term b t ∷ ss) (sorts_gather ts)

  -- the terms of a replacing context have the sorts of its variables
  pub same_sorts : {c : ℕ} → ContextFormed b c → (context_of b c).kind ≡ 2
      → map (sort_of_variable b) (items b (context_of b c).a) ≡ sorts_of b (gather (tree b) (items b (context_of b c).b))
  same_sorts (fixes x p e n l) k = absurd (let one : 1 ≡ 2 = ap (λ (r : Context). r.kind) (sym e) ∙ k in omega arith)
  same_sorts (replaces vs ts p e i vars j terms ls l s) k = rw e (ls.sorts ∙ sorts_gather (items b ts))

  -- and are settled in its parent: check 11
  settled_terms : {c : ℕ} → ContextFormed b c → (context_of b c).kind ≡ 2
      → AllSettled b (context_of b c).parent (gather (tree b) (items b (context_of b c).b))
  unfolding gather
  settled_terms (fixes x p e n l) k = absurd (let one : 1 ≡ 2 = ap (λ (r : Context). r.kind) (sym e) ∙ k in omega arith)
  settled_terms (replaces vs ts p e i vars j terms ls l s) k = rw e (gathered (items b ts) s)
    where
      gathered : (ts : List ℕ) → All (λ t. Settled b p (tree b t)) ts → AllSettled b p (gather (tree b) ts)
      gathered [] h = tt
      gathered (t ∷ ts) h = (h.0, gathered ts h.1)

  -- ---- the same, of what the rules say of a context

  module _ (wf : WellFormed b) where
    pub fixed_tree : {Δ y Γ : ℕ} → Fixes b Δ y Γ → (x : ℕ) → image_tree b Δ x ≡ cond (eqb y x) (var x) (image_tree b Γ x)
    fixed_tree {Δ} f x =
        tree_fixes Δ f.kind (parent_lower (formed_context wf Δ (λ e. omega (arith, f.kind)))) x
        ∙ ap₂ (λ (y Γ : ℕ). cond (eqb y x) (var x) (image_tree b Γ x)) f.variable f.parent

    pub replaced_tree : {Δ Γ : ℕ} {xs : List ℕ} {ts : Terms} → Replaces b Δ xs ts Γ → (x : ℕ) → image_tree b Δ x ≡ given xs ts (image_tree b Γ) x
    replaced_tree {Δ} {Γ} r x =
        tree_replaces Δ r.kind (parent_lower (formed_context wf Δ (λ e. omega (arith, r.kind)))) x
        ∙ ap (λ (p : ℕ). given (items b (context_of b Δ).a) (gather (tree b) (items b (context_of b Δ).b)) (image_tree b p) x) r.parent
        ∙ ap₂ (λ (xs : List ℕ) (ts : Terms). given xs ts (image_tree b Γ) x) r.variables r.terms

    pub replaced_sorts : {Δ Γ : ℕ} {xs : List ℕ} {ts : Terms} → Replaces b Δ xs ts Γ → map (sort_of_variable b) xs ≡ sorts_of b ts
    replaced_sorts {Δ} r =
        sym (ap (map (sort_of_variable b)) r.variables)
        ∙ same_sorts (formed_context wf Δ (λ e. omega (arith, r.kind))) r.kind
        ∙ ap (sorts_of b) r.terms

    pub replaced_settled : {Δ Γ : ℕ} {xs : List ℕ} {ts : Terms} → Replaces b Δ xs ts Γ → AllSettled b Γ ts
    replaced_settled {Δ} {Γ} r =
        subst (AllSettled b Γ) r.terms (rw r.parent at (settled_terms (formed_context wf Δ (λ e. omega (arith, r.kind))) r.kind))
