-- What the entries of a context say of a variable.
--     image_found                        THE LAW: a replaced variable has its term for image; a fixed one, and one that is not mentioned, are their own
--     found_empty, found_none            context 0, and a number that is no context's, have no entries
--     found_fixes, found_replaces        in a context of kind 1 or 2 whose parent is lower: by its entry, and what is found in the parent
--     mentioned_found, found_mentioned   in a well-formed bundle something is found of the variables that an entry mentions, and of no others
--     absent_exactly                     THE LAW: none mentions a variable exactly where it is found absent
--     mentioned_exactly                  so the test says what the proposition says
--     given_mentioned                    a variable that has a term for image is mentioned
use mathlib.Core.Path.{◌≡◌, refl, sym, ap, ◌∙◌, fun_ext}
use Prim.Native.Nat.{ℕ, zero, suc, ◌<◌}
use native.Mathlib.Omega.{arith}
use mathlib.Core.Bool.{Bool, true, false, cond, false≢true}
use mathlib.Core.Logic.{◌⊎◌, inl, inr, ◌↔◌}
use mathlib.Core.List.{List, [], ◌∷◌, map}
use lib.Dec.{eqb}
use borrow.Author.Tests.{eqb-true, eq-eqb}
use Rattle.bundle.specs.Bundle.{Bundle, Context, no_context, context_of, sort_of_variable}
use Rattle.bundle.specs.Links.{items}
use Rattle.logic.specs.declared.Mention.{Mention}
use Rattle.logic.specs.declared.Mention.TheVariants.{Fixed, Replaced, Absent}
use Rattle.logic.specs.declared.Image.{Image}
use Rattle.logic.specs.declared.Image.TheVariants.{Gives}
use Rattle.logic.specs.Lists.{Among}
use Rattle.logic.specs.Table.{table, below}
use Rattle.logic.specs.Contexts.{Entry, fixing, replacing, noEntry, entry_of, lookup, mention_as, mention, first, image_by, own_image, image, or_above}
use Rattle.logic.specs.Contexts.{found_as, found_by, not_found, found, as_image, Mentioned, by_fixing, by_replacing, by_parent, mentioned_by, mentioned}
use Rattle.logic.specs.WellFormed.{sort_of_term, ContextFormed, fixes, replaces, WellFormed}
use Rattle.logic.proofs.Tables.{table_below, table_step, table_map, everywhere}
use Rattle.logic.proofs.Images.{formed_context, parent_lower}

-- ---- images

above_image : (m n : Mention) → as_image (or_above m n) ≡ first m (as_image n)
unfolding as_image or_above first
above_image Fixed n = refl
above_image (Replaced t) n = refl
above_image Absent n = refl

module _ (b : Bundle) where
  pub image_found : (c x : ℕ) → image b c x ≡ as_image (found b c x)
  unfolding image found image_by found_by mention as_image
  image_found c x =
      ap (λ (f : ℕ → Image). f x)
      (sym (table_map (found_by b) not_found (image_by b) own_image (λ f y. as_image (f y)) refl
      (λ f r. fun_ext (λ y. go r y (f r.parent y) (entry_of r.kind))) b.contexts c))
    where
      go : (r : Context) (y : ℕ) (m : Mention) (e : Entry) → as_image (found_as b e r y m) ≡ first (mention_as b e r y) (as_image m)
      go r y m fixing = above_image (mention_as b fixing r y) m
      go r y m replacing = above_image (mention_as b replacing r y) m
      go r y m noEntry = refl

  -- ---- one entry

  pub found_empty : (x : ℕ) → found b 0 x ≡ Absent
  unfolding found table
  found_empty x = refl

  -- a number that is no context's
  pub found_none : (c : ℕ) → context_of b c ≡ no_context → found b c ≡ not_found
  unfolding found found_by found_as entry_of
  found_none c e =
      table_below (found_by b) not_found no_context (λ f. refl) b.contexts c
      ∙ ap (found_by b (below not_found c (table (found_by b) not_found b.contexts))) e

  found_here : (c k x : ℕ) → (context_of b c).kind ≡ k → (context_of b c).parent < c
      → found b c x ≡ found_as b (entry_of k) (context_of b c) x (found b (context_of b c).parent x)
  unfolding found found_by found_as entry_of
  found_here c k x e lower =
      ap (λ (f : ℕ → Mention). f x)
      (table_step (found_by b) not_found no_context (λ f. refl) b.contexts c
      (λ f g h. ap {B = ℕ → Mention} (λ (m : ℕ → Mention) (y : ℕ). found_as b (entry_of (context_of b c).kind) (context_of b c) y (m y))
      (h (context_of b c).parent lower)))
      ∙ ap (λ (n : ℕ). found_as b (entry_of n) (context_of b c) x (found b (context_of b c).parent x)) e

  pub found_fixes : (c : ℕ) → (context_of b c).kind ≡ 1 → (context_of b c).parent < c → (x : ℕ)
      → found b c x ≡ cond (eqb (context_of b c).a x) Fixed (found b (context_of b c).parent x)
  unfolding found_as entry_of mention_as or_above
  found_fixes c k lower x = found_here c 1 x k lower ∙ go (eqb (context_of b c).a x)
    where
      go : (p : Bool) → or_above (cond p Fixed Absent) (found b (context_of b c).parent x) ≡ cond p Fixed (found b (context_of b c).parent x)
      go true = refl
      go false = refl

  pub found_replaces : (c : ℕ) → (context_of b c).kind ≡ 2 → (context_of b c).parent < c → (x : ℕ)
      → found b c x ≡ or_above (lookup (items b (context_of b c).a) (items b (context_of b c).b) x) (found b (context_of b c).parent x)
  unfolding found_as entry_of mention_as
  found_replaces c k lower x = found_here c 2 x k lower

-- ---- mentioned variables

-- something is said
abbrev Told : Mention → Type 0
Told m = m ≡ Absent → ⊥

told_fixed : Told Fixed
told_fixed e = let z : ◌≡◌ {A = ℕ} 0 1 = cc in omega arith

told_replaced : (t : ℕ) → Told (Replaced t)
told_replaced t e = let z : ◌≡◌ {A = ℕ} 0 1 = cc in omega arith

told? : (m : Mention) → Told m ⊎ (m ≡ Absent)
told? Fixed = inl told_fixed
told? (Replaced t) = inl (told_replaced t)
told? Absent = inr refl

told_test : (m : Mention) → (mentioned_by m ≡ true) ↔ Told m
unfolding mentioned_by
told_test Fixed = (λ e. told_fixed, λ h. refl)
told_test (Replaced t) = (λ e. told_replaced t, λ h. refl)
told_test Absent = (λ e. absurd (false≢true e), λ h. absurd (h refl))

told_image : (m : Mention) (t : ℕ) → as_image m ≡ Gives t → Told m
unfolding as_image
told_image Fixed t e = told_fixed
told_image (Replaced u) t e = told_replaced u
told_image Absent t e = absurd (let z : ◌≡◌ {A = ℕ} 0 1 = cc in omega arith)

above_first : (m n : Mention) → Told m → Told (or_above m n)
unfolding or_above
above_first Fixed n h = h
above_first (Replaced t) n h = h
above_first Absent n h = absurd (h refl)

above_rest : (m n : Mention) → Told n → Told (or_above m n)
unfolding or_above
above_rest Fixed n h = told_fixed
above_rest (Replaced t) n h = told_replaced t
above_rest Absent n h = h

above_cases : (m n : Mention) → Told (or_above m n) → Told m ⊎ Told n
unfolding or_above
above_cases Fixed n h = inl h
above_cases (Replaced t) n h = inl h
above_cases Absent n h = inr h

-- lists that agree say something of each variable of theirs, and of no others
lookup_told : (f g : ℕ → ℕ) (vs ts : List ℕ) (x : ℕ) → map f vs ≡ map g ts → Among x vs → Told (lookup vs ts x)
unfolding lookup
lookup_told f g [] ts x e m = absurd m
lookup_told f g (v ∷ vs) [] x e m = absurd (let z : ◌≡◌ {A = ℕ} 0 1 = cc in omega arith)
lookup_told f g (v ∷ vs) (t ∷ ts) x e m = go m (eqb v x) refl (lookup_told f g vs ts x cc)
  where
    go : (x ≡ v) ⊎ Among x vs → (p : Bool) → eqb v x ≡ p → (Among x vs → Told (lookup vs ts x)) → Told (cond p (Replaced t) (lookup vs ts x))
    go m true q ih = told_replaced t
    go (inl e) false q ih = absurd (false≢true (sym q ∙ eq-eqb v x (sym e)))
    go (inr m) false q ih = ih m

told_lookup : (vs ts : List ℕ) (x : ℕ) → Told (lookup vs ts x) → Among x vs
unfolding lookup
told_lookup [] ts x h = absurd (h refl)
told_lookup (v ∷ vs) [] x h = absurd (h refl)
told_lookup (v ∷ vs) (t ∷ ts) x h = go (eqb v x) refl h (told_lookup vs ts x)
  where
    go : (p : Bool) → eqb v x ≡ p → Told (cond p (Replaced t) (lookup vs ts x)) → (Told (lookup vs ts x) → Among x vs) → (x ≡ v) ⊎ Among x vs
    go true q h ih = inl (sym (eqb-true v x q))
    go false q h ih = inr (ih h)

module _ (b : Bundle) (c : ℕ) where
  -- in a well-formed context: what its entry says, else what is found in the parent
  found_formed : ContextFormed b c → (x : ℕ) → found b c x ≡ or_above (mention b (context_of b c) x) (found b (context_of b c).parent x)
  unfolding mention found_as entry_of
  found_formed (fixes y p e n l) x = rw e (rw e at (found_here b c 1 x (ap (λ (r : Context). r.kind) e) (parent_lower b (fixes y p e n l))))
  found_formed (replaces vs ts p e i vars j terms ls l s) x =
      rw e (rw e at (found_here b c 2 x (ap (λ (r : Context). r.kind) e) (parent_lower b (replaces vs ts p e i vars j terms ls l s))))

  -- its entry says something of the variables that it mentions, and of no others
  fixing_told : (x : ℕ) → (context_of b c).kind ≡ 1 → (context_of b c).a ≡ x → Told (mention b (context_of b c) x)
  unfolding mention mention_as entry_of
  fixing_told x k a = rw (k, eq-eqb (context_of b c).a x a) told_fixed

  replacing_told : (x : ℕ) → ContextFormed b c → (context_of b c).kind ≡ 2 → Among x (items b (context_of b c).a) → Told (mention b (context_of b c) x)
  unfolding mention mention_as entry_of
  replacing_told x (fixes y p e n l) k m = absurd (let one : 1 ≡ 2 = ap (λ (r : Context). r.kind) (sym e) ∙ k in omega arith)
  replacing_told x (replaces vs ts p e i vars j terms ls l s) k m =
      rw e (lookup_told (sort_of_variable b) (sort_of_term b) (items b vs) (items b ts) x ls.sorts (rw e at m))

  told_mentioned : (x : ℕ) → ContextFormed b c → Told (mention b (context_of b c) x) → Mentioned b c x
  unfolding mention mention_as entry_of
  told_mentioned x (fixes y p e n l) h = go (eqb y x) refl (rw e at h)
    where
      go : (q : Bool) → eqb y x ≡ q → Told (cond q Fixed Absent) → Mentioned b c x
      go true q h = by_fixing {c = c} {x = x} (rw e) (rw e (eqb-true y x q))
      go false q h = absurd (h refl)
  told_mentioned x (replaces vs ts p e i vars j terms ls l s) h =
      by_replacing {c = c} {x = x} (rw e) (rw e (told_lookup (items b vs) (items b ts) x (rw e at h)))

module _ (b : Bundle) (wf : WellFormed b) where
  formed : (c : ℕ) → (context_of b c ≡ no_context) ⊎ ContextFormed b c
  formed = everywhere no_context b.contexts (λ r i. (r ≡ no_context) ⊎ ContextFormed b i) (λ i. inl refl) (λ i lo hi. inr (wf.contexts i (lo, hi)))

  here : (c x : ℕ) → ((context_of b c).kind ≡ 0 → ⊥) → Told (mention b (context_of b c) x) → Told (found b c x)
  here c x some h = rw (found_formed b c (formed_context b wf c some) x) (above_first (mention b (context_of b c) x) (found b (context_of b c).parent x) h)

  pub mentioned_found : {c x : ℕ} → Mentioned b c x → Told (found b c x)
  mentioned_found (by_fixing {c = c} {x = x} k a) = here c x (λ e. omega (arith, k)) (fixing_told b c x k a)
  mentioned_found (by_replacing {c = c} {x = x} k m) =
      here c x (λ e. omega (arith, k)) (replacing_told b c x (formed_context b wf c (λ e. omega (arith, k))) k m)
  mentioned_found (by_parent {c = c} {x = x} m) = go (formed c) (mentioned_found m)
    where
      go : (context_of b c ≡ no_context) ⊎ ContextFormed b c → Told (found b (context_of b c).parent x) → Told (found b c x)
      go (inl e) h = absurd (h (rw e (found_empty b x)))
      go (inr f) h = rw (found_formed b c f x) (above_rest (mention b (context_of b c) x) (found b (context_of b c).parent x) h)

  found_at : (n c x : ℕ) → c < n → Told (found b c x) → Mentioned b c x
  found_at zero c x l h = absurd (omega arith)
  found_at (suc n) c x l h = go (formed c) (λ low m. by_parent (found_at n (context_of b c).parent x (omega arith) m))
    where
      go : (context_of b c ≡ no_context) ⊎ ContextFormed b c → ((context_of b c).parent < c → Told (found b (context_of b c).parent x) → Mentioned b c x)
          → Mentioned b c x
      go (inl e) ih = absurd (h (ap (λ (f : ℕ → Mention). f x) (found_none b c e)))
      go (inr f) ih = either (above_cases (mention b (context_of b c) x) (found b (context_of b c).parent x) (rw (found_formed b c f x) at h))
        where
          either : Told (mention b (context_of b c) x) ⊎ Told (found b (context_of b c).parent x) → Mentioned b c x
          either (inl m) = told_mentioned b c x f m
          either (inr m) = ih (parent_lower b f) m

  pub found_mentioned : (c x : ℕ) → Told (found b c x) → Mentioned b c x
  found_mentioned c x = found_at (suc c) c x (omega arith)

  pub absent_exactly : (c x : ℕ) → (found b c x ≡ Absent) ↔ (Mentioned b c x → ⊥)
  absent_exactly c x = (λ e m. mentioned_found m e, λ n. go n (told? (found b c x)))
    where
      go : (Mentioned b c x → ⊥) → Told (found b c x) ⊎ (found b c x ≡ Absent) → found b c x ≡ Absent
      go n (inl h) = absurd (n (found_mentioned c x h))
      go n (inr e) = e

  pub mentioned_exactly : (c x : ℕ) → (mentioned b c x ≡ true) ↔ Mentioned b c x
  unfolding mentioned
  mentioned_exactly c x = (λ e. found_mentioned c x ((told_test (found b c x)).0 e), λ m. (told_test (found b c x)).1 (mentioned_found m))

  pub given_mentioned : (c x t : ℕ) → image b c x ≡ Gives t → Mentioned b c x
  given_mentioned c x t e = found_mentioned c x (told_image (found b c x) t (sym (image_found b c x) ∙ e))
