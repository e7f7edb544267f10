-- Contexts of the visits, and the results that they put in for variables. V₀ is the number of the job's variables; those past it are new. N x says
-- that x may be free in a result: nothing at the start, and in a binder's body the variable that its result binds too.
--     Result, result_kept                  a result holds no let, and only variables that N allows are free in it
--     Substitutes, substitutes_kept        the invariant of a context: images are results; what may be free in a result is mentioned, and its own
--                                          image; new variables are never replaced
--     results_settled                      so everything put into a replacing context is settled
--     ByItself, not_listed, not_new        lists that replace a variable by itself, if at all: it is not in the list; it is new
--     new_not_free                         a new variable is in no old term
--     fixing_says, replacing_says          what the rules say of a context just appended, in every longer bundle
--     Opens                                what holds of it
--     fixing_opens, replacing_opens        the two kinds of contexts
--     lookup_covers                        the lists of a replacing context give an image to each of its variables
use mathlib.Core.Path.{◌≡◌, refl, sym, ap, ap₂, ◌∙◌, subst}
use Prim.Native.Nat.{ℕ, suc, ◌≤◌, ◌<◌}
use mathlib.Core.Bool.{Bool, true, false, cond}
use mathlib.Core.Logic.{inl, inr}
use mathlib.Core.List.{List, [], ◌∷◌, map}
use native.Mathlib.Omega.{arith}
use native.Mathlib.Decide.{dec_le}
use lib.ListN.{length, length-append}
use lib.Dec.{eqb}
use borrow.Author.Tests.{eqb-true, eqb-false, ne_eqb}
use Rattle.bundle.specs.Bundle.{Bundle, Context, context_of, sort_of_variable}
use Rattle.bundle.specs.Links.{items}
use Rattle.logic.specs.declared.Mention.{Mention}
use Rattle.logic.specs.declared.Mention.TheVariants.{Fixed, Replaced, Absent}
use Rattle.logic.specs.declared.Image.{Image}
use Rattle.logic.specs.declared.Image.TheVariants.{Own, Gives}
use Rattle.logic.specs.Lists.{Among, All, Number}
use Rattle.logic.specs.Terms.{var, gather, tree}
use Rattle.logic.specs.Free.{Free}
use Rattle.logic.specs.Lets.{holds_let}
use Rattle.logic.specs.Contexts.{lookup, first, image, tree_of_image, image_tree, Settled}
use Rattle.logic.specs.WellFormed.{StartsList, sort_of_term, ListsFormed, TablesFormed, fixes, replaces, WellFormed}
use Rattle.logic.specs.Instance.{Fixes, Replaces}
use Rattle.logic.specs.Longer.{Longer, add_list, list_start}
use Rattle.logic.proofs.FreeSettled.{free_number}
use Rattle.logic.proofs.Images.{image_fixes, image_replaces}
use Rattle.logic.proofs.Longer.{longer_refl, longer_trans, sizes, list_added, contexts_longer, context_added}
use Rattle.logic.proofs.Kept.{variable_kept, items_kept, tree_kept, sort_tree_kept, image_kept}
use Rattle.logic.proofs.FormedKept.{lists_formed_kept, settled_in_kept}
use Rattle.expansion.specs.Visit.{OpenedContext, replacing, fixing, new_variable}
use Rattle.expansion.proofs.Grown.{replacing_longer, fixing_longer}
use Rattle.expansion.proofs.AppendedChecked.{Checked, list_checked, list_start_lem, context_checked}
use Rattle.expansion.proofs.Placement.{all_map}
use Rattle.expansion.proofs.Mentioned.{mentioned_above, FixedIn, fixed_kept}

-- ---- results

pub record Result (N : ℕ → Type 0) (b : Bundle) (r : ℕ) : Type 0 where
  pub is_term : Number (length b.terms) r
  pub plain : holds_let (tree b r) ≡ false
  pub new : (x : ℕ) → Free x (tree b r) → N x

pub result_kept : {b b' : Bundle} {N M : ℕ → Type 0} {r : ℕ} → Longer b b' → TablesFormed b → ((x : ℕ) → N x → M x) → Result N b r → Result M b' r
result_kept {r = r} longer formed wider h =
    let same = tree_kept longer formed r h.is_term.1 in
    record {
      is_term = (h.is_term.0, omega (arith, h.is_term.1, (sizes longer).terms));
      plain = rw same h.plain;
      new = rw same (λ x f. wider x (h.new x f));
    }

-- ---- the invariant of a context

pub record Substitutes (V₀ : ℕ) (N : ℕ → Type 0) (b : Bundle) (c : ℕ) : Type 0 where
  pub here : c ≤ length b.contexts
  pub job : V₀ ≤ length b.variables
  -- what may be free in a result is mentioned, and its own image
  pub itself : (x : ℕ) → N x → FixedIn b c x
  -- an image is a result, of its variable's sort
  pub gives : (x r : ℕ) → image b c x ≡ Gives r → Result N b r × (sort_of_term b r ≡ sort_of_variable b x)
  -- new variables are never replaced
  pub stays : (x : ℕ) → V₀ < x → image b c x ≡ Own

-- a variable's own image gives no term
pub own_gives : {A : Type 0} {r : ℕ} → Own ≡ Gives r → A
own_gives e = absurd (let z : ◌≡◌ {A = ℕ} 0 1 = cc in omega arith)

module _ {V₀ : ℕ} {N : ℕ → Type 0} {b : Bundle} {c : ℕ} (s : Substitutes V₀ N b c) where
  -- a variable that is replaced is one of the job's
  pub replaced_old : (x r : ℕ) → image b c x ≡ Gives r → x ≤ V₀
  replaced_old x r e = go (dec_le x V₀)
    where
      go : Dec (x ≤ V₀) → x ≤ V₀
      go (yes l) = l
      go (no l) = own_gives (sym (s.stays x (omega arith)) ∙ e)

  pub substitutes_kept : {b' : Bundle} {M : ℕ → Type 0} → Longer b b' → WellFormed b → ((x : ℕ) → N x → M x) → ((x : ℕ) → M x → FixedIn b c x)
      → Substitutes V₀ M b' c
  substitutes_kept {b'} longer well wider itself =
      let same = image_kept longer well c s.here in
      record {
        here = omega (arith, s.here, (sizes longer).contexts);
        job = omega (arith, s.job, (sizes longer).variables);
        itself = λ x m. fixed_kept longer well c x s.here (itself x m);
        gives = λ x r e.
            let was : image b c x ≡ Gives r = sym (ap (λ (f : ℕ → Image). f x) same) ∙ e in
            let h = s.gives x r was in (
              result_kept longer well.tables wider h.0,
              sort_tree_kept longer well.tables r h.0.is_term.1 ∙ h.1
                  ∙ sym (variable_kept longer x (omega (arith, replaced_old x r was, s.job))),
            );
        stays = λ x l. ap (λ (f : ℕ → Image). f x) same ∙ s.stays x l;
      }

  -- everything that is put into a replacing context is settled in its parent
  pub results_settled : (r : ℕ) → Result N b r → Settled b c (tree b r)
  results_settled r h x f = (s.itself x (h.new x f)).image

-- ---- a new variable

module _ (b : Bundle) (formed : TablesFormed b) where
  -- is in no old term
  pub new_not_free : (t : ℕ) → Free (new_variable b) (tree b t) → ⊥
  new_not_free t f = let n = free_number b formed t (new_variable b) f in omega (arith, n.1)

-- ---- what two lists give

-- the lists replace x by x, if at all
abbrev pub ByItself : Bundle → List ℕ → List ℕ → ℕ → Type 0
ByItself b vs ts x = (r : ℕ) → lookup vs ts x ≡ Replaced r → (r ≤ length b.terms) × (tree b r ≡ var x)

-- they say nothing of a variable that is not in the list
not_mentioned : (x : ℕ) (vs ts : List ℕ) → (Among x vs → ⊥) → lookup vs ts x ≡ Absent
unfolding lookup
not_mentioned x [] ts out = refl
not_mentioned x (v ∷ vs) [] out = refl
not_mentioned x (v ∷ vs) (t ∷ ts) out = rw (ne_eqb v x (λ e. out (inl (sym e)))) (not_mentioned x vs ts (λ m. out (inr m)))

pub not_listed : (b : Bundle) (x : ℕ) (vs ts : List ℕ) → (Among x vs → ⊥) → ByItself b vs ts x
not_listed b x vs ts out r e = let none = not_mentioned x vs ts out in let z : ◌≡◌ {A = ℕ} 0 1 = cc in absurd (omega arith)

-- and no variable of the job is new
pub not_new : (V₀ x : ℕ) (vs : List ℕ) → All (Number V₀) vs → V₀ < x → Among x vs → ⊥
not_new V₀ x [] h l m = m
not_new V₀ x (v ∷ vs) h l (inl e) = omega (arith, h.0.1)
not_new V₀ x (v ∷ vs) h l (inr m) = not_new V₀ x vs h.1 l m

-- what a mention and an image give, as a tree
first_itself : (b : Bundle) (m : Mention) (i : Image) (x : ℕ) → ((r : ℕ) → m ≡ Replaced r → tree b r ≡ var x) → tree_of_image b i x ≡ var x
    → tree_of_image b (first m i) x ≡ var x
unfolding first tree_of_image
first_itself b Fixed i x h e = refl
first_itself b (Replaced t) i x h e = h t refl
first_itself b Absent i x h e = e

module _ (b : Bundle) where
  -- variables of the first list have images, if the second is as long
  pub lookup_covers : (vs ts : List ℕ) (x : ℕ) (i : Image) → map (sort_of_variable b) vs ≡ map (sort_of_term b) ts
      → ((Among x vs → ⊥) → (r : ℕ) × (i ≡ Gives r)) → (r : ℕ) × (first (lookup vs ts x) i ≡ Gives r)
  unfolding lookup first
  lookup_covers [] ts x i e h = h (λ m. m)
  lookup_covers (v ∷ vs) [] x i e h = absurd (let z : ◌≡◌ {A = ℕ} 0 1 = cc in omega arith)
  lookup_covers (v ∷ vs) (t ∷ ts) x i e h =
      go (eqb v x) refl (λ k. lookup_covers vs ts x i (cc) (λ out. h (λ m. elim m [ inl q ↦ absurd (eqb-false v x k (sym q)) | inr q ↦ out q ])))
    where
      go : (p : Bool) → eqb v x ≡ p → (eqb v x ≡ false → (r : ℕ) × (first (lookup vs ts x) i ≡ Gives r))
          → (r : ℕ) × (first (cond p (Replaced t) (lookup vs ts x)) i ≡ Gives r)
      go true q ih = (t, refl)
      go false q ih = ih q

  -- what holds of the terms of the second list, with the sorts of the first, and of i, holds of what the lists give
  lookup_gives : (P : ℕ → Type 0) (vs ts : List ℕ) (x : ℕ) (i : Image) → map (sort_of_variable b) vs ≡ map (sort_of_term b) ts → All P ts
      → ((r : ℕ) → i ≡ Gives r → P r × (sort_of_term b r ≡ sort_of_variable b x))
      → (r : ℕ) → first (lookup vs ts x) i ≡ Gives r → P r × (sort_of_term b r ≡ sort_of_variable b x)
  unfolding lookup first
  lookup_gives P [] ts x i e ps h r f = h r f
  lookup_gives P (v ∷ vs) [] x i e ps h r f = h r f
  lookup_gives P (v ∷ vs) (t ∷ ts) x i e ps h r f =
      let head : sort_of_variable b v ≡ sort_of_term b t = cc in
      let tail : map (sort_of_variable b) vs ≡ map (sort_of_term b) ts = cc in
      go (eqb v x) refl head f (lookup_gives P vs ts x i tail ps.1 h r)
    where
      go : (p : Bool) → eqb v x ≡ p → sort_of_variable b v ≡ sort_of_term b t → first (cond p (Replaced t) (lookup vs ts x)) i ≡ Gives r
          → (first (lookup vs ts x) i ≡ Gives r → P r × (sort_of_term b r ≡ sort_of_variable b x)) → P r × (sort_of_term b r ≡ sort_of_variable b x)
      go true q head g ih =
          let is : t ≡ r = cc in
          (subst P is ps.0, ap (sort_of_term b) (sym is) ∙ sym head ∙ ap (sort_of_variable b) (eqb-true v x q))
      go false q head g ih = ih g

-- ---- a context just appended

-- what the rules say of it, in every longer bundle
module _ (b : Bundle) {B : Bundle} where
  pub fixing_says : (y c : ℕ) → Longer (fixing b y c).bundle B → Fixes B (suc (length b.contexts)) y c
  fixing_says y c longer =
      let is : context_of B (suc (length b.contexts)) ≡ record { kind = 1; a = y; b = 0; parent = c } = context_added b _ longer in
      record { kind = ap (λ (k : Context). k.kind) is; variable = ap (λ (k : Context). k.a) is; parent = ap (λ (k : Context). k.parent) is }

  pub replacing_says : (v c : ℕ) (vs ts : List ℕ) → TablesFormed b → StartsList b v → items b v ≡ vs → Longer (replacing b v c ts).bundle B
      → Replaces B (suc (length b.contexts)) vs (gather (tree B) ts) c
  replacing_says v c vs ts formed start li longer =
      let r : Context = record { kind = 2; a = v; b = list_start b ts; parent = c } in
      let is : context_of B (suc (length b.contexts)) ≡ r = context_added (add_list b ts) r longer in
      record {
        kind = ap (λ (k : Context). k.kind) is;
        variables = ap (λ (k : Context). items B k.a) is ∙ items_kept (longer_trans (replacing_longer b v c ts) longer) formed v start ∙ li;
        terms = ap (λ (k : Context). gather (tree B) (items B k.b)) is
            ∙ ap (gather (tree B)) (list_added b ts (longer_trans (contexts_longer (add_list b ts) (r ∷ [])) longer));
        parent = ap (λ (k : Context). k.parent) is;
      }

pub record Opens (V₀ : ℕ) (N : ℕ → Type 0) (o : OpenedContext) (f : ℕ → Image) : Type 0 where
  pub checked : Checked o.bundle
  pub substitutes : Substitutes V₀ N o.bundle o.context
  pub images : (x : ℕ) → image o.bundle o.context x ≡ f x

module _ {V₀ : ℕ} {N : ℕ → Type 0} (b : Bundle) (c : ℕ) (old : Checked b) (s : Substitutes V₀ N b c) where
  -- a context that fixes a variable
  pub fixing_opens : (y : ℕ) → Number (length b.variables) y → Opens V₀ N (fixing b y c) (λ x. cond (eqb y x) Own (image b c x))
  unfolding image_tree tree_of_image
  fixing_opens y ny = record {
    checked = context_checked b r old (fixes y c is ny (omega (arith, s.here)));
    substitutes = record {
      here = omega (arith, length-append b.contexts (r ∷ []));
      job = s.job;
      itself = λ x n. record {
        mentioned = mentioned_above is refl (kept.itself x n).mentioned;
        image = ap (λ (i : Image). tree_of_image B i x) (images_in_lem x) ∙ fixed (eqb y x) x (kept.itself x n).image;
      };
      gives = λ x t e. kept.gives x t (ap (λ (f : ℕ → Image). f x) same ∙ given (eqb y x) (image b c x) t (sym (images x) ∙ e));
      stays = λ x l. images x ∙ own (eqb y x) (image b c x) (s.stays x l);
    };
    images = images;
  }
    where
      r : Context
      r = record { kind = 1; a = y; b = 0; parent = c }

      B : Bundle
      B = (fixing b y c).bundle

      d : ℕ
      d = suc (length b.contexts)

      is : context_of B d ≡ r
      is = context_added b r (longer_refl B)

      kept : Substitutes V₀ N B c
      kept = substitutes_kept s (fixing_longer b y c) old.formed (λ x n. n) s.itself

      same : image B c ≡ image b c
      same = image_kept (fixing_longer b y c) old.formed c s.here

      images_in_lem : (x : ℕ) → image B d x ≡ cond (eqb y x) Own (image B c x)
      images_in_lem x =
          image_fixes B d (ap (λ (k : Context). k.kind) is) (subst (λ (k : Context). k.parent < d) (sym is) (omega (arith, s.here))) x
          ∙ ap (λ (k : Context). cond (eqb k.a x) Own (image B k.parent x)) is

      images : (x : ℕ) → image B d x ≡ cond (eqb y x) Own (image b c x)
      images x = images_in_lem x ∙ ap (λ (f : ℕ → Image). cond (eqb y x) Own (f x)) same

      fixed : (p : Bool) (x : ℕ) → tree_of_image B (image B c x) x ≡ var x → tree_of_image B (cond p Own (image B c x)) x ≡ var x
      fixed true x e = refl
      fixed false x e = e

      given : (p : Bool) (i : Image) (t : ℕ) → cond p Own i ≡ Gives t → i ≡ Gives t
      given true i t q = own_gives q
      given false i t q = q

      own : (p : Bool) (i : Image) → i ≡ Own → cond p Own i ≡ Own
      own true i q = refl
      own false i q = q

  -- a context that replaces variables of the job, those of the list vs at v, by results; what may be free in a result by itself, if at all
  pub replacing_opens : (v : ℕ) (vs ts : List ℕ) → StartsList b v → items b v ≡ vs → All (Number V₀) vs → ListsFormed b vs ts → All (Result N b) ts
      → ((x : ℕ) → N x → ByItself b vs ts x) → Opens V₀ N (replacing b v c ts) (λ x. first (lookup vs ts x) (image b c x))
  unfolding first image_tree
  replacing_opens v vs ts start li nv lists res by_itself = record {
    checked = context_checked (add_list b ts) r (list_checked b ts old)
        (replaces v (list_start b ts) c is (omega (arith, start, (sizes longer).links)) (rw vs_here nv_here)
        (list_start_lem b ts listed) (rw ts_here nt) (rw (vs_here, ts_here) lists_here)
        (omega (arith, s.here)) (rw ts_here (all_map settled ts res)));
    substitutes = record {
      here = omega (arith, length-append b.contexts (r ∷ []));
      job = s.job;
      itself = λ x n. record {
        mentioned = mentioned_above is refl (kept.itself x n).mentioned;
        image = ap (λ (i : Image). tree_of_image B i x) (images_in_lem x) ∙ first_itself B (lookup vs ts x) (image B c x) x
            (λ r e. let (low, is_x) = by_itself x n r e in tree_kept longer formed r low ∙ is_x) (kept.itself x n).image;
      };
      gives = λ x t e. lookup_gives B (Result N B) vs ts x (image B c x)
          lists_here.sorts (all_map (λ t h. result_kept longer formed (λ x n. n) h) ts res) (kept.gives x) t (sym (images_in_lem x) ∙ e);
      stays = λ x l. images x ∙ ap₂ first (not_mentioned x vs ts (not_new V₀ x vs nv l)) (s.stays x l);
    };
    images = images;
  }
    where
      r : Context
      r = record { kind = 2; a = v; b = list_start b ts; parent = c }

      B : Bundle
      B = (replacing b v c ts).bundle

      d : ℕ
      d = suc (length b.contexts)

      formed : TablesFormed b
      formed = old.formed.tables

      longer : Longer b B
      longer = replacing_longer b v c ts

      listed : Longer (add_list b ts) B
      listed = contexts_longer (add_list b ts) (r ∷ [])

      is : context_of B d ≡ r
      is = context_added (add_list b ts) r (longer_refl B)

      vs_here : items B v ≡ vs
      vs_here = items_kept longer formed v start ∙ li

      ts_here : items B (list_start b ts) ≡ ts
      ts_here = list_added b ts listed

      nt : All (Number (length b.terms)) ts
      nt = all_map (λ t h. h.is_term) ts res

      nv_here : All (Number (length b.variables)) vs
      nv_here = all_map (λ x n. (n.0, omega (arith, n.1, s.job))) vs nv

      lists_here : ListsFormed B vs ts
      lists_here = lists_formed_kept longer formed vs ts nv_here nt lists

      settled : (t : ℕ) → Result N b t → Settled B c (tree B t)
      settled t h =
          subst (Settled B c) (sym (tree_kept longer formed t h.is_term.1))
          (settled_in_kept longer old.formed c (tree b t) s.here (results_settled s t h))

      kept : Substitutes V₀ N B c
      kept = substitutes_kept s longer old.formed (λ x n. n) s.itself

      images_in_lem : (x : ℕ) → image B d x ≡ first (lookup vs ts x) (image B c x)
      images_in_lem x =
          image_replaces B d (ap (λ (k : Context). k.kind) is) (subst (λ (k : Context). k.parent < d) (sym is) (omega (arith, s.here))) x
          ∙ ap (λ (k : Context). first (lookup (items B k.a) (items B k.b) x) (image B k.parent x)) is
          ∙ ap₂ (λ (l m : List ℕ). first (lookup l m x) (image B c x)) vs_here ts_here

      images : (x : ℕ) → image B d x ≡ first (lookup vs ts x) (image b c x)
      images x = images_in_lem x ∙ ap (λ (f : ℕ → Image). first (lookup vs ts x) (f x)) (image_kept longer old.formed c s.here)
