-- THE INDUCTION: each visit leaves a checked bundle, a result and a step that carries the visited term to it.
--     Covers, CoverAll                     every free variable of a tree, or of a list of trees, has an image in the context
--     left_scope, open_scope               so a term that is covered is in scope, and what may be free in a result is mentioned
--     refl_instance, leaf_visited          a variable
--     cong_instance, node_visited          an application
--     NamedAs, new_named, kept_named       the variable of a binder's result: a new one, or its own
--     binder_opens, binder_covers, bind_instance, binder_visited     a binder: its contexts, its step
--     block_opens, block_covers, let_instance, block_visited         a let
--     Open, not_open, not_in_let            what may be free in a result: new variables, and kept ones whose binder is being visited
--     visit_visited, visit_all_visited      THE LAW
use mathlib.Core.Path.{◌≡◌, refl, sym, ap, ◌∙◌, subst}
use Prim.Native.Nat.{ℕ, suc, ◌≤◌, ◌<◌}
use mathlib.Core.Bool.{Bool, true, false, cond}
use mathlib.Core.Logic.{◌⊎◌, inl, inr}
use mathlib.Core.List.{List, [], ◌∷◌, ◌++◌}
use native.Mathlib.Omega.{arith}
use lib.ListN.{length, length-append}
use lib.Dec.{eqb}
use borrow.Author.Tests.{eqb-true, eqb-false, eq-eqb, ne_eqb}
use Rattle.std.proofs.lemmas.Bool.{or_from}
use Rattle.bundle.specs.Bundle.{Bundle, sort_of_variable}
use Rattle.logic.specs.declared.Mention.TheVariants.{Replaced, Absent}
use Rattle.logic.specs.declared.Image.{Image}
use Rattle.logic.specs.declared.Image.TheVariants.{Own, Gives}
use Rattle.logic.specs.Lists.{Among, All, Number}
use Rattle.logic.specs.Terms.{Binder, Term, Terms, var, app, bind, let_in, none, more, gather, tree}
use Rattle.logic.specs.Free.{Free, Frees}
use Rattle.logic.specs.Lets.{holds_let, hold_lets}
use Rattle.logic.specs.Sorts.{binder_sort, sort}
use Rattle.logic.specs.Contexts.{lookup, first, image, tree_of_image, image_tree, Mentioned, by_fixing, InScope}
use Rattle.logic.specs.Rules.{REFL, rule_of}
use Rattle.logic.specs.WellFormed.{ListsFormed, WellFormed}
use Rattle.logic.specs.Instance.{ReflForm, Instance, by_refl, by_cong, by_bind, by_let, Replaces}
use Rattle.logic.specs.Longer.{Longer, with_variables, add_list, list_start}
use Rattle.logic.proofs.ReflStep.{refl_forms}
use Rattle.logic.proofs.Found.{given_mentioned}
use Rattle.logic.proofs.Pairs.{refl_rule}
use Rattle.logic.proofs.Longer.{longer_refl, longer_trans, sizes, variable_added, list_longer, list_added}
use Rattle.logic.proofs.Kept.{variable_kept, tree_kept, image_kept}
use Rattle.logic.proofs.FormedKept.{image_tree_kept}
use Rattle.expansion.specs.Nodes.{Node, Nodes, leaf, node, scope, block, nil, cons, number}
use Rattle.expansion.specs.Placed.{PlacedTerm, place_variable, place_application, place_binder}
use Rattle.expansion.specs.declared.Names.{Names}
use Rattle.expansion.specs.Names.{keeps, BindsAt, ListsAt}
use Rattle.expansion.specs.Visit.{Visit, Visits, concluded, OpenedContext, replacing, fixing, image_term}
use Rattle.expansion.specs.Visit.{close_application, new_variable, fresh, name_of, named, renaming, open_binder, close_binder, visit, visit_all}
use Rattle.expansion.proofs.KeptNames.{kept_bound}
use Rattle.expansion.proofs.Grown.{variable_longer, application_longer, binder_longer, fresh_longer, fixing_longer, replacing_longer, open_longer}
use Rattle.expansion.proofs.Grown.{visit_longer, visit_all_longer}
use Rattle.expansion.proofs.AppendedChecked.{Checked, list_checked, list_start_lem, variable_checked}
use Rattle.expansion.proofs.Placement.{all_map, all_snoc, gather_kept, PlacedAs, variable_placed, application_placed, binder_placed}
use Rattle.expansion.proofs.Mentioned.{mentioned_kept, scope_kept, FixedIn}
use Rattle.expansion.proofs.Substitution.{Result, Substitutes, replaced_old, substitutes_kept, new_not_free, ByItself, not_listed}
use Rattle.expansion.proofs.Substitution.{lookup_covers, fixing_says, replacing_says, Opens, fixing_opens, replacing_opens}
use Rattle.expansion.proofs.Conclusions.{done_says, done_kept, done_none, done_more, done_all_kept, done_results, done_sorts, done_steps, say_all}
use Rattle.expansion.proofs.Conclusions.{Visited, VisitedAll, conclude}
use Rattle.expansion.proofs.Standing.{numbers_of, StandsAs, Stands, Stand, stands_term, stand_terms, stands_kept, stand_kept, application_sorts}
use Rattle.expansion.proofs.Standing.{binder_sorts, let_lists}
use Rattle.expansion.proofs.Falling.{Falls, FallAll}

-- every free variable of a tree is given an image
abbrev pub Covers : Bundle → ℕ → Term → Type 0
Covers b c τ = (x : ℕ) → Free x τ → (r : ℕ) × (image b c x ≡ Gives r)

abbrev pub CoverAll : Bundle → ℕ → Terms → Type 0
CoverAll b c τs = (x : ℕ) → Frees x τs → (r : ℕ) × (image b c x ≡ Gives r)

-- what has an image keeps it
pub image_stays : {b b' : Bundle} → Longer b b' → WellFormed b → (c : ℕ) → c ≤ length b.contexts → (x : ℕ) {i : Image} → image b c x ≡ i → image b' c x ≡ i
image_stays longer well c h x e = ap (λ (f : ℕ → Image). f x) (image_kept longer well c h) ∙ e

-- ---- in scope, in every longer bundle

module _ {V₀ : ℕ} {N : ℕ → Type 0} {b B : Bundle} {c : ℕ} (old : Checked b) (s : Substitutes V₀ N b c) (later : Longer b B) where
  -- a term whose free variables have images
  left_scope : (t : ℕ) → t ≤ length b.terms → Covers b c (tree b t) → InScope B c (tree B t)
  left_scope t h covers =
      scope_kept later old.formed c t s.here h (λ x f. let (r, e) = covers x f in given_mentioned b old.formed c x r e)

  -- what may be free in a result
  open_scope : (x : ℕ) → N x → Mentioned B c x
  open_scope x n = mentioned_kept later old.formed s.here (s.itself x n).mentioned

-- ---- a variable: REFL

-- right is its image
refl_form : (b : Bundle) (c t x r : ℕ) → WellFormed b → c ≤ length b.contexts → StandsAs b t (var x) → image b c x ≡ Gives r
    → (B : Bundle) → Longer b B → WellFormed B → ReflForm B c (tree B t) (tree B r)
unfolding image_tree tree_of_image
refl_form b c t x r formed here (nt, is) given B later well =
    inr (x, tree_kept later formed.tables t nt.1 ∙ is, sym (ap (λ (i : Image). tree_of_image B i x) (image_stays later formed c here x given)))

refl_instance : (b : Bundle) (c t x r : ℕ) → WellFormed b → c ≤ length b.contexts → StandsAs b t (var x) → image b c x ≡ Gives r
    → (B : Bundle) → Longer b B → WellFormed B → Instance B (rule_of 1) c (tree B t) (tree B r) []
unfolding rule_of
refl_instance b c t x r formed here stands given B later well =
    by_refl refl refl (refl_forms B c (tree B t) (tree B r) (refl_form b c t x r formed here stands given B later well))

leaf_visited : {V₀ : ℕ} {N : ℕ → Type 0} (b : Bundle) (c t x : ℕ) → Checked b → Substitutes V₀ N b c → StandsAs b t (var x) → Covers b c (tree b t)
    → Visited N c t (concluded b 1 c t (image_term (image b c x) t) [])
unfolding sort
leaf_visited {N = N} b c t x old s stands covers =
    let (r, given) = covers x (rw stands.1 refl) in
    let (res, sorted) = s.gives x r given in
    subst (λ (i : Image). Visited N c t (concluded b 1 c t (image_term i t) [])) (sym given)
    (conclude b 1 c t r [] old s.here stands.0 res (sorted ∙ sym (ap (sort b) stands.1))
    (left_scope old s (longer_refl b) t stands.0.1 covers) (open_scope old s (longer_refl b)) tt
    (refl_instance b c t x r old.formed s.here stands given) (λ B later well e. refl_form b c t x r old.formed s.here stands given B later well))

-- the other rules are not REFL
not_refl : {A : Type 0} (k : ℕ) → (k ≡ 1 → ⊥) → rule_of k ≡ REFL → A
not_refl k other e = absurd (other (refl_rule k e))

-- ---- an application: CONG

-- lists of results hold no let, and only variables that N allows are free in them
gather_plain : (N : ℕ → Type 0) (b : Bundle) (rs : List ℕ) → All (Result N b) rs → hold_lets (gather (tree b) rs) ≡ false
unfolding gather holds_let
gather_plain N b [] h = refl
gather_plain N b (r ∷ rs) h = or_from (holds_let (tree b r)) (hold_lets (gather (tree b) rs)) h.0.plain (gather_plain N b rs h.1)

gather_new : (N : ℕ → Type 0) (b : Bundle) (rs : List ℕ) → All (Result N b) rs → (x : ℕ) → Frees x (gather (tree b) rs) → N x
unfolding gather
gather_new N b [] h x f = absurd f
gather_new N b (r ∷ rs) h x (inl f) = h.0.new x f
gather_new N b (r ∷ rs) h x (inr f) = gather_new N b rs h.1 x f

-- term t is symbol f at the arguments ns; v is what the visits to these leave
module _ {V₀ : ℕ} {N : ℕ → Type 0} (b : Bundle) (c t f : ℕ) (ns : Nodes) (old : Checked b) (s : Substitutes V₀ N b c) (stands : Stands V₀ b (node t f ns))
    (covers : Covers b c (tree b t)) (v : Visits) (longer : Longer b v.bundle) (ih : VisitedAll N c (numbers_of ns) v) where
  abbrev applied : PlacedTerm
  applied = place_application v.bundle f v.results

  abbrev A : Bundle
  A = applied.bundle

  to_applied : Longer v.bundle A
  to_applied = application_longer v.bundle f v.results

  application_there : (B : Bundle) → Longer b B → StandsAs B t (app f (gather (tree B) (numbers_of ns)))
  application_there B later = (stands_kept V₀ later old.formed.tables (node t f ns) stands).0

  results : All (Result N v.bundle) v.results
  results = done_results ih.done

  result_terms : All (Number (length v.bundle.terms)) v.results
  result_terms = all_map (λ r h. h.is_term) v.results results

  pub applied_as : PlacedAs (app f (gather (tree v.bundle) v.results)) applied
  applied_as =
      let (known, sorts) = application_sorts v.bundle ih.checked.formed.tables t f (numbers_of ns) (application_there v.bundle longer) in
      application_placed v.bundle f v.results ih.checked known result_terms (sorts ∙ sym (done_sorts ih.done))

  cong_instance : (B : Bundle) → Longer A B → WellFormed B → Instance B (rule_of 2) c (tree B t) (tree B applied.term) v.steps
  unfolding rule_of
  cong_instance B later well =
      by_cong refl f (gather (tree B) (numbers_of ns)) (gather (tree B) v.results)
      (application_there B (longer_trans longer (longer_trans to_applied later))).1
      (tree_kept later applied_as.checked.formed.tables applied.term applied_as.is_term.1 ∙ applied_as.stands
      ∙ ap (app f) (sym (gather_kept (longer_trans to_applied later) ih.checked.formed.tables v.results result_terms)))
      (say_all (done_all_kept (longer_trans to_applied later) ih.checked.formed.tables ih.done))

  node_visited : Visited N c t (close_application c t f v)
  unfolding sort holds_let
  node_visited =
      let since : Longer b A = longer_trans longer to_applied in
      let here = application_there A since in
      conclude A 2 c t applied.term v.steps applied_as.checked (omega (arith, s.here, (sizes since).contexts)) here.0
      record {
        is_term = applied_as.is_term;
        plain = ap holds_let applied_as.stands ∙ gather_plain N v.bundle v.results results;
        new = rw applied_as.stands (gather_new N v.bundle v.results results);
      }
      (ap (sort A) applied_as.stands ∙ sym (ap (sort A) here.1))
      (left_scope old s since t stands.0.0.1 covers) (open_scope old s since)
      (all_map (λ k n. (n.0, omega (arith, n.1, (sizes to_applied).steps))) v.steps (done_steps ih.done))
      cong_instance (λ B later well. not_refl 2 (λ e. omega arith))

-- ---- a binder: the variable of its result

-- A binder of x has y for its result's variable, and p is the term of y: y is of x's sort, no other variable that has an image, not free in the
-- binder's term, and in no image.
pub record NamedAs (b : Bundle) (c x y : ℕ) (p : PlacedTerm) : Type 0 where
  pub longer : Longer b p.bundle
  pub placed : PlacedAs (var y) p
  pub is_variable : Number (length p.bundle.variables) y
  pub sorts : sort_of_variable p.bundle x ≡ sort_of_variable p.bundle y
  pub other : (z r : ℕ) → (z ≡ x → ⊥) → image b c z ≡ Gives r → y ≡ z → ⊥
  pub not_free : (t : ℕ) (q : Binder) (τ : Term) → tree b t ≡ bind q x τ → Free y (tree b t) → ⊥
  pub not_in_image : (z r : ℕ) → image b c z ≡ Gives r → Free y (tree b r) → ⊥

module _ {V₀ : ℕ} {N : ℕ → Type 0} (b : Bundle) (c x : ℕ) (old : Checked b) (s : Substitutes V₀ N b c) (nx : Number V₀ x) where
  -- a new one
  new_named : NamedAs b c x (new_variable b) (fresh b x)
  new_named = record {
    longer = fresh_longer b x;
    placed = placed;
    is_variable = (y_number.0, omega (arith, y_number.1, (sizes to_term).variables));
    sorts = variable_kept (fresh_longer b x) x (omega (arith, nx.1, s.job)) ∙ sym (variable_added b (sort_of_variable b x) to_term);
    other = λ z r ne e is. omega (arith, replaced_old s z r e, s.job);
    not_free = λ t q τ e f. new_not_free b old.formed.tables t f;
    not_in_image = λ z r e f. new_not_free b old.formed.tables r f;
  }
    where
      with_new : Bundle
      with_new = with_variables b (sort_of_variable b x ∷ [])

      y_number : Number (length with_new.variables) (new_variable b)
      y_number = (omega arith, omega (arith, length-append b.variables (sort_of_variable b x ∷ [])))

      placed : PlacedAs (var (new_variable b)) (fresh b x)
      placed =
          variable_placed with_new (new_variable b)
          (variable_checked b (sort_of_variable b x) old (old.formed.tables.variables x (nx.0, omega (arith, nx.1, s.job)))) y_number

      to_term : Longer with_new (fresh b x).bundle
      to_term = variable_longer with_new (new_variable b)

  -- its own, which is free in no result
  kept_named : (N x → ⊥) → NamedAs b c x x (place_variable b x)
  kept_named out = record {
    longer = variable_longer b x;
    placed = variable_placed b x old here;
    is_variable = (nx.0, omega (arith, here.1, (sizes (variable_longer b x)).variables));
    sorts = refl;
    other = λ z r ne e is. ne (sym is);
    not_free = λ t q τ e f. (rw e at f).0 refl;
    not_in_image = λ z r e f. out ((s.gives z r e).0.new x f);
  }
    where
      here : Number (length b.variables) x
      here = (nx.0, omega (arith, nx.1, s.job))

-- ---- a binder: its contexts

-- what N allows, and y
abbrev pub And : (ℕ → Type 0) → ℕ → ℕ → Type 0
And N y x = N x ⊎ (x ≡ y)

-- x is bound, y is the variable of the result, p its term; x is free in no result
module _ {V₀ : ℕ} {N : ℕ → Type 0} (b : Bundle) (c x y : ℕ) (p : PlacedTerm) (old : Checked b) (s : Substitutes V₀ N b c) (nx : Number V₀ x)
    (name : NamedAs b c x y p) (out : N x → ⊥) where
  -- the bundles on the way: with the term of y, with y fixed, with the list of x
  abbrev with_term : Bundle
  with_term = p.bundle

  abbrev with_fixed : Bundle
  with_fixed = (fixing with_term y c).bundle

  abbrev with_list : Bundle
  with_list = add_list with_fixed (x ∷ [])

  abbrev fixed : ℕ
  fixed = suc (length with_term.contexts)

  abbrev opening : OpenedContext
  opening = renaming with_term x y p.term c

  fixed_opens : Opens V₀ N (fixing with_term y c) (λ z. cond (eqb y z) Own (image with_term c z))
  fixed_opens =
      fixing_opens with_term c name.placed.checked (substitutes_kept s name.longer old.formed (λ z n. n) s.itself) y name.is_variable

  list_ok : Checked with_list
  list_ok = list_checked with_fixed (x ∷ []) fixed_opens.checked

  from_term : Longer with_term with_list
  from_term = longer_trans (fixing_longer with_term y c) (list_longer with_fixed (x ∷ []))

  -- in the body y may be free too: it is fixed
  list_substitutes : Substitutes V₀ (And N y) with_list fixed
  unfolding image_tree tree_of_image
  list_substitutes =
      substitutes_kept fixed_opens.substitutes (list_longer with_fixed (x ∷ [])) fixed_opens.checked.formed (λ z n. inl n) itself
    where
      itself : (z : ℕ) → And N y z → FixedIn with_fixed fixed z
      itself z (inl n) = fixed_opens.substitutes.itself z n
      itself z (inr e) =
          let fixes = fixing_says with_term y c (longer_refl with_fixed) in
          record {
            mentioned = by_fixing fixes.kind (fixes.variable ∙ sym e);
            image = ap (λ (i : Image). tree_of_image with_fixed i z)
                (fixed_opens.images z ∙ ap (λ (p : Bool). cond p Own (image with_term c z)) (eq-eqb y z (sym e)));
          }

  -- the term of y
  y_tree : {B : Bundle} → Longer with_term B → tree B p.term ≡ var y
  y_tree later = tree_kept later name.placed.checked.formed.tables p.term name.placed.is_term.1 ∙ name.placed.stands

  y_result : Result (And N y) with_list p.term
  unfolding holds_let
  y_result = record {
    is_term = (name.placed.is_term.0, omega (arith, name.placed.is_term.1, (sizes from_term).terms));
    plain = ap holds_let (y_tree from_term);
    new = rw (y_tree from_term) (λ z e. inr e);
  }

  y_lists : ListsFormed with_list (x ∷ []) (p.term ∷ [])
  unfolding sort
  y_lists = record {
    some = λ e. let z : ◌≡◌ {A = ℕ} 0 1 = cc in omega arith;
    different = (λ m. m, tt);
    sorts =
        ap (λ (n : ℕ). n ∷ [])
        (variable_kept from_term x (omega (arith, nx.1, s.job, (sizes name.longer).variables))
        ∙ name.sorts
        ∙ sym (variable_kept from_term y name.is_variable.1)
        ∙ sym (ap (sort with_list) (y_tree from_term)));
  }

  -- x is replaced by y; so what may be free in a result is replaced by itself, if at all
  y_itself : (z : ℕ) → And N y z → ByItself with_list (x ∷ []) (p.term ∷ []) z
  unfolding lookup
  y_itself z n r = go (eqb x z) refl
    where
      is_y : x ≡ z → And N y z → z ≡ y
      is_y e (inl k) = absurd (out (subst N (sym e) k))
      is_y e (inr k) = k

      go : (h : Bool) → eqb x z ≡ h → cond h (Replaced p.term) Absent ≡ Replaced r → (r ≤ length with_list.terms) × (tree with_list r ≡ var z)
      go true k e =
          let is : p.term ≡ r = cc in
          subst (λ (t : ℕ). (t ≤ length with_list.terms) × (tree with_list t ≡ var z)) is
          (y_result.is_term.1, y_tree from_term ∙ ap var (sym (is_y (eqb-true x z k) n)))
      go false k e = absurd (let w : ◌≡◌ {A = ℕ} 0 1 = cc in omega arith)

  pub binder_opens : Opens V₀ (And N y) opening (λ z. first (lookup (x ∷ []) (p.term ∷ []) z) (image with_list fixed z))
  binder_opens =
      replacing_opens with_list fixed list_ok list_substitutes (list_start with_fixed (x ∷ [])) (x ∷ []) (p.term ∷ [])
      (list_start_lem with_fixed (x ∷ []) (longer_refl with_list)) (list_added with_fixed (x ∷ []) (longer_refl with_list)) (nx, tt) y_lists (y_result, tt)
      y_itself

  opened : Longer with_list opening.bundle
  opened = replacing_longer with_list (list_start with_fixed (x ∷ [])) fixed (p.term ∷ [])

  opening_longer : Longer b opening.bundle
  opening_longer = longer_trans name.longer (longer_trans from_term opened)

  -- the body's free variables are the binder's, and x
  pub binder_covers : (q : Binder) (τ : Term) → Covers b c (bind q x τ) → Covers opening.bundle opening.context τ
  binder_covers q τ covers z f =
      let (r, e) = lookup_covers with_list (x ∷ []) (p.term ∷ []) z (image with_list fixed z) y_lists.sorts passed_on in
      (r, binder_opens.images z ∙ e)
    where
      passed_on : (Among z (x ∷ []) → ⊥) → (r : ℕ) × (image with_list fixed z ≡ Gives r)
      passed_on apart =
          let ne : z ≡ x → ⊥ = λ q. apart (inl q) in
          let (r, e) = covers z (ne, f) in
          let other : eqb y z ≡ false = ne_eqb y z (name.other z r ne e) in (
            r,
            image_stays (list_longer with_fixed (x ∷ [])) fixed_opens.checked.formed fixed fixed_opens.substitutes.here z
                (fixed_opens.images z ∙ ap (λ (p : Bool). cond p Own (image with_term c z)) other
                ∙ image_stays name.longer old.formed c s.here z e),
          )

  -- where x is kept, what is its own image around the binder is so in its body, and so is x
  pub body_itself : x ≡ y → (z : ℕ) → ((z ≡ x → ⊥) → image_tree b c z ≡ var z) → image_tree opening.bundle opening.context z ≡ var z
  unfolding image_tree tree_of_image lookup first
  body_itself same z around = ap (λ (i : Image). tree_of_image opening.bundle i z) (binder_opens.images z) ∙ go (eqb x z) refl
    where
      go : (h : Bool) → eqb x z ≡ h → tree_of_image opening.bundle (first (cond h (Replaced p.term) Absent) (image with_list fixed z)) z ≡ var z
      go true k = y_tree (longer_trans from_term opened) ∙ ap var (sym same ∙ eqb-true x z k)
      go false k =
          let apart : z ≡ x → ⊥ = λ e. eqb-false x z k (sym e) in
          let passed : image with_list fixed z ≡ image b c z =
          ap (λ (f : ℕ → Image). f z) (image_kept (list_longer with_fixed (x ∷ [])) fixed_opens.checked.formed fixed fixed_opens.substitutes.here)
          ∙ fixed_opens.images z ∙ ap (λ (h : Bool). cond h Own (image with_term c z)) (ne_eqb y z (λ e. apart (sym (same ∙ e))))
          ∙ ap (λ (f : ℕ → Image). f z) (image_kept name.longer old.formed c s.here) in
          ap (λ (i : Image). tree_of_image opening.bundle i z)
          (passed ∙ sym (ap (λ (f : ℕ → Image). f z) (image_kept opening_longer old.formed c s.here)))
          ∙ image_tree_kept opening_longer old.formed c z s.here
          ∙ around apart

  -- ---- its result, and its step: BIND

  -- term t binds x in the body u; v is what the visit to the body leaves
  module _ (t : ℕ) (q : Binder) (u : Node) (stands : Stands V₀ b (scope t q x u)) (covers : Covers b c (tree b t)) (v : Visit)
      (longer : Longer opening.bundle v.bundle) (ih : Visited (And N y) opening.context (number u) v) where
    abbrev result : PlacedTerm
    result = place_binder v.bundle q y v.result

    abbrev R : Bundle
    R = result.bundle

    placed : Longer v.bundle R
    placed = binder_longer v.bundle q y v.result

    since : Longer b R
    since = longer_trans opening_longer (longer_trans longer placed)

    there : (B : Bundle) → Longer b B → StandsAs B t (bind q x (tree B (number u)))
    there B later = (stands_kept V₀ later old.formed.tables (scope t q x u) stands).0

    pub ok : PlacedAs (bind q y (tree v.bundle v.result)) result
    ok =
        binder_placed v.bundle q y v.result ih.checked
        (name.is_variable.0, omega (arith, name.is_variable.1, (sizes from_term).variables, (sizes opened).variables, (sizes longer).variables))
        ih.done.result.is_term
        (ih.done.sorted
        ∙ binder_sorts v.bundle ih.checked.formed.tables t q x (number u) (there v.bundle (longer_trans opening_longer longer)))

    bind_instance : (B : Bundle) → Longer R B → WellFormed B → Instance B (rule_of 4) c (tree B t) (tree B result.term) (v.step ∷ [])
    unfolding rule_of gather image_tree tree_of_image
    bind_instance B later well =
        by_bind refl q x y (tree B (number u)) (tree B v.result) v.step opening.context fixed
        (there B (longer_trans since later)).1
        (tree_kept later ok.checked.formed.tables result.term ok.is_term.1 ∙ ok.stands
        ∙ ap (bind q y) (sym (tree_kept (longer_trans placed later) ih.checked.formed.tables v.result ih.done.result.is_term.1)))
        refl (done_says (done_kept (longer_trans placed later) ih.checked.formed.tables ih.done))
        replaced (fixing_says with_term y c (longer_trans (list_longer with_fixed (x ∷ [])) (longer_trans opened all)))
        (λ f. name.not_free t q (tree b (number u)) stands.0.1 (rw same at f))
        (λ z f g.
        let (r, e) = covers z (rw same at f) in
        let is : image_tree B c z ≡ tree b r =
        image_tree_kept (longer_trans since later) old.formed c z s.here ∙ ap (λ (i : Image). tree_of_image b i z) e in
        name.not_in_image z r e (subst (Free y) is g))
      where
        all : Longer opening.bundle B
        all = longer_trans longer (longer_trans placed later)

        same : tree B t ≡ tree b t
        same = tree_kept (longer_trans since later) old.formed.tables t stands.0.0.1

        replaced : Replaces B opening.context (x ∷ []) (more (var y) none) fixed
        replaced =
            subst (λ (τ : Term). Replaces B opening.context (x ∷ []) (more τ none) fixed)
            (y_tree (longer_trans from_term (longer_trans opened all)))
            (replacing_says with_list (list_start with_fixed (x ∷ [])) fixed (x ∷ []) (p.term ∷ []) list_ok.formed.tables
            (list_start_lem with_fixed (x ∷ []) (longer_refl with_list)) (list_added with_fixed (x ∷ []) (longer_refl with_list)) all)

    binder_visited : Visited N c t (close_binder c t q y v)
    unfolding sort holds_let
    binder_visited =
        conclude R 4 c t result.term (v.step ∷ []) ok.checked (omega (arith, s.here, (sizes since).contexts)) (there R since).0
        record {
          is_term = ok.is_term;
          plain = ap holds_let ok.stands ∙ ih.done.result.plain;
          new = rw ok.stands (λ z f. outer z f.0 (ih.done.result.new z f.1));
        }
        (ap (sort R) ok.stands ∙ ap (binder_sort q) same_sort ∙ sym (ap (sort R) (there R since).1))
        (left_scope old s since t stands.0.0.1 covers) (open_scope old s since)
        ((ih.done.step.0, omega (arith, ih.done.step.1, (sizes placed).steps)), tt)
        bind_instance (λ B later well. not_refl 4 (λ e. omega arith))
      where
        -- y has the sort of x
        same_sort : sort_of_variable R y ≡ sort_of_variable R x
        same_sort =
            let on : Longer with_term R = longer_trans (longer_trans from_term opened) (longer_trans longer placed) in
            variable_kept on y name.is_variable.1 ∙ sym name.sorts
            ∙ sym (variable_kept on x (omega (arith, nx.1, s.job, (sizes name.longer).variables)))

        outer : (z : ℕ) → (z ≡ y → ⊥) → And N y z → N z
        outer z ne (inl n) = n
        outer z ne (inr e) = absurd (ne e)

-- ---- a let

-- term t is a let of the variables vs, which are free in no result, its list at l, bound terms ns and body u; v is what the visits to the bound terms leave
module _ {V₀ : ℕ} {N : ℕ → Type 0} (b : Bundle) (c t l : ℕ) (vs : List ℕ) (ns : Nodes) (u : Node) (old : Checked b) (s : Substitutes V₀ N b c)
    (out : (x : ℕ) → N x → Among x vs → ⊥) (stands : Stands V₀ b (block t l vs ns u)) (v : Visits) (longer : Longer b v.bundle) (ih : VisitedAll N c (numbers_of ns) v) where
  abbrev bound : OpenedContext
  bound = replacing v.bundle l c v.results

  let_there : (B : Bundle) → Longer b B → Stands V₀ B (block t l vs ns u)
  let_there B later = stands_kept V₀ later old.formed.tables (block t l vs ns u) stands

  bound_lists : ListsFormed v.bundle vs v.results
  bound_lists =
      let here = let_lists v.bundle ih.checked.formed.tables t vs (numbers_of ns) (tree v.bundle (number u)) (let_there v.bundle longer).0 in
      record { some = here.some; different = here.different; sorts = here.sorts ∙ sym (done_sorts ih.done) }

  block_opens : Opens V₀ N bound (λ x. first (lookup vs v.results x) (image v.bundle c x))
  block_opens =
      let binds = (let_there v.bundle longer).1 in
      replacing_opens v.bundle c ih.checked (substitutes_kept s longer old.formed (λ x n. n) s.itself) l vs v.results
      binds.start binds.list binds.variables bound_lists (done_results ih.done)
      (λ x n. not_listed v.bundle x vs v.results (out x n))

  -- the body's free variables are the let's, and those of its list
  block_covers : (τs : Terms) (τ : Term) → Covers b c (let_in vs τs τ) → Covers bound.bundle bound.context τ
  block_covers τs τ covers x f =
      let (r, e) = lookup_covers v.bundle vs v.results x (image v.bundle c x) bound_lists.sorts
      (λ out. let (r, e) = covers x (inr (out, f)) in (r, image_stays longer old.formed c s.here x e)) in
      (r, block_opens.images x ∙ e)

  -- ---- its step: LET

  -- w is what the visit to the body leaves
  module _ (covers : Covers b c (tree b t)) (w : Visit) (on : Longer bound.bundle w.bundle) (body : Visited N bound.context (number u) w) where
    from_bound : Longer v.bundle w.bundle
    from_bound = longer_trans (replacing_longer v.bundle l c v.results) on

    let_since : Longer b w.bundle
    let_since = longer_trans longer from_bound

    let_instance : (B : Bundle) → Longer w.bundle B → WellFormed B
        → Instance B (rule_of 5) c (tree B t) (tree B w.result) (v.steps ++ (w.step ∷ []))
    unfolding rule_of
    let_instance B later well =
        let binds = (let_there v.bundle longer).1 in
        by_let refl vs (gather (tree B) (numbers_of ns)) (gather (tree B) v.results) (tree B (number u)) v.steps w.step bound.context
        (let_there B (longer_trans let_since later)).0.1 refl
        (say_all (done_all_kept (longer_trans from_bound later) ih.checked.formed.tables ih.done))
        (done_says (done_kept later body.checked.formed.tables body.done))
        (replacing_says v.bundle l c vs v.results ih.checked.formed.tables binds.start binds.list (longer_trans on later))

    block_visited : Visited N c t (concluded w.bundle 5 c t w.result (v.steps ++ (w.step ∷ [])))
    unfolding sort
    block_visited =
        conclude w.bundle 5 c t w.result (v.steps ++ (w.step ∷ [])) body.checked (omega (arith, s.here, (sizes let_since).contexts))
        (let_there w.bundle let_since).0.0 body.done.result
        (body.done.sorted ∙ sym (ap (sort w.bundle) (let_there w.bundle let_since).0.1))
        (left_scope old s let_since t stands.0.0.1 covers) (open_scope old s let_since)
        (all_snoc (Number (length w.bundle.steps)) v.steps w.step
        (all_map (λ k n. (n.0, omega (arith, n.1, (sizes from_bound).steps))) v.steps (done_steps ih.done)) body.done.step)
        let_instance (λ B later well. not_refl 5 (λ e. omega arith))

-- ---- THE INDUCTION

-- under a choice of names, for the job j
module _ (names : Names) (j : Bundle) where
  abbrev pub V₀ : ℕ
  V₀ = length j.variables

  -- z is kept, and the term that binds it is not below m: it is being visited
  pub record KeptOpen (m z : ℕ) : Type 0 where
    pub kept : keeps names j z ≡ true
    pub term : ℕ
    pub above : m ≤ term
    pub bound : BindsAt j term z

  -- What may be free in a result while terms below m are visited: new variables, and kept ones whose binder is being visited.
  abbrev pub Open : ℕ → (ℕ → Type 0) → Type 0
  Open m N = (z : ℕ) → N z → (V₀ < z) ⊎ KeptOpen m z

  pub open_lower : {N : ℕ → Type 0} (m m' : ℕ) → m' ≤ m → Open m N → Open m' N
  open_lower {N} m m' le may z h = go (may z h)
    where
      go : (V₀ < z) ⊎ KeptOpen m z → (V₀ < z) ⊎ KeptOpen m' z
      go (inl l) = inl l
      go (inr k) = inr (record { kept = k.kept; term = k.term; above = omega (arith, k.above); bound = k.bound })

  -- A variable that a term below m binds is free in no result: if it is kept, no other term binds it, and that one is not being visited.
  pub not_open : {N : ℕ → Type 0} (m t x : ℕ) → t < m → Number V₀ x → BindsAt j t x → Open m N → N x → ⊥
  not_open {N} m t x low nx bound may h = go (may x h)
    where
      go : (V₀ < x) ⊎ KeptOpen m x → ⊥
      go (inl l) = omega (arith, nx.1)
      go (inr k) =
          let once = kept_bound names j x k.kept in
          let same : t ≡ k.term = once.alone t bound ∙ sym (once.alone k.term k.bound) in
          omega (arith, k.above)

  -- A let's variables are free in no result, since they are not kept.
  not_in_let : {N : ℕ → Type 0} (m t : ℕ) (vs : List ℕ) → All (Number V₀) vs → All (ListsAt j t) vs → Open m N → (z : ℕ) → N z → Among z vs → ⊥
  not_in_let m t [] numbers listed may z h among = among
  not_in_let {N} m t (v ∷ vs) numbers listed may z h (inl e) = go (may z h)
    where
      go : (V₀ < z) ⊎ KeptOpen m z → ⊥
      go (inl l) = omega (arith, numbers.0.1, e)
      go (inr k) = (kept_bound names j z k.kept).unlisted t (subst (ListsAt j t) (sym e) listed.0)
  not_in_let m t (v ∷ vs) numbers listed may z h (inr among) = not_in_let m t vs numbers.1 listed.1 may z h among

  -- the variable of a binder's result, by the choice
  pub named_by : {N : ℕ → Type 0} (kept : Bool) (b : Bundle) (c x : ℕ) → Checked b → Substitutes V₀ N b c → Number V₀ x → (N x → ⊥)
      → NamedAs b c x (name_of kept b x) (named kept b x)
  named_by true b c x old s nx out = kept_named b c x old s nx out
  named_by false b c x old s nx out = new_named b c x old s nx

  -- what may be free in a result of the body
  pub open_body : {N : ℕ → Type 0} (kept : Bool) (b : Bundle) (m t x : ℕ) → keeps names j x ≡ kept → V₀ ≤ length b.variables → t < m → BindsAt j t x
      → Open m N → Open t (And N (name_of kept b x))
  open_body kept b m t x k grown low bound may z (inl h) = open_lower m t (omega arith) may z h
  open_body true b m t x k grown low bound may z (inr e) =
      inr (record { kept = ap (keeps names j) e ∙ k; term = t; above = omega arith; bound = subst (BindsAt j t) (sym e) bound })
  open_body false b m t x k grown low bound may z (inr e) = inl (omega arith)

  mutual
    unfolding visit gather

    pub visit_visited : (τ : Node) {N : ℕ → Type 0} (m : ℕ) (b : Bundle) (c : ℕ) → Checked b → Substitutes V₀ N b c → Stands V₀ b τ
        → Covers b c (tree b (number τ)) → Falls j m τ → Open m N → Visited N c (number τ) (visit (keeps names j) τ c b)
    visit_visited (leaf t x) m b c old s stands covers falls may = leaf_visited b c t x old s stands covers
    visit_visited (node t f ns) m b c old s stands covers falls may =
        node_visited b c t f ns old s stands covers (visit_all (keeps names j) ns c b) (visit_all_longer (keeps names j) ns c b)
        (visit_all_visited ns t b c old s stands.1 (rw stands.0.1 at covers) falls.1 (open_lower m t (omega (arith, falls.0)) may))
    visit_visited (scope t q x u) m b c old s stands covers falls may =
        let kept : Bool = keeps names j x in
        let y : ℕ = name_of kept b x in
        let p : PlacedTerm = named kept b x in
        let o = open_binder kept b x c in
        let out = not_open m t x falls.0 stands.1 falls.1 may in
        let name : NamedAs b c x y p = named_by kept b c x old s stands.1 out in
        let opens = binder_opens b c x y p old s stands.1 name out in
        binder_visited b c x y p old s stands.1 name out t q u stands covers (visit (keeps names j) u o.context o.bundle)
        (visit_longer (keeps names j) u o.context o.bundle)
        (visit_visited u t o.bundle o.context opens.checked opens.substitutes
        (stands_kept V₀ (open_longer kept b x c) old.formed.tables u stands.2)
        (subst (Covers o.bundle o.context) (sym (tree_kept (open_longer kept b x c) old.formed.tables (number u) (stands_term V₀ b u stands.2).1))
        (binder_covers b c x y p old s stands.1 name out q (tree b (number u)) (rw stands.0.1 at covers)))
        falls.2 (open_body kept b m t x refl s.job falls.0 falls.1 may))
    visit_visited (block t l vs ns u) {N} m b c old s stands covers falls may =
        let v = visit_all (keeps names j) ns c b in
        let longer = visit_all_longer (keeps names j) ns c b in
        let all : Covers b c (let_in vs (gather (tree b) (numbers_of ns)) (tree b (number u))) = rw stands.0.1 at covers in
        let still : Open t N = open_lower m t (omega (arith, falls.0)) may in
        let ih : VisitedAll N c (numbers_of ns) v = visit_all_visited ns t b c old s stands.2 (λ x f. all x (inl f)) falls.2 still in
        let o = replacing v.bundle l c v.results in
        let out = not_in_let m t vs stands.1.variables falls.1 may in
        let opens = block_opens b c t l vs ns u old s out stands v longer ih in
        let since : Longer b o.bundle = longer_trans longer (replacing_longer v.bundle l c v.results) in
        block_visited b c t l vs ns u old s out stands v longer ih covers (visit (keeps names j) u o.context o.bundle)
        (visit_longer (keeps names j) u o.context o.bundle)
        (visit_visited u t o.bundle o.context opens.checked opens.substitutes (stands_kept V₀ since old.formed.tables u stands.3)
        (subst (Covers o.bundle o.context) (sym (tree_kept since old.formed.tables (number u) (stands_term V₀ b u stands.3).1))
        (block_covers b c t l vs ns u old s out stands v longer ih (gather (tree b) (numbers_of ns)) (tree b (number u)) all)) falls.3 still)

    pub visit_all_visited : (ns : Nodes) {N : ℕ → Type 0} (m : ℕ) (b : Bundle) (c : ℕ) → Checked b → Substitutes V₀ N b c → Stand V₀ b ns
        → CoverAll b c (gather (tree b) (numbers_of ns)) → FallAll j m ns → Open m N → VisitedAll N c (numbers_of ns) (visit_all (keeps names j) ns c b)
    visit_all_visited nil m b c old s stand covers falls may = record { checked = old; done = done_none }
    visit_all_visited (cons τ ns) {N} m b c old s stand covers falls may =
        let v = visit (keeps names j) τ c b in
        let longer = visit_longer (keeps names j) τ c b in
        let head : Visited N c (number τ) v = visit_visited τ m b c old s stand.0 (λ x f. covers x (inl f)) falls.0 may in
        let tail : VisitedAll N c (numbers_of ns) (visit_all (keeps names j) ns c v.bundle) =
        visit_all_visited ns m v.bundle c head.checked (substitutes_kept s longer old.formed (λ x n. n) s.itself)
        (stand_kept V₀ longer old.formed.tables ns stand.1)
        (rw (gather_kept longer old.formed.tables (numbers_of ns) (stand_terms V₀ b ns stand.1))
        (λ x f. let (r, e) = covers x (inr f) in (r, image_stays longer old.formed c s.here x e))) falls.1 may in
        record {
          checked = tail.checked;
          done = done_more (done_kept (visit_all_longer (keeps names j) ns c v.bundle) head.checked.formed.tables head.done) tail.done;
        }
