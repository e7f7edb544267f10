-- Later records change no walk of whole-term REFL between earlier terms.
--     pair_walk_kept     THE THEOREM
use mathlib.Core.Path.{◌≡◌, refl, sym, ap, ap₂, ◌∙◌, subst}
use Prim.Native.Nat.{ℕ, zero, suc, ◌≤◌}
use mathlib.Core.Bool.{Bool, true, false, cond, not, ◌&&◌}
use mathlib.Core.List.{List, [], ◌∷◌}
use native.Mathlib.Omega.{arith}
use lib.ListN.{length}
use lib.Dec.{eqb}
use borrow.Author.Tests.{eqb-true}
use Rattle.bundle.specs.Bundle.{Bundle, TermRecord, term_of}
use Rattle.bundle.specs.Links.{items}
use Rattle.bundle.specs.Lists.{each, has}
use Rattle.logic.specs.declared.Image.{Image}
use Rattle.logic.specs.declared.Image.TheVariants.{Own, Gives}
use Rattle.logic.specs.Lists.{All, Number}
use Rattle.logic.specs.Terms.{Binder, Kind, kind_of, application, binder, letting}
use Rattle.logic.specs.Free.{free_at}
use Rattle.logic.specs.Contexts.{image}
use Rattle.logic.specs.WellFormed.{Lower, TermFormed, a_variable, an_application, a_binder, a_let, WellFormed}
use Rattle.logic.specs.Longer.{Longer}
use Rattle.logic.specs.ReflWalk.{Crossed, lefts, rights, cross_all, meets, sorts_meet, all_sorts_meet, image_is, bound_meets, free_meets, variable_meets, application_meets, binder_meets, let_meets, PairWalk, one_pair, pair_then, and_then, lists_walk, pair_walk_as, pair_walk_of, pair_walk}
use Rattle.logic.specs.Statements.{PairWalkKept}
use Rattle.logic.proofs.Tests.{and_left}
use Rattle.logic.proofs.TermNumbers.{IsTerm, app_args, bind_body, let_parts}
use Rattle.logic.proofs.Shapes.{formed_before}
use Rattle.logic.proofs.Crossings.{bound_variables}
use Rattle.logic.proofs.Kept.{known_kept, variable_kept, term_kept, items_kept, free_kept, arguments_kept, let_lists_kept, image_kept}
use Rattle.logic.proofs.FormedKept.{term_formed_kept}
use Rattle.logic.proofs.ReflWalk.{walk_here}

-- ---- tests and walks of which one part is read only where another holds

and_kept : (p p' q q' : Bool) → p' ≡ p → (p ≡ true → q' ≡ q) → (p' && q') ≡ (p && q)
and_kept true p' q q' e h = ap₂ ◌&&◌ e (h refl)
and_kept false p' q q' e h = ap (λ (o : Bool). o && q') e

pair_kept : (p p' : Bool) (w w' : PairWalk) → p' ≡ p → (p ≡ true → w' ≡ w) → pair_then p' w' ≡ pair_then p w
unfolding pair_then
pair_kept true p' w w' e h = ap₂ pair_then e (h refl)
pair_kept false p' w w' e h = ap (λ (o : Bool). pair_then o w') e

module _ {b b' : Bundle} (more : Longer b b') (well : WellFormed b) (c : ℕ) (in_range : c ≤ length b.contexts) where
  abbrev formed : (i : ℕ) → IsTerm b i → TermFormed b i
  formed = well.tables.terms

  -- the walk from term l is the same in both
  abbrev Kept : ℕ → Type 0
  Kept l = (ps : Crossed) (r : ℕ) → IsTerm b r → pair_walk b' c l ps r ≡ pair_walk b c l ps r

  lists_kept : (ps : Crossed) (ls rs : List ℕ) → All Kept ls → All (IsTerm b) rs → lists_walk (pair_walk b' c) ps ls rs ≡ lists_walk (pair_walk b c) ps ls rs
  unfolding lists_walk
  lists_kept ps [] [] h n = refl
  lists_kept ps [] (r ∷ rs) h n = refl
  lists_kept ps (l ∷ ls) [] h n = refl
  lists_kept ps (l ∷ ls) (r ∷ rs) h n = ap₂ and_then (h.0 ps r n.0) (lists_kept ps ls rs h.1 n.1)

  -- ---- sorts

  sorts_kept : (x y : ℕ) → Number (length b.variables) x → Number (length b.variables) y → sorts_meet b' x y ≡ sorts_meet b x y
  unfolding sorts_meet
  sorts_kept x y nx ny =
      ap₂ ◌&&◌ (ap₂ ◌&&◌ (known_kept more well.tables x nx) (known_kept more well.tables y ny)) (ap₂ eqb (variable_kept more x nx.1) (variable_kept more y ny.1))

  all_sorts_kept : (xs ys : List ℕ) → All (Number (length b.variables)) xs → All (Number (length b.variables)) ys
      → all_sorts_meet b' xs ys ≡ all_sorts_meet b xs ys
  unfolding all_sorts_meet
  all_sorts_kept [] [] nx ny = refl
  all_sorts_kept [] (y ∷ ys) nx ny = refl
  all_sorts_kept (x ∷ xs) [] nx ny = refl
  all_sorts_kept (x ∷ xs) (y ∷ ys) nx ny = ap₂ ◌&&◌ (sorts_kept x y nx.0 ny.0) (all_sorts_kept xs ys nx.1 ny.1)

  -- ---- records, by their kinds

  module _ (ps : Crossed) (r : ℕ) (n : IsTerm b r) where
    o : TermRecord
    o = term_of b r

    t : term_of b' r ≡ term_of b r
    t = term_kept more r n.1

    image_is_kept : (g : Image) (x : ℕ) → image_is b' g x r ≡ image_is b g x r
    unfolding image_is
    image_is_kept Own x = λ i. eqb (t i).kind 1 && eqb (t i).a x
    image_is_kept (Gives u) x = refl

    variable_same : (x : ℕ) → variable_meets (free_at b') (image b' c) b' ps x r ≡ variable_meets (free_at b) (image b c) b ps x r
    unfolding variable_meets bound_meets free_meets
    variable_same x = λ i.
        cond (has x (lefts ps)) (eqb (t i).kind 1 && meets ps x (t i).a)
        (is i && each (λ y. not (free_kept more well.tables r n.1 i y)) (rights ps))
      where
        is : image_is b' (image b' c x) x r ≡ image_is b (image b c x) x r
        is = (λ i. image_is b' (image_kept more well c in_range i x) x r) ∙ image_is_kept (image b c x) x

    application_same : (f s : ℕ) → s ≤ length b.links → All Kept (items b s)
        → pair_walk_as (free_at b') (image b' c) b' application (pair_walk b' c) (record { kind = 2; a = f; b = s; c = 0 }) ps r
        ≡ pair_walk_as (free_at b) (image b c) b application (pair_walk b c) (record { kind = 2; a = f; b = s; c = 0 }) ps r
    unfolding pair_walk_as application_meets o
    application_same f s start h =
        pair_kept (eqb o.kind 2 && eqb f o.a) (eqb (term_of b' r).kind 2 && eqb f (term_of b' r).a)
        (lists_walk (pair_walk b c) ps (items b s) (items b o.b)) (lists_walk (pair_walk b' c) ps (items b' s) (items b' (term_of b' r).b))
        (λ i. eqb (t i).kind 2 && eqb f (t i).a)
        (λ e. let k : o.kind ≡ 2 = eqb-true o.kind 2 (and_left (eqb o.kind 2) (eqb f o.a) e) in
        ap₂ (lists_walk (pair_walk b' c) ps) (items_kept more well.tables s start)
        (ap (λ (u : TermRecord). items b' u.b) t ∙ arguments_kept more well.tables r k)
        ∙ lists_kept ps (items b s) (items b o.b) h (app_args b well.tables r n k))

    binder_same : (q : Binder) (k x u : ℕ) → kind_of k ≡ binder q → Number (length b.variables) x → Kept u
        → pair_walk_as (free_at b') (image b' c) b' (binder q) (pair_walk b' c) (record { kind = k; a = x; b = u; c = 0 }) ps r
        ≡ pair_walk_as (free_at b) (image b c) b (binder q) (pair_walk b c) (record { kind = k; a = x; b = u; c = 0 }) ps r
    unfolding pair_walk_as binder_meets o
    binder_same q k x u k-is nx h =
        pair_kept (kinds o.kind && sorts) (kinds (term_of b' r).kind && sorts')
        (pair_walk b c u ((x, o.a) ∷ ps) o.b) (pair_walk b' c u ((x, (term_of b' r).a) ∷ ps) (term_of b' r).b)
        (and_kept (kinds o.kind) (kinds (term_of b' r).kind) sorts sorts' (λ i. kinds (t i).kind)
        (λ e. ap (λ (v : TermRecord). sorts_meet b' x v.a) t ∙ sorts_kept x o.a nx ((bound_variables b r (formed r n)).0 q (is e))))
        (λ e. (λ i. pair_walk b' c u ((x, (t i).a) ∷ ps) (t i).b) ∙ h ((x, o.a) ∷ ps) o.b (bind_body b well.tables r q n (is (and_left (kinds o.kind) sorts e))))
      where
        kinds : ℕ → Bool
        kinds n = eqb n k

        sorts : Bool
        sorts = sorts_meet b x o.a

        sorts' : Bool
        sorts' = sorts_meet b' x (term_of b' r).a

        is : kinds o.kind ≡ true → kind_of o.kind ≡ binder q
        is e = ap kind_of (eqb-true o.kind k e) ∙ k-is

    let_same : (vs ts u : ℕ) → vs ≤ length b.links → All (Number (length b.variables)) (items b vs) → ts ≤ length b.links
        → All Kept (items b ts) → Kept u
        → pair_walk_as (free_at b') (image b' c) b' letting (pair_walk b' c) (record { kind = 5; a = vs; b = ts; c = u }) ps r
        ≡ pair_walk_as (free_at b) (image b c) b letting (pair_walk b c) (record { kind = 5; a = vs; b = ts; c = u }) ps r
    unfolding pair_walk_as let_meets o
    let_same vs ts u start-v nv start-t hs h =
        pair_kept ((eqb o.kind 5 && sorts) && many) ((eqb (term_of b' r).kind 5 && sorts') && many')
        (and_then (lists_walk (pair_walk b c) ps (items b ts) (items b o.b)) (pair_walk b c u (cross_all (items b vs) (items b o.a) ps) o.c))
        (and_then (lists_walk (pair_walk b' c) ps (items b' ts) (items b' (term_of b' r).b))
        (pair_walk b' c u (cross_all (items b' vs) (items b' (term_of b' r).a) ps) (term_of b' r).c))
        (and_kept (eqb o.kind 5 && sorts) (eqb (term_of b' r).kind 5 && sorts') many many'
        (and_kept (eqb o.kind 5) (eqb (term_of b' r).kind 5) sorts sorts' (λ i. eqb (t i).kind 5) (λ e. same_sorts (eqb-true o.kind 5 e)))
        (λ e. ap₂ (λ (xs ys : List ℕ). eqb (length xs) (length ys)) (items_kept more well.tables ts start-t) vars))
        (λ e. same_parts (eqb-true o.kind 5 (and_left (eqb o.kind 5) sorts (and_left (eqb o.kind 5 && sorts) many e))))
      where
        sorts : Bool
        sorts = all_sorts_meet b (items b vs) (items b o.a)

        sorts' : Bool
        sorts' = all_sorts_meet b' (items b' vs) (items b' (term_of b' r).a)

        many : Bool
        many = eqb (length (items b ts)) (length (items b vs))

        many' : Bool
        many' = eqb (length (items b' ts)) (length (items b' vs))

        vars : items b' vs ≡ items b vs
        vars = items_kept more well.tables vs start-v

        vars_r : o.kind ≡ 5 → items b' (term_of b' r).a ≡ items b o.a
        vars_r k = ap (λ (v : TermRecord). items b' v.a) t ∙ (let_lists_kept more well.tables r k).0

        bounds_r : o.kind ≡ 5 → items b' (term_of b' r).b ≡ items b o.b
        bounds_r k = ap (λ (v : TermRecord). items b' v.b) t ∙ (let_lists_kept more well.tables r k).1

        same_sorts : o.kind ≡ 5 → sorts' ≡ sorts
        same_sorts k =
            ap₂ (all_sorts_meet b') vars (vars_r k)
            ∙ all_sorts_kept (items b vs) (items b o.a) nv ((bound_variables b r (formed r n)).1 k).variables

        same_parts : o.kind ≡ 5
            → and_then (lists_walk (pair_walk b' c) ps (items b' ts) (items b' (term_of b' r).b))
            (pair_walk b' c u (cross_all (items b' vs) (items b' (term_of b' r).a) ps) (term_of b' r).c)
            ≡ and_then (lists_walk (pair_walk b c) ps (items b ts) (items b o.b)) (pair_walk b c u (cross_all (items b vs) (items b o.a) ps) o.c)
        same_parts k =
            ap₂ and_then
            (ap₂ (lists_walk (pair_walk b' c) ps) (items_kept more well.tables ts start-t) (bounds_r k)
            ∙ lists_kept ps (items b ts) (items b o.b) hs (let_parts b well.tables r n k).1)
            ((λ i. pair_walk b' c u (cross_all (vars i) (vars_r k i) ps) (t i).c)
            ∙ h (cross_all (items b vs) (items b o.a) ps) o.c (let_parts b well.tables r n k).0)

  -- ---- all terms, by their numbers

  kept_of : (l : ℕ) → IsTerm b l → (s : TermRecord) → term_of b l ≡ s
      → ((ps : Crossed) (r : ℕ) → IsTerm b r → pair_walk_of (free_at b') (image b' c) b' (pair_walk b' c) s ps r ≡ pair_walk_of (free_at b) (image b c) b (pair_walk b c) s ps r) → Kept l
  kept_of l m s e h ps r n =
      let here : pair_walk b c l ≡ pair_walk_of (free_at b) (image b c) b (pair_walk b c) s = walk_here (free_at b) (image b c) b l (formed_before b l (formed l m)) ∙ ap (pair_walk_of (free_at b) (image b c) b (pair_walk b c)) e in
      let there : pair_walk b' c l ≡ pair_walk_of (free_at b') (image b' c) b' (pair_walk b' c) s =
      walk_here (free_at b') (image b' c) b' l (formed_before b' l (term_formed_kept more well.tables l m)) ∙ ap (pair_walk_of (free_at b') (image b' c) b' (pair_walk b' c)) (term_kept more l m.1 ∙ e) in
      (λ i. there i ps r) ∙ h ps r n ∙ (λ i. sym here i ps r)

  all_lower : (l : ℕ) → ((i : ℕ) → Lower l i → Kept i) → (ts : List ℕ) → All (Lower l) ts → All Kept ts
  all_lower l ih [] h = tt
  all_lower l ih (u ∷ us) h = (ih u h.0, all_lower l ih us h.1)

  formed_kept : (l : ℕ) → IsTerm b l → TermFormed b l → ((i : ℕ) → Lower l i → Kept i) → Kept l
  unfolding pair_walk_of pair_walk_as kind_of
  formed_kept l m (a_variable x e n) ih =
      kept_of l m (record { kind = 1; a = x; b = 0; c = 0 }) e (λ ps r nr. ap one_pair (variable_same ps r nr x))
  formed_kept l m (an_application g s e k st low sorts) ih =
      kept_of l m (record { kind = 2; a = g; b = s; c = 0 }) e (λ ps r nr. application_same ps r nr g s st (all_lower l ih (items b s) low))
  formed_kept l m (a_binder q k x u e h n low sorts) ih =
      let s : TermRecord = record { kind = k; a = x; b = u; c = 0 } in
      kept_of l m s e
      (λ ps r nr.
      subst (λ (κ : Kind). pair_walk_as (free_at b') (image b' c) b' κ (pair_walk b' c) s ps r ≡ pair_walk_as (free_at b) (image b c) b κ (pair_walk b c) s ps r) (sym h) (binder_same ps r nr q k x u h n (ih u low)))
  formed_kept l m (a_let vs ts u e sv nv st lows low lists) ih =
      kept_of l m (record { kind = 5; a = vs; b = ts; c = u }) e
      (λ ps r nr. let_same ps r nr vs ts u sv nv st (all_lower l ih (items b ts) lows) (ih u low))

  up_to_lem : (k l : ℕ) → l ≤ k → IsTerm b l → Kept l
  up_to_lem zero l le m = absurd (omega arith)
  up_to_lem (suc k) l le m = formed_kept l m (formed l m) (λ i low. up_to_lem k i (omega arith) (low.0, omega arith))

-- THE THEOREM
pub pair_walk_kept : PairWalkKept
pair_walk_kept b b' well more c l r in_range hl hr crossed = up_to_lem more well c in_range l l (omega arith) hl crossed r hr
