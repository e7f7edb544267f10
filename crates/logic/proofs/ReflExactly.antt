-- The walk of whole-term REFL ends with no difference exactly where the right side is the left side's capture-avoiding replacement.
--     pair_same, then_same            when a walk of parts ends with no difference
--     variable_exactly, lists_exactly, application_exactly, binder_exactly, let_exactly     the walk from a record, by its kind
--     walk_meets                      the walk ends with no difference exactly where the trees meet, whatever binders are crossed
--     pair_walk_exactly                    THE THEOREM
use mathlib.Core.Path.{◌≡◌, refl, sym, ap, ◌∙◌, subst}
use Prim.Native.Nat.{ℕ, zero, suc, ◌≤◌}
use mathlib.Core.Bool.{Bool, true, false, cond, not, ◌&&◌, false≢true}
use mathlib.Core.Logic.Iff
use mathlib.Core.Logic.{inl, inr, ◌↔◌}
use mathlib.Core.List.{List, [], ◌∷◌, ◌++◌, map}
use native.Mathlib.Omega.{arith}
use lib.ListN.{length}
use lib.Dec.{eqb}
use borrow.Author.Tests.{eqb-true, eq-eqb}
use Rattle.std.proofs.lemmas.Bool.{and_from}
use Rattle.std.proofs.lemmas.Bool.Decides.{Decides-and, Decides-not}
use Rattle.bundle.specs.Bundle.{Bundle, TermRecord, term_of, sort_of_variable}
use Rattle.bundle.specs.Links.{items}
use Rattle.bundle.specs.Lists.{each, has}
use Rattle.logic.specs.declared.Image.{Image}
use Rattle.logic.specs.declared.Image.TheVariants.{Own, Gives}
use Rattle.logic.specs.Lists.{Among, All, Number}
use Rattle.logic.specs.Terms.{Binder, Term, Terms, var, app, bind, let_in, none, more, Kind, kind_of, application, binder, letting, gather, tree}
use Rattle.logic.specs.Free.{Free, free_at}
use Rattle.logic.specs.Contexts.{image, tree_of_image, image_tree}
use Rattle.logic.specs.Distinct.{Distinct}
use Rattle.logic.specs.WellFormed.{Lower, TermFormed, a_variable, an_application, a_binder, a_let, TablesFormed, WellFormed}
use Rattle.logic.specs.ReflWalk.{Crossed, lefts, rights, cross_all, meets, sorts_meet, all_sorts_meet, bound_meets, image_is, free_meets, variable_meets, application_meets, binder_meets, let_meets, PairWalk, pair_then, and_then, lists_walk, pair_walk_as, pair_walk_of, pair_walk}
use Rattle.logic.specs.Statements.{PairWalkExactly}
use Rattle.logic.proofs.Tests.{and_left, and_right}
use Rattle.logic.proofs.TermKinds.{binder_kind}
use Rattle.logic.proofs.Exactly.{each_exactly}
use Rattle.logic.proofs.FreeSettled.{is_variable_exactly, free_at_exactly}
use Rattle.logic.proofs.Formed.{tables_formed_distinct, tree_variable, tree_application, tree_binder, tree_let}
use Rattle.logic.proofs.TermNumbers.{IsTerm, same, of_kind, app_args, bind_body, let_parts, app_fields, bind_fields, let_fields, ImageTerm, image_term_lem}
use Rattle.logic.proofs.Shapes.{formed_before}
use Rattle.logic.proofs.Meets.{zero_one, pair_up, place_has, meets_place, VariableMeets, Meets, MeetsAll, meets_exactly}
use Rattle.logic.proofs.Crossings.{LetBinds, bound_variables, sorts_meet_lem, sorts_met, all_sorts_meet_lem, all_sorts_met, cross_meets}
use Rattle.logic.proofs.ReflWalk.{walk_here}

-- ---- walks of parts

pub pair_same : (p : Bool) (w : PairWalk) → ((pair_then p w).same ≡ true) ↔ ((p ≡ true) × (w.same ≡ true))
unfolding pair_then
pair_same true w = (λ e. (refl, e), λ h. h.1)
pair_same false w = (λ e. absurd (false≢true e), λ h. h.0)

then_of : (n : ℕ) (p : Bool) (w : PairWalk) → ((and_then (record { pairs = n; same = p }) w).same ≡ true) ↔ ((p ≡ true) × (w.same ≡ true))
unfolding and_then
then_of n true w = (λ e. (refl, e), λ h. h.1)
then_of n false w = (λ e. absurd (false≢true e), λ h. h.0)

pub then_same : (v w : PairWalk) → ((and_then v w).same ≡ true) ↔ ((v.same ≡ true) × (w.same ≡ true))
then_same v w = then_of v.pairs v.same w

-- ---- lists

module _ (P : ℕ → Type 0) where
  among_all : (xs : List ℕ) → All P xs → (x : ℕ) → Among x xs → P x
  among_all [] h x m = absurd m
  among_all (y ∷ ys) h x (inl e) = subst P (sym e) h.0
  among_all (y ∷ ys) h x (inr m) = among_all ys h.1 x m

  all_among : (xs : List ℕ) → ((x : ℕ) → Among x xs → P x) → All P xs
  all_among [] h = tt
  all_among (x ∷ xs) h = (h x (inl refl), all_among xs (λ y m. h y (inr m)))

module _ (b : Bundle) (well : WellFormed b) (c : ℕ) where
  abbrev formed : TablesFormed b
  formed = well.tables

  abbrev distinct : Distinct b
  distinct = tables_formed_distinct b formed

  abbrev MeetAt : Crossed → Term → ℕ → Type 0
  MeetAt ps l r = Meets b (image_tree b c) ps l (tree b r)

  -- the walk from term l ends with no difference exactly where the trees meet
  abbrev Exact : ℕ → Type 0
  Exact l = (ps : Crossed) (r : ℕ) → IsTerm b r → ((pair_walk b c l ps r).same ≡ true) ↔ MeetAt ps (tree b l) r

  -- ---- variables

  image_is_exactly : (i : Image) (x r : ℕ) → ImageTerm b i → IsTerm b r → (image_is b i x r ≡ true) ↔ (tree b r ≡ tree_of_image b i x)
  unfolding image_is tree_of_image
  image_is_exactly Own x r h n = is_variable_exactly b r x
  image_is_exactly (Gives t) x r h n = (λ e. ap (tree b) (sym (eqb-true t r e)), λ e. eq-eqb t r (same b distinct t r h n (sym e)))

  free_meets_exactly : (ps : Crossed) (x r : ℕ) → IsTerm b r
      → (free_meets (free_at b) (image b c) b ps x r ≡ true) ↔ ((tree b r ≡ image_tree b c x) × ((y : ℕ) → Among y (rights ps) → Free y (tree b r) → ⊥))
  unfolding free_meets image_tree
  free_meets_exactly ps x r n =
      Decides-and (image_is b (image b c x) x r) (each (λ y. not (free_at b r y)) (rights ps)) (image_is_exactly (image b c x) x r (image_term_lem b well c x) n) (Iff.trans
      (each_exactly (λ y. not (free_at b r y)) (λ y. Free y (tree b r) → ⊥) (λ y. Decides-not (free_at b r y) (free_at_exactly b formed r y)) (rights ps))
      (among_all (λ y. Free y (tree b r) → ⊥) (rights ps), all_among (λ y. Free y (tree b r) → ⊥) (rights ps)))

  bound_meets_exactly : (ps : Crossed) (x r : ℕ) → (bound_meets b ps x r ≡ true) ↔ ((z : ℕ) × (tree b r ≡ var z) × (meets ps x z ≡ true))
  unfolding bound_meets
  bound_meets_exactly ps x r = (there, back)
    where
      s : TermRecord
      s = term_of b r

      there : (eqb s.kind 1 && meets ps x s.a) ≡ true → (z : ℕ) × (tree b r ≡ var z) × (meets ps x z ≡ true)
      there e = (
        s.a,
        (is_variable_exactly b r s.a).0
            (and_from (eqb s.kind 1) (eqb s.a s.a) (and_left (eqb s.kind 1) (meets ps x s.a) e) (eq-eqb s.a s.a refl)),
        and_right (eqb s.kind 1) (meets ps x s.a) e,
      )

      back : (z : ℕ) × (tree b r ≡ var z) × (meets ps x z ≡ true) → (eqb s.kind 1 && meets ps x s.a) ≡ true
      back (z, e, m) =
          let is : (eqb s.kind 1 && eqb s.a z) ≡ true = (is_variable_exactly b r z).1 e in
          let z-is : s.a ≡ z = eqb-true s.a z (and_right (eqb s.kind 1) (eqb s.a z) is) in
          and_from (eqb s.kind 1) (meets ps x s.a) (and_left (eqb s.kind 1) (eqb s.a z) is) (ap (meets ps x) z-is ∙ m)

  variable_exactly : (ps : Crossed) (x r : ℕ) → IsTerm b r → (variable_meets (free_at b) (image b c) b ps x r ≡ true) ↔ VariableMeets b (image_tree b c) ps x (tree b r)
  unfolding variable_meets
  variable_exactly ps x r n = go (has x (lefts ps)) refl
    where
      go : (p : Bool) → has x (lefts ps) ≡ p
          → (cond p (bound_meets b ps x r) (free_meets (free_at b) (image b c) b ps x r) ≡ true) ↔ VariableMeets b (image_tree b c) ps x (tree b r)
      go true h = (λ e. inl ((bound_meets_exactly ps x r).0 e), back)
        where
          back : VariableMeets b (image_tree b c) ps x (tree b r) → bound_meets b ps x r ≡ true
          back (inl m) = (bound_meets_exactly ps x r).1 m
          back (inr (out, e, m)) = absurd (false≢true (sym out ∙ h))
      go false h = (λ e. let (is, apart) = (free_meets_exactly ps x r n).0 e in inr (h, is, apart), back)
        where
          back : VariableMeets b (image_tree b c) ps x (tree b r) → free_meets (free_at b) (image b c) b ps x r ≡ true
          back (inl (z, e, m)) = let (i, left, right) = meets_place ps x z m in absurd (false≢true (sym h ∙ place_has (lefts ps) x i left))
          back (inr (out, e, m)) = (free_meets_exactly ps x r n).1 (e, m)

  -- ---- lists

  lists_exactly : (ps : Crossed) (ls rs : List ℕ) → All Exact ls → All (IsTerm b) rs
      → ((lists_walk (pair_walk b c) ps ls rs).same ≡ true) ↔ MeetsAll b (image_tree b c) ps (gather (tree b) ls) (gather (tree b) rs)
  unfolding lists_walk gather
  lists_exactly ps [] [] h n = (λ e. refl, λ e. refl)
  lists_exactly ps [] (r ∷ rs) h n = (λ e. absurd (false≢true e), λ e. zero_one cc)
  lists_exactly ps (l ∷ ls) [] h n = (λ e. absurd (false≢true e), λ m. let e : none ≡ more m.0 m.1 = m.2 in zero_one cc)
  lists_exactly ps (l ∷ ls) (r ∷ rs) h n =
      go (h.0 ps r n.0) (lists_exactly ps ls rs h.1 n.1) (then_same (pair_walk b c l ps r) (lists_walk (pair_walk b c) ps ls rs))
    where
      L : Terms
      L = gather (tree b) ls

      R : Terms
      R = gather (tree b) rs

      go : ((pair_walk b c l ps r).same ≡ true) ↔ MeetAt ps (tree b l) r
          → ((lists_walk (pair_walk b c) ps ls rs).same ≡ true) ↔ MeetsAll b (image_tree b c) ps L R
          → ((and_then (pair_walk b c l ps r) (lists_walk (pair_walk b c) ps ls rs)).same ≡ true)
          ↔ (((pair_walk b c l ps r).same ≡ true) × ((lists_walk (pair_walk b c) ps ls rs).same ≡ true))
          → ((and_then (pair_walk b c l ps r) (lists_walk (pair_walk b c) ps ls rs)).same ≡ true)
          ↔ MeetsAll b (image_tree b c) ps (more (tree b l) L) (more (tree b r) R)
      go first later both = (there, back)
        where
          there : (and_then (pair_walk b c l ps r) (lists_walk (pair_walk b c) ps ls rs)).same ≡ true
              → MeetsAll b (image_tree b c) ps (more (tree b l) L) (more (tree b r) R)
          there e = (tree b r, R, refl, first.0 (both.0 e).0, later.0 (both.0 e).1)

          back : MeetsAll b (image_tree b c) ps (more (tree b l) L) (more (tree b r) R)
              → (and_then (pair_walk b c l ps r) (lists_walk (pair_walk b c) ps ls rs)).same ≡ true
          back (v, vs, e, m, ms) =
              let v-is : v ≡ tree b r = cc in
              let vs-is : vs ≡ R = cc in
              both.1 (first.1 (subst (Meets b (image_tree b c) ps (tree b l)) v-is m), later.1 (subst (MeetsAll b (image_tree b c) ps L) vs-is ms))

  -- ---- records, by their kinds

  application_exactly : (f s : ℕ) → All Exact (items b s) → (ps : Crossed) (r : ℕ) → IsTerm b r
      → ((pair_walk_as (free_at b) (image b c) b application (pair_walk b c) (record { kind = 2; a = f; b = s; c = 0 }) ps r).same ≡ true)
      ↔ MeetAt ps (app f (gather (tree b) (items b s))) r
  unfolding pair_walk_as application_meets
  application_exactly f s h ps r n = (there, back)
    where
      o : TermRecord
      o = term_of b r

      met : Bool
      met = eqb o.kind 2 && eqb f o.a

      parts : PairWalk
      parts = lists_walk (pair_walk b c) ps (items b s) (items b o.b)

      there : (pair_then met parts).same ≡ true → MeetAt ps (app f (gather (tree b) (items b s))) r
      there e =
          let (m, w) = (pair_same met parts).0 e in
          let k : o.kind ≡ 2 = eqb-true o.kind 2 (and_left (eqb o.kind 2) (eqb f o.a) m) in
          let f-is : f ≡ o.a = eqb-true f o.a (and_right (eqb o.kind 2) (eqb f o.a) m) in (
            gather (tree b) (items b o.b),
            rw f-is (tree_application b formed r (of_kind b formed r k)),
            (lists_exactly ps (items b s) (items b o.b) h (app_args b formed r n k)).0 w,
          )

      back : MeetAt ps (app f (gather (tree b) (items b s))) r → (pair_then met parts).same ≡ true
      back (us, e, ms) =
          let (k, f-is, args) = app_fields b formed r f us n e in
          (pair_same met parts).1 (
            and_from (eqb o.kind 2) (eqb f o.a) (eq-eqb o.kind 2 k) (eq-eqb f o.a (sym f-is)),
            (lists_exactly ps (items b s) (items b o.b) h (app_args b formed r n k)).1 (rw args ms),
          )

  binder_exactly : (q : Binder) (k x t : ℕ) → kind_of k ≡ binder q → Number (length b.variables) x → Exact t → (ps : Crossed) (r : ℕ) → IsTerm b r
      → ((pair_walk_as (free_at b) (image b c) b (binder q) (pair_walk b c) (record { kind = k; a = x; b = t; c = 0 }) ps r).same ≡ true)
      ↔ MeetAt ps (bind q x (tree b t)) r
  unfolding pair_walk_as binder_meets
  binder_exactly q k x t is nx h ps r n = (there, back)
    where
      o : TermRecord
      o = term_of b r

      kinds : Bool
      kinds = eqb o.kind k

      sorts : Bool
      sorts = sorts_meet b x o.a

      body : PairWalk
      body = pair_walk b c t ((x, o.a) ∷ ps) o.b

      there : (pair_then (kinds && sorts) body).same ≡ true → MeetAt ps (bind q x (tree b t)) r
      there e =
          let (m, w) = (pair_same (kinds && sorts) body).0 e in
          let k-is : o.kind ≡ k = eqb-true o.kind k (and_left kinds sorts m) in (
            o.a,
            tree b o.b,
            tree_binder b formed r q (of_kind b formed r k-is) is,
            (sorts_meet_lem b x o.a (and_right kinds sorts m)).2,
            (h ((x, o.a) ∷ ps) o.b (bind_body b formed r q n (ap kind_of k-is ∙ is))).0 w,
          )

      back : MeetAt ps (bind q x (tree b t)) r → (pair_then (kinds && sorts) body).same ≡ true
      back (y, u, e, s, m) =
          let (o_is, y-is, u-is) = bind_fields b formed r q y u e in
          (pair_same (kinds && sorts) body).1 (
            and_from kinds sorts (eq-eqb o.kind k (binder_kind o.kind q o_is ∙ sym (binder_kind k q is)))
                (sorts_met b x o.a nx ((bound_variables b r (formed.terms r n)).0 q o_is) (s ∙ ap (sort_of_variable b) (sym y-is))),
            (h ((x, o.a) ∷ ps) o.b (bind_body b formed r q n o_is)).1 (rw (y-is, u-is) m),
          )

  let_exactly : (vs ts t : ℕ) → LetBinds b (record { kind = 5; a = vs; b = ts; c = t }) → All Exact (items b ts) → Exact t → (ps : Crossed) (r : ℕ) → IsTerm b r
      → ((pair_walk_as (free_at b) (image b c) b letting (pair_walk b c) (record { kind = 5; a = vs; b = ts; c = t }) ps r).same ≡ true)
      ↔ MeetAt ps (let_in (items b vs) (gather (tree b) (items b ts)) (tree b t)) r
  unfolding pair_walk_as let_meets
  let_exactly vs ts t binds hs h ps r n = (there, back)
    where
      o : TermRecord
      o = term_of b r

      kinds : Bool
      kinds = eqb o.kind 5

      sorts : Bool
      sorts = all_sorts_meet b (items b vs) (items b o.a)

      many : Bool
      many = eqb (length (items b ts)) (length (items b vs))

      parts : PairWalk
      parts = lists_walk (pair_walk b c) ps (items b ts) (items b o.b)

      body : PairWalk
      body = pair_walk b c t (cross_all (items b vs) (items b o.a) ps) o.c

      crossed : o.kind ≡ 5 → (u : Term)
          → Meets b (image_tree b c) (pair_up (items b vs) (items b o.a) ++ ps) (tree b t) u
          ↔ Meets b (image_tree b c) (cross_all (items b vs) (items b o.a) ps) (tree b t) u
      crossed k u =
          cross_meets b (image_tree b c) (items b vs) (items b o.a) ps binds.different ((bound_variables b r (formed.terms r n)).1 k).different
          (tree b t) u

      there : (pair_then ((kinds && sorts) && many) (and_then parts body)).same ≡ true
          → MeetAt ps (let_in (items b vs) (gather (tree b) (items b ts)) (tree b t)) r
      there e =
          let (m, w) = (pair_same ((kinds && sorts) && many) (and_then parts body)).0 e in
          let (ws, wb) = (then_same parts body).0 w in
          let met : (kinds && sorts) ≡ true = and_left (kinds && sorts) many m in
          let k : o.kind ≡ 5 = eqb-true o.kind 5 (and_left kinds sorts met) in
          let (nb, ns) = let_parts b formed r n k in (
            items b o.a,
            gather (tree b) (items b o.b),
            tree b o.c,
            tree_let b formed r (of_kind b formed r k),
            all_sorts_meet_lem b (items b vs) (items b o.a) (and_right kinds sorts met),
            (lists_exactly ps (items b ts) (items b o.b) hs ns).0 ws,
            (crossed k (tree b o.c)).1 ((h (cross_all (items b vs) (items b o.a) ps) o.c nb).0 wb),
          )

      back : MeetAt ps (let_in (items b vs) (gather (tree b) (items b ts)) (tree b t)) r
          → (pair_then ((kinds && sorts) && many) (and_then parts body)).same ≡ true
      back (ys, us, v, e, s, ms, m) =
          let (k, ys-is, us-is, v-is) = let_fields b formed r ys us v e in
          let (nb, ns) = let_parts b formed r n k in
          let right : LetBinds b (term_of b r) = (bound_variables b r (formed.terms r n)).1 k in
          (pair_same ((kinds && sorts) && many) (and_then parts body)).1 (
            and_from (kinds && sorts) many
                (and_from kinds sorts (eq-eqb o.kind 5 k)
                (all_sorts_met b (items b vs) (items b o.a) binds.variables right.variables (s ∙ ap (map (sort_of_variable b)) (sym ys-is))))
                (eq-eqb (length (items b ts)) (length (items b vs)) binds.as_many),
            (then_same parts body).1 (
              (lists_exactly ps (items b ts) (items b o.b) hs ns).1 (rw us-is ms),
              (h (cross_all (items b vs) (items b o.a) ps) o.c nb).1 ((crossed k (tree b o.c)).0 (rw (ys-is, v-is) m)),
            ),
          )

  -- ---- all terms, by their numbers

  exact_of : (l : ℕ) → TermFormed b l → (s : TermRecord) → term_of b l ≡ s → (t : Term) → tree b l ≡ t
      → ((ps : Crossed) (r : ℕ) → IsTerm b r → ((pair_walk_of (free_at b) (image b c) b (pair_walk b c) s ps r).same ≡ true) ↔ MeetAt ps t r) → Exact l
  exact_of l f s e t is h ps r n =
      let here : pair_walk b c l ≡ pair_walk_of (free_at b) (image b c) b (pair_walk b c) s = walk_here (free_at b) (image b c) b l (formed_before b l f) ∙ ap (pair_walk_of (free_at b) (image b c) b (pair_walk b c)) e in
      rw (here, is) (h ps r n)

  all_lower : (l : ℕ) → ((i : ℕ) → Lower l i → Exact i) → (ts : List ℕ) → All (Lower l) ts → All Exact ts
  all_lower l ih [] h = tt
  all_lower l ih (t ∷ ts) h = (ih t h.0, all_lower l ih ts h.1)

  formed_exactly : (l : ℕ) → TermFormed b l → ((i : ℕ) → Lower l i → Exact i) → Exact l
  unfolding pair_walk_of pair_walk_as kind_of
  formed_exactly l f ih = go f
    where
      go : TermFormed b l → Exact l
      go (a_variable x e n) =
          exact_of l f (record { kind = 1; a = x; b = 0; c = 0 }) e (var x) (tree_variable b formed l e) (λ ps r nr. variable_exactly ps x r nr)
      go (an_application g s e k st low sorts) =
          exact_of l f (record { kind = 2; a = g; b = s; c = 0 }) e (app g (gather (tree b) (items b s))) (tree_application b formed l e)
          (application_exactly g s (all_lower l ih (items b s) low))
      go (a_binder q k x t e h n low sorts) =
          let s : TermRecord = record { kind = k; a = x; b = t; c = 0 } in
          exact_of l f s e (bind q x (tree b t)) (tree_binder b formed l q e h)
          (λ ps r nr.
          subst (λ (κ : Kind). ((pair_walk_as (free_at b) (image b c) b κ (pair_walk b c) s ps r).same ≡ true) ↔ MeetAt ps (bind q x (tree b t)) r) (sym h)
          (binder_exactly q k x t h n (ih t low) ps r nr))
      go (a_let vs ts t e sv nv st lows low lists) =
          exact_of l f (record { kind = 5; a = vs; b = ts; c = t }) e (let_in (items b vs) (gather (tree b) (items b ts)) (tree b t)) (tree_let b formed l e)
          (let_exactly vs ts t (subst (LetBinds b) e ((bound_variables b l f).1 (ap (λ (s : TermRecord). s.kind) e))) (all_lower l ih (items b ts) lows) (ih t low))

  up_to_lem : (n l : ℕ) → l ≤ n → IsTerm b l → Exact l
  up_to_lem zero l le h = absurd (omega arith)
  up_to_lem (suc n) l le h = formed_exactly l (formed.terms l h) (λ i low. up_to_lem n i (omega arith) (low.0, omega arith))

  pub walk_meets : (l : ℕ) → IsTerm b l → (ps : Crossed) (r : ℕ) → IsTerm b r
      → ((pair_walk b c l ps r).same ≡ true) ↔ Meets b (image_tree b c) ps (tree b l) (tree b r)
  walk_meets l h = up_to_lem l l (omega arith) h

-- THE THEOREM
pub pair_walk_exactly : PairWalkExactly
pair_walk_exactly b well c l r hl hr = Iff.trans (walk_meets b well c l hl [] r hr) (meets_exactly b (image_tree b c) (tree b l) (tree b r))
