-- A rule without lets all of whose bound variables are kept is its own expansion.
--     visit_itself, visit_all_itself     a term whose free variables are their own images is carried to one with the same tree
--     kept_is_itself                     THE LAW
use mathlib.Core.Path.{◌≡◌, refl, sym, ap, ap₂, ◌∙◌, subst}
use Prim.Native.Nat.{ℕ, suc}
use mathlib.Core.Bool.{Bool, true, false}
use mathlib.Core.Logic.{inl, inr}
use mathlib.Core.List.{[], ◌∷◌}
use native.Mathlib.Omega.{arith}
use lib.ListN.{length}
use Rattle.bundle.specs.Bundle.{Bundle}
use Rattle.logic.specs.declared.Image.{Image}
use Rattle.logic.specs.declared.Image.TheVariants.{Gives}
use Rattle.logic.specs.Lists.{Number}
use Rattle.logic.specs.Terms.{var, app, bind, more, gather, tree}
use Rattle.logic.specs.Free.{Free, Frees}
use Rattle.logic.specs.Contexts.{image, tree_of_image, image_tree, Settled}
use Rattle.logic.proofs.Formed.{tables_exactly}
use Rattle.logic.proofs.Distinct.{terms_distinct}
use Rattle.logic.proofs.Kept.{tree_kept}
use Rattle.logic.proofs.FormedKept.{image_tree_kept}
use Rattle.expansion.specs.declared.Names.{Names}
use Rattle.expansion.specs.Names.{keeps}
use Rattle.expansion.specs.Nodes.{Node, Nodes, leaf, node, scope, block, nil, cons, number, node_at}
use Rattle.expansion.specs.Placed.{PlacedTerm, place_application, place_binder}
use Rattle.expansion.specs.Visit.{Visit, concluded, image_term, name_of, named, open_binder, visit, visit_all, visited, expanded}
use Rattle.expansion.specs.NamesKept.{NamesKept, AllNamesKept, KeptIsItself}
use Rattle.expansion.proofs.Grown.{concluded_longer, open_longer, visit_longer, visit_all_longer, claiming_longer}
use Rattle.expansion.proofs.AppendedChecked.{Checked}
use Rattle.expansion.proofs.Placement.{gather_kept}
use Rattle.expansion.proofs.Substitution.{Substitutes, substitutes_kept}
use Rattle.expansion.proofs.Conclusions.{Visited, VisitedAll}
use Rattle.expansion.proofs.Standing.{numbers_of, Stands, Stand, stands_term, stand_terms, stands_kept, stand_kept, standing}
use Rattle.expansion.proofs.Falling.{Falls, FallAll, falls_at}
use Rattle.expansion.proofs.Induction.{Covers, CoverAll, image_stays, applied_as, NamedAs, binder_opens, binder_covers, body_itself, ok}
use Rattle.expansion.proofs.Induction.{V₀, Open, open_lower, not_open, named_by, open_body, visit_visited, visit_all_visited}
use Rattle.expansion.proofs.Derived.{Derived, start_checked, start_substitutes, rule_visited, derived}

module _ (names : Names) (j : Bundle) where
  -- the variable of a kept binder's result is its own
  own_name : (kept : Bool) (b : Bundle) (x : ℕ) → kept ≡ true → x ≡ name_of kept b x
  own_name true b x e = refl
  own_name false b x e = absurd (let z : ◌≡◌ {A = ℕ} 0 1 = cc in omega arith)

  leaf_itself : (b : Bundle) (c t x r : ℕ) → Checked b → Number (length b.terms) r → image b c x ≡ Gives r → image_tree b c x ≡ tree b t
      → tree (concluded b 1 c t (image_term (image b c x) t) []).bundle (image_term (image b c x) t) ≡ tree b t
  unfolding image_tree tree_of_image
  leaf_itself b c t x r old nr given same =
      subst (λ (i : Image). tree (concluded b 1 c t (image_term i t) []).bundle (image_term i t) ≡ tree b t) (sym given)
      (tree_kept (concluded_longer b 1 c t r []) old.formed.tables r nr.1 ∙ sym (ap (λ (i : Image). tree_of_image b i x) given) ∙ same)

  mutual
    unfolding visit gather

    pub visit_itself : (τ : Node) {N : ℕ → Type 0} (m : ℕ) (b : Bundle) (c : ℕ) → Checked b → Substitutes (V₀ names j) N b c
        → Stands (V₀ names j) b τ → Covers b c (tree b (number τ)) → Falls j m τ → Open names j m N → NamesKept names j (tree b (number τ))
        → Settled b c (tree b (number τ)) → tree (visit (keeps names j) τ c b).bundle (visit (keeps names j) τ c b).result ≡ tree b (number τ)
    visit_itself (leaf t x) m b c old s stands covers falls may kept settled =
        let here : Free x (tree b t) = rw stands.1 refl in
        let (r, given) = covers x here in
        leaf_itself b c t x r old (s.gives x r given).0.is_term given (settled x here ∙ sym stands.1)
    visit_itself (node t f ns) {N} m b c old s stands covers falls may kept settled =
        let v = visit_all (keeps names j) ns c b in
        let longer = visit_all_longer (keeps names j) ns c b in
        let still : Open names j t N = open_lower names j m t (omega (arith, falls.0)) may in
        let parts : CoverAll b c (gather (tree b) (numbers_of ns)) = rw stands.0.1 at covers in
        let ih : VisitedAll N c (numbers_of ns) v = visit_all_visited names j ns t b c old s stands.1 parts falls.1 still in
        let p : PlacedTerm = place_application v.bundle f v.results in
        let put = applied_as b c t f ns old s stands covers v longer ih in
        tree_kept (concluded_longer p.bundle 2 c t p.term v.steps) put.checked.formed.tables p.term put.is_term.1
        ∙ put.stands
        ∙ ap (app f) (visit_all_itself ns t b c old s stands.1 parts falls.1 still (rw stands.0.1 at kept) (rw stands.0.1 at settled))
        ∙ sym stands.0.1
    visit_itself (scope t q x u) {N} m b c old s stands covers falls may kept settled =
        let k : Bool = keeps names j x in
        let y : ℕ = name_of k b x in
        let p : PlacedTerm = named k b x in
        let o = open_binder k b x c in
        let out = not_open names j m t x falls.0 stands.1 falls.1 may in
        let name : NamedAs b c x y p = named_by names j k b c x old s stands.1 out in
        let opens = binder_opens b c x y p old s stands.1 name out in
        let within : NamesKept names j (bind q x (tree b (number u))) = rw stands.0.1 at kept in
        let around : Settled b c (bind q x (tree b (number u))) = rw stands.0.1 at settled in
        let same : x ≡ y = own_name k b x within.0 in
        let grown : tree o.bundle (number u) ≡ tree b (number u) =
        tree_kept (open_longer k b x c) old.formed.tables (number u) (stands_term (V₀ names j) b u stands.2).1 in
        let there = stands_kept (V₀ names j) (open_longer k b x c) old.formed.tables u stands.2 in
        let body : Covers o.bundle o.context (tree o.bundle (number u)) =
        subst (Covers o.bundle o.context) (sym grown)
        (binder_covers b c x y p old s stands.1 name out q (tree b (number u)) (rw stands.0.1 at covers)) in
        let still = open_body names j k b m t x refl s.job falls.0 falls.1 may in
        let v : Visit = visit (keeps names j) u o.context o.bundle in
        let ih = visit_visited names j u t o.bundle o.context opens.checked opens.substitutes there body falls.2 still in
        let r : PlacedTerm = place_binder v.bundle q y v.result in
        let put = ok b c x y p old s stands.1 name out t q u stands covers v (visit_longer (keeps names j) u o.context o.bundle) ih in
        let inner : tree v.bundle v.result ≡ tree o.bundle (number u) =
        visit_itself u t o.bundle o.context opens.checked opens.substitutes there body falls.2 still (subst (NamesKept names j) (sym grown) within.1)
        (λ z f. body_itself b c x y p old s stands.1 name out same z (λ ne. around z (ne, subst (Free z) grown f))) in
        tree_kept (concluded_longer r.bundle 4 c t r.term (v.step ∷ [])) put.checked.formed.tables r.term put.is_term.1
        ∙ put.stands
        ∙ ap₂ (bind q) (sym same) (inner ∙ grown)
        ∙ sym stands.0.1
    visit_itself (block t l vs ns u) m b c old s stands covers falls may kept settled = absurd (rw stands.0.1 at kept)

    pub visit_all_itself : (ns : Nodes) {N : ℕ → Type 0} (m : ℕ) (b : Bundle) (c : ℕ) → Checked b → Substitutes (V₀ names j) N b c
        → Stand (V₀ names j) b ns → CoverAll b c (gather (tree b) (numbers_of ns)) → FallAll j m ns → Open names j m N
        → AllNamesKept names j (gather (tree b) (numbers_of ns))
        → ((x : ℕ) → Frees x (gather (tree b) (numbers_of ns)) → image_tree b c x ≡ var x)
        → gather (tree (visit_all (keeps names j) ns c b).bundle) (visit_all (keeps names j) ns c b).results ≡ gather (tree b) (numbers_of ns)
    visit_all_itself nil m b c old s stand covers falls may kept settled = refl
    visit_all_itself (cons τ ns) {N} m b c old s stand covers falls may kept settled =
        let v = visit (keeps names j) τ c b in
        let longer = visit_longer (keeps names j) τ c b in
        let head : Visited N c (number τ) v = visit_visited names j τ m b c old s stand.0 (λ x f. covers x (inl f)) falls.0 may in
        let same : gather (tree v.bundle) (numbers_of ns) ≡ gather (tree b) (numbers_of ns) =
        gather_kept longer old.formed.tables (numbers_of ns) (stand_terms (V₀ names j) b ns stand.1) in
        ap₂ more
        (tree_kept (visit_all_longer (keeps names j) ns c v.bundle) head.checked.formed.tables v.result head.done.result.is_term.1
        ∙ visit_itself τ m b c old s stand.0 (λ x f. covers x (inl f)) falls.0 may kept.0 (λ x f. settled x (inl f)))
        (visit_all_itself ns m v.bundle c head.checked (substitutes_kept s longer old.formed (λ x n. n) s.itself)
        (stand_kept (V₀ names j) longer old.formed.tables ns stand.1)
        (rw same (λ x f. let (r, e) = covers x (inr f) in (r, image_stays longer old.formed c s.here x e))) falls.1 may (rw same kept.1)
        (rw same (λ x f. image_tree_kept longer old.formed c x s.here ∙ settled x (inr f)))
        ∙ same)

-- ---- THE LAW

pub kept_is_itself : KeptIsItself
unfolding expanded visited
kept_is_itself names b tables contexts steps left closed kept =
    let d : Derived b B = derived names b tables contexts steps left closed in
    let same : tree B B.right ≡ tree B b.left =
    tree_kept (claiming_longer v.bundle b.left v.result) done.checked.formed.tables v.result done.done.result.is_term.1
    ∙ right_tree
    ∙ sym (tree_kept d.longer tables b.left left.1) in
    let left_here : Number (length B.terms) b.left = done.done.term in
    terms_distinct B ((tables_exactly B).1 d.formed.tables) B.right b.left d.right.0 d.right.1 left_here.0 left_here.1 same
  where
    v : Visit
    v = visited names b

    B : Bundle
    B = expanded names b

    done : Visited (λ x. ⊥) 0 b.left (visited names b)
    done = rule_visited names b tables contexts steps left closed

    right_tree : tree v.bundle v.result ≡ tree b b.left
    right_tree =
        let (is, stands) = standing b tables b.left left in
        let τ : Node = node_at b b.left in
        let shut : (x : ℕ) → Free x (tree b (number τ)) → ⊥ = λ x f. closed x (rw is at f) in
        visit_itself names b τ (suc b.left) b 0 (start_checked names b tables contexts steps left closed)
        (start_substitutes names b tables contexts steps left closed) stands (λ x f. absurd (shut x f)) (falls_at b tables b.left left)
        (λ x n. absurd n) (rw is kept) (λ x f. absurd (shut x f))
        ∙ ap (tree b) is
