-- Why SKO needs check 11. In the context where a replaces y, the choice of x in p(x,y) is not settled: y is free in it. With it in the place of x,
-- ∀y. let y≃a in ∃x. p(x,y) becomes ∀y. p(εx. p(x,y), a).
--     Shows             the facts
--     shows             THE THEOREM: they hold of a bundle, and of every world of two items, whatever its picks, in which p is equality and a the first item
--     eleven_needed     THE THEOREM: nothing else is wrong with that bundle, and there is such a world
use mathlib.Core.Path.{◌≡◌, refl, sym, ap, ap₂, ◌∙◌, subst}
use Prim.Native.Nat.{ℕ, zero, suc, ◌+◌, ◌≤◌, ◌<◌}
use native.Mathlib.Omega.{arith}
use mathlib.Core.Bool.{true, false, cond, false≢true}
use mathlib.Core.List.{List, [], ◌∷◌}
use mathlib.Core.Logic.{◌⊎◌, inl, inr}
use lib.ListN.{get_or}
use lib.Dec.{eqb}
use borrow.Author.Tests.{eqb-true, ne_eqb}
use Rattle.bundle.specs.Bundle.{Bundle, symbol_of}
use Rattle.bundle.specs.Links.{items}
use Rattle.logic.specs.Lists.{Number}
use Rattle.logic.specs.Symbols.{item_sort, kind_of_sort}
use Rattle.logic.specs.Terms.{Binder, forAll, exists, choice, Term, var, app, bind, let_in, none, more, gather, tree}
use Rattle.logic.specs.Free.{Free}
use Rattle.logic.specs.Checks.{sections_fault}
use Rattle.logic.specs.Contexts.{image_tree, Mentioned, by_replacing, by_parent, InScope, context_refers, context_fault, contexts_fault}
use Rattle.logic.specs.Rules.{rule_of, steps_fault}
use Rattle.logic.specs.Instance.{Replaces, by_refl, by_cong, by_bind, by_let, by_sko_exists, StepHolds}
use Rattle.logic.specs.Values.{Value, truth, item, item_of, truth_of, HasIn, OfSortsIn, World, Has, put, value}
use Rattle.logic.specs.Meanings.{TermsMean}
use Rattle.logic.specs.Statements.{ElevenNeeded}
use Rattle.logic.proofs.Formed.{tables_exactly}
use Rattle.logic.proofs.ReflStep.{refl_forms}
use Rattle.logic.proofs.Values.{put_here, put_other}
use Rattle.logic.proofs.Picks.{picks_exist}
use Rattle.logic.proofs.Meanings.{values_mean}
use Rattle.logic.proofs.Records.{symbol, link, term, context, step}

-- ---- the facts

-- variables x, y; symbols p, a
abbrev x : ℕ
x = 1

abbrev y : ℕ
y = 2

abbrev p : Term → Term → Term
p s t = app 33 (more s (more t none))

abbrev a : Term
a = app 34 none

abbrev body : Term
body = p (var x) (var y)

-- the choice of x in p(x,y)
abbrev ε : Term
ε = bind choice x body

-- let y≃a in ∃x. p(x,y), which becomes p(εx. p(x,y), a)
abbrev before : Term
before = let_in (y ∷ []) (more a none) (bind exists x body)

abbrev after : Term
after = p ε a

pub record Shows (b : Bundle) : Type 0 where
  -- the claim is ∀y. let y≃a in ∃x. p(x,y) to ∀y. p(εx. p(x,y), a)
  pub left : tree b b.left ≡ bind forAll y before
  pub right : tree b b.right ≡ bind forAll y after
  -- check 11 finds the context that replaces x by the choice: y is free in that, and a is its image in the parent
  pub fourth : context_fault b 4 ≡ 11
  pub replacing : Replaces b 4 (x ∷ []) (more ε none) 3
  pub free_there : Free y ε
  pub image_is : image_tree b 3 y ≡ a
  -- where there are two items, p is equality and a the first item, the left side of the claim is true and the right side false
  pub true_to_false : (w : World b) → w.size item_sort ≡ 2 → ((i j : ℕ) → w.meaning 1 (item i ∷ item j ∷ []) ≡ truth (eqb i j))
      → w.meaning 2 [] ≡ item 0 → (ρ : ℕ → Value)
      → (value w ρ (tree b b.left) ≡ truth true) × (value w ρ (tree b b.right) ≡ truth false)

-- ---- the bundle

-- Symbols p : item, item to truth; a : item. Variables x, y, items.
-- Terms 1 x, 2 y, 3 a, 4 p(x,y), 5 ∃x. 4, 6 εx. 4, 7 p(6,a), 8 let y≃a in 5, 9 ∀y. 8, 10 ∀y. 7.
-- Contexts 1 y fixed, 2 then y replaced by y, 3 then y by a, 4 then x by 6.
-- Steps 1 a to a, 2 x to 6, 3 y to a, 4 p(x,y) to p(6,a), 5 SKO, 6 LET, 7 BIND.
abbrev pub unsettled : Bundle
unsettled = record {
  version = 1;
  symbols = symbol 0 1 ∷ symbol 1 0 ∷ [];
  variables = 1 ∷ 1 ∷ [];
  terms =
      term 1 1 0 0 ∷ term 1 2 0 0 ∷ term 2 34 0 0 ∷ term 2 33 3 0 ∷ term 4 1 4 0 ∷ term 6 1 4 0 ∷ term 2 33 5 0 ∷ term 5 4 6 5
      ∷ term 3 2 8 0 ∷ term 3 2 7 0 ∷ [];
  links =
      link 1 2 ∷ link 1 0 ∷ link 1 4 ∷ link 2 0 ∷ link 6 6 ∷ link 3 0 ∷ link 6 0 ∷ link 2 9 ∷ link 3 0 ∷ link 4 0
      ∷ link 1 12 ∷ link 5 0 ∷ [];
  contexts = context 1 2 0 0 ∷ context 2 4 4 1 ∷ context 2 4 6 2 ∷ context 2 2 7 3 ∷ [];
  steps =
      step 1 2 3 3 0 ∷ step 1 4 1 6 0 ∷ step 1 4 2 3 0 ∷ step 2 4 4 7 8 ∷ step 6 3 5 7 10 ∷ step 5 2 8 7 11 ∷ step 4 0 9 10 7 ∷ [];
  left = 9;
  right = 10;
}

-- ---- its steps

free_body : (z : ℕ) → Free z body → (z ≡ x) ⊎ (z ≡ y)
free_body z (inl e) = inl e
free_body z (inr (inl e)) = inr e
free_body z (inr (inr f)) = absurd f

free_bind : (q : Binder) (z : ℕ) → Free z (bind q x body) → z ≡ y
free_bind q z (ne, f) = elim (free_body z f) [ inl e ↦ absurd (ne e) | inr e ↦ e ]

free_after : (z : ℕ) → Free z after → z ≡ y
free_after z (inl f) = free_bind choice z f
free_after z (inr (inl f)) = absurd f
free_after z (inr (inr f)) = absurd f

before_closed : (z : ℕ) → Free z before → ⊥
before_closed z (inl (inl f)) = f
before_closed z (inl (inr f)) = f
before_closed z (inr (out, f)) = out (inl (free_bind exists z f))

-- an entry of the second, third and fourth context mentions y, and one of the fourth x
abbrev Here : ℕ → ℕ → Type 0
Here = Mentioned unsettled

y_second : Here 2 y
unfolding items
y_second = by_replacing refl (inl refl)

y_third : Here 3 y
unfolding items
y_third = by_replacing refl (inl refl)

y_fourth : Here 4 y
y_fourth = by_parent y_third

x_fourth : Here 4 x
unfolding items
x_fourth = by_replacing refl (inl refl)

body_fourth : InScope unsettled 4 body
body_fourth z f = elim (free_body z f) [ inl e ↦ subst (Here 4) (sym e) x_fourth | inr e ↦ subst (Here 4) (sym e) y_fourth ]

-- y alone is free
only_y : (c : ℕ) (t : Term) → Here c y → ((z : ℕ) → Free z t → z ≡ y) → InScope unsettled c t
only_y c t h only z f = subst (Here c) (sym (only z f)) h

-- rules' numbers differ
differs : {A : Type 0} → ◌≡◌ {A = ℕ} 0 1 → A
differs e = absurd (omega arith)

replaces_x : Replaces unsettled 4 (x ∷ []) (more ε none) 3
unfolding items gather tree
replaces_x = record { kind = refl; variables = refl; terms = refl; parent = refl }

replaces_y : Replaces unsettled 3 (y ∷ []) (more a none) 2
unfolding items gather tree
replaces_y = record { kind = refl; variables = refl; terms = refl; parent = refl }

holds : (k : ℕ) → Number 7 k → StepHolds unsettled k
unfolding items gather tree rule_of image_tree
holds zero n = absurd (omega arith)
holds (suc zero) n = record {
  context = omega arith;
  left = (omega arith, omega arith);
  right = (omega arith, omega arith);
  start = omega arith;
  earlier = tt;
  scope = (λ z f. absurd f, λ z f. absurd f);
  «instance» = by_refl refl refl (refl_forms unsettled 2 a a (inl (refl, λ z f. absurd f)));
  pairs = λ e. inl (inl (refl, λ z f. absurd f));
}
holds (suc (suc zero)) n = record {
  context = omega arith;
  left = (omega arith, omega arith);
  right = (omega arith, omega arith);
  start = omega arith;
  earlier = tt;
  scope = (λ z e. subst (Here 4) (sym e) x_fourth, only_y 4 ε y_fourth (free_bind choice));
  «instance» = by_refl refl refl (refl_forms unsettled 4 (var x) ε (inr (x, refl, refl)));
  pairs = λ e. inl (inr (x, refl, refl));
}
holds (suc (suc (suc zero))) n = record {
  context = omega arith;
  left = (omega arith, omega arith);
  right = (omega arith, omega arith);
  start = omega arith;
  earlier = tt;
  scope = (λ z e. subst (Here 4) (sym e) y_fourth, λ z f. absurd f);
  «instance» = by_refl refl refl (refl_forms unsettled 4 (var y) a (inr (y, refl, refl)));
  pairs = λ e. inl (inr (y, refl, refl));
}
holds (suc (suc (suc (suc zero)))) n = record {
  context = omega arith;
  left = (omega arith, omega arith);
  right = (omega arith, omega arith);
  start = omega arith;
  earlier = ((omega arith, omega arith), ((omega arith, omega arith), tt));
  scope = (body_fourth, only_y 4 after y_fourth free_after);
  «instance» = by_cong refl 33 (more (var x) (more (var y) none)) (more ε (more a none)) refl refl
      (record { context = refl; left = refl; right = refl }, (record { context = refl; left = refl; right = refl }, tt));
  pairs = λ e. differs (cc);
}
holds (suc (suc (suc (suc (suc zero))))) n = record {
  context = omega arith;
  left = (omega arith, omega arith);
  right = (omega arith, omega arith);
  start = omega arith;
  earlier = ((omega arith, omega arith), tt);
  scope = (only_y 3 (bind exists x body) y_third (free_bind exists), only_y 3 after y_third free_after);
  «instance» = by_sko_exists refl x body 4 4 refl refl (record { context = refl; left = refl; right = refl }) replaces_x;
  pairs = λ e. differs (cc);
}
holds (suc (suc (suc (suc (suc (suc zero)))))) n = record {
  context = omega arith;
  left = (omega arith, omega arith);
  right = (omega arith, omega arith);
  start = omega arith;
  earlier = ((omega arith, omega arith), ((omega arith, omega arith), tt));
  scope = (λ z f. absurd (before_closed z f), only_y 2 after y_second free_after);
  «instance» = by_let refl (y ∷ []) (more a none) (more a none) (bind exists x body) (1 ∷ []) 5 3 refl refl
      (record { context = refl; left = refl; right = refl }, tt) (record { context = refl; left = refl; right = refl }) replaces_y;
  pairs = λ e. differs (cc);
}
holds (suc (suc (suc (suc (suc (suc (suc zero))))))) n = record {
  context = omega arith;
  left = (omega arith, omega arith);
  right = (omega arith, omega arith);
  start = omega arith;
  earlier = ((omega arith, omega arith), tt);
  scope = (λ z f. absurd (before_closed z f.1), λ z f. absurd (f.0 (free_after z f.1)));
  «instance» = by_bind refl forAll y y before after 6 2 1 refl refl refl
      (record { context = refl; left = refl; right = refl })
      (record { kind = refl; variables = refl; terms = refl; parent = refl })
      (record { kind = refl; variable = refl; parent = refl })
      (λ f. f.0 refl) (λ z f m. before_closed z f.1);
  pairs = λ e. differs (cc);
}
holds (suc (suc (suc (suc (suc (suc (suc (suc k)))))))) n = absurd (omega arith)

-- ---- the two sides of its claim

module _ (w : World unsettled) (size : w.size item_sort ≡ 2) (same : (i j : ℕ) → w.meaning 1 (item i ∷ item j ∷ []) ≡ truth (eqb i j))
    (first : w.meaning 2 [] ≡ item 0)
  where
    mean : (ρ : ℕ → Value) → TermsMean w ρ
    mean ρ = ((values_mean unsettled w).1 ρ).3

    an_item : (i : ℕ) → i < 2 → Has w item_sort (item i)
    an_item i h = ((values_mean unsettled w).0.items (item i)).1 (i, omega arith, refl)

    body_value : (σ : ℕ → Value) (i j : ℕ) → σ x ≡ item i → σ y ≡ item j → value w σ body ≡ truth (eqb i j)
    unfolding value
    body_value σ i j e g = ap₂ (λ (u v : Value). w.meaning 1 (u ∷ v ∷ [])) e g ∙ same i j

    -- the first item is equal to a
    before_true : (ρ : ℕ → Value) → value w ρ before ≡ truth true
    unfolding value
    before_true ρ =
        (mean ρ).let_in (y ∷ []) (more a none) (bind exists x body) σ
        ((put_here ρ y (value w ρ a), tt), λ z out. put_other ρ y (value w ρ a) z (λ e. out (inl e)))
        ∙ ((mean σ).exists_some x body).1
        (item 0, an_item 0 (omega arith), λ τ takes. body_value τ 0 0 takes.0 (takes.1 y (λ e. omega arith) ∙ put_here ρ y (value w ρ a) ∙ first))
      where
        σ : ℕ → Value
        σ = put ρ y (value w ρ a)

    -- the pick from the items that are equal to the second is the second, which is not equal to a
    after_false : (ρ : ℕ → Value) → ρ y ≡ item 1 → value w ρ after ≡ truth false
    unfolding value
    after_false ρ second =
        ap₂ (λ (u v : Value). w.meaning 1 (u ∷ v ∷ [])) picked.2 first
        ∙ same picked.0 0
        ∙ ap truth (ne_eqb picked.0 0 (λ e. omega (arith, second_item)))
      where
        -- the pick is an item
        picked : (i : ℕ) × (i + 1 ≤ w.size item_sort) × (value w ρ ε ≡ item i)
        picked = ((values_mean unsettled w).0.items (value w ρ ε)).0 ((mean ρ).choice_value x body (omega arith))

        σ : ℕ → Value
        σ = put ρ x (value w ρ ε)

        -- and p holds of it and y, as it does of the second item
        p_holds : value w σ body ≡ truth true
        p_holds =
            (mean ρ).choice_member x body (omega arith) (item 1) (an_item 1 (omega arith))
            (λ τ takes. body_value τ 1 1 takes.0 (takes.1 y (λ e. omega arith) ∙ second)) σ
            (put_here ρ x (value w ρ ε), put_other ρ x (value w ρ ε))

        second_item : picked.0 ≡ 1
        second_item =
            eqb-true picked.0 1
            (ap truth_of (sym (body_value σ picked.0 1 (put_here ρ x (value w ρ ε) ∙ picked.2)
            (put_other ρ x (value w ρ ε) y (λ e. omega arith) ∙ second)) ∙ p_holds))

    left_true_lem : (ρ : ℕ → Value) → value w ρ (bind forAll y before) ≡ truth true
    left_true_lem ρ = ((mean ρ).for_all y before).1 (λ v h σ takes. before_true σ)

    right_false_lem : (ρ : ℕ → Value) → value w ρ (bind forAll y after) ≡ truth false
    right_false_lem ρ = elim ((mean ρ).for_all_truth y after) [ inl e ↦ absurd (false≢true (ap truth_of (clash e))) | inr e ↦ e ]
      where
        σ : ℕ → Value
        σ = put ρ y (item 1)

        clash : value w ρ (bind forAll y after) ≡ truth true → truth false ≡ truth true
        clash e =
            sym (after_false σ (put_here ρ y (item 1)))
            ∙ ((mean ρ).for_all y after).0 e (item 1) (an_item 1 (omega arith)) σ (put_here ρ y (item 1), put_other ρ y (item 1))

pub shows : Shows unsettled
unfolding tree context_fault image_tree
shows = record {
  left = refl;
  right = refl;
  fourth = refl;
  replacing = replaces_x;
  free_there = ((λ e. omega arith), inr (inl refl));
  image_is = refl;
  true_to_false = λ w size same first ρ. (left_true_lem w size same first ρ, right_false_lem w size same first ρ);
}

-- ---- a world

meant : ℕ → List Value → Value
meant i vs = cond (eqb i 1) (truth (eqb (item_of (get_or vs 0 (item 0))) (item_of (get_or vs 1 (item 0))))) (item 0)

meant_sorts : (i : ℕ) (vs : List Value) → Number 2 i → OfSortsIn unsettled (λ s. 2) vs (items unsettled (symbol_of unsettled i).sorts)
    → HasIn unsettled (λ s. 2) (symbol_of unsettled i).result (meant i vs)
unfolding meant items kind_of_sort
meant_sorts zero vs n h = absurd (omega arith)
meant_sorts (suc zero) vs n h = tt
meant_sorts (suc (suc zero)) vs n h = omega arith
meant_sorts (suc (suc (suc i))) vs n h = absurd (omega arith)

two_items : World unsettled
unfolding meant
two_items = record {
  size = λ s. 2;
  some_value = λ s. omega arith;
  meaning = meant;
  keeps_sorts = meant_sorts;
  picks = picks_exist unsettled (λ s. 2) (λ s. omega arith);
}

-- every context passes check 10
pass_ten : (c : ℕ) → Number 4 c → context_refers unsettled c ≡ true
unfolding context_refers
pass_ten zero n = absurd (omega arith)
pass_ten (suc zero) n = refl
pass_ten (suc (suc zero)) n = refl
pass_ten (suc (suc (suc zero))) n = refl
pass_ten (suc (suc (suc (suc zero)))) n = refl
pass_ten (suc (suc (suc (suc (suc c))))) n = absurd (omega arith)

pub eleven_needed : ElevenNeeded
unfolding tree sections_fault contexts_fault rule_of steps_fault two_items meant
eleven_needed = (
  unsettled,
  two_items,
  record {
    tables = (tables_exactly unsettled).0 refl;
    ten = pass_ten;
    eleven = refl;
    hold = holds;
    pass = refl;
    skolem = (5, (omega arith, omega arith), refl);
    some = omega arith;
    context = refl;
    left = refl;
    right = refl;
    left_true = λ ρ. (shows.true_to_false two_items refl (λ i j. refl) refl ρ).0;
    right_false = λ ρ. (shows.true_to_false two_items refl (λ i j. refl) refl ρ).1;
  },
)
