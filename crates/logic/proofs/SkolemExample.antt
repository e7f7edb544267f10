-- Both SKO rules on a bundle, by computation: ∃x. p(x) to p(εx. p(x)), and ∀x. p(x) to p(εx. not(p(x))).
--     steps      each passes; with the other's premise and under the other's rule it is refused by 13, without a premise by 12
--     mismatches    what either rule asks, one thing after another: a step that lacks it alone is refused by 13
use mathlib.Core.Path.{◌≡◌, refl}
use Prim.Native.Nat.{ℕ}
use mathlib.Core.List.{[], ◌∷◌, map}
use Rattle.bundle.specs.Bundle.{Bundle}
use Rattle.logic.specs.Terms.{forAll, exists, choice, Term, var, app, bind, none, more, tree}
use Rattle.logic.specs.Sorts.{sort}
use Rattle.logic.specs.Checks.{sections_fault}
use Rattle.logic.specs.Contexts.{contexts_fault}
use Rattle.logic.specs.Rules.{step_fault}
use Rattle.logic.specs.Instance.{negated}
use Rattle.logic.proofs.Records.{symbol, link, term, context, step}

-- Symbol p, of an item; variable x of sort item. Terms 1 x, 2 p(x), 3 ∃x. p(x), 4 εx. p(x), 5 p(4), 6 ∀x. p(x), 7 not(p(x)), 8 εx. not(p(x)), 9 p(8).
-- In context 1 term 4 replaces x, in context 2 term 8 does. Steps 1 and 2 carry p(x) to p(4) in context 1, steps 4 and 5 to p(8) in context 2.
-- Step 3 is SKO for exists and step 6 for for-all; 7 and 8 are the same with the other's premise; 9 and 10 under the other's rule; 11 and 12 without a
-- premise.
abbrev skolem : Bundle
skolem = record {
  version = 1;
  symbols = symbol 0 1 ∷ [];
  variables = 1 ∷ [];
  terms =
      term 1 1 0 0 ∷ term 2 33 1 0 ∷ term 4 1 2 0 ∷ term 6 1 2 0 ∷ term 2 33 2 0 ∷ term 3 1 2 0 ∷ term 2 3 3 0 ∷ term 6 1 7 0
      ∷ term 2 33 4 0 ∷ [];
  links = link 1 0 ∷ link 4 0 ∷ link 2 0 ∷ link 8 0 ∷ link 5 0 ∷ [];
  contexts = context 2 1 2 0 ∷ context 2 1 4 0 ∷ [];
  steps =
      step 1 1 1 4 0 ∷ step 2 1 2 5 1 ∷ step 6 0 3 5 3 ∷ step 1 2 1 8 0 ∷ step 2 2 2 9 2 ∷ step 7 0 6 9 5 ∷ step 6 0 3 9 5
      ∷ step 7 0 6 5 3 ∷ step 7 0 3 5 3 ∷ step 6 0 6 9 5 ∷ step 6 0 3 5 0 ∷ step 7 0 6 9 0 ∷ [];
  left = 3;
  right = 5;
}

abbrev p : Term → Term
p t = app 33 (more t none)

pub record Steps : Type 0 where
  pub formed : ((sections_fault skolem).number ≡ 0) × ((contexts_fault skolem).number ≡ 0)
  pub exists_left : tree skolem 3 ≡ bind exists 1 (p (var 1))
  pub exists_right : tree skolem 5 ≡ p (bind choice 1 (p (var 1)))
  pub for_all_left : tree skolem 6 ≡ bind forAll 1 (p (var 1))
  pub for_all_right : tree skolem 9 ≡ p (bind choice 1 (negated (p (var 1))))
  -- a choice has its variable's sort
  pub choice_sort : sort skolem (tree skolem 4) ≡ 1
  -- both rules pass
  pub holds : map (step_fault skolem) (1 ∷ 2 ∷ 3 ∷ 4 ∷ 5 ∷ 6 ∷ []) ≡ 0 ∷ 0 ∷ 0 ∷ 0 ∷ 0 ∷ 0 ∷ []
  -- not with the other's premise, nor under the other's rule, nor without a premise
  pub others_premise : map (step_fault skolem) (7 ∷ 8 ∷ []) ≡ 13 ∷ 13 ∷ []
  pub others_rule : map (step_fault skolem) (9 ∷ 10 ∷ []) ≡ 13 ∷ 13 ∷ []
  pub no_premise : map (step_fault skolem) (11 ∷ 12 ∷ []) ≡ 12 ∷ 12 ∷ []

pub steps : Steps
unfolding tree sort sections_fault contexts_fault step_fault
steps = record {
  formed = (refl, refl);
  exists_left = refl;
  exists_right = refl;
  for_all_left = refl;
  for_all_right = refl;
  choice_sort = refl;
  holds = refl;
  others_premise = refl;
  others_rule = refl;
  no_premise = refl;
}

-- Symbol n, truth to truth; variables x, y of sort item. Terms 1 true, 2 false, 3 ∃x. true, 4 εx. true, 5 εy. true, 6 εx. false, 7 ∀x. true,
-- 8 not(true), 9 not(false), 10 n(true), 11 εx. not(true), 12 εx. not(false), 13 εx. n(true), 14 ∃x. false.
-- Terms 4, 5, 6, 11, 12 and 13 replace x in contexts 1, 2, 3, 7, 8 and 9. Context 4 fixes y; under it, in context 5, term 4 replaces x; in context 6
-- it replaces x and y, in context 10 y. Steps 1 to 8 and 21 carry "true" to itself in contexts 1, 2, 3, 5, 6, 7, 8, 9 and 10.
abbrev near : Bundle
near = record {
  version = 1;
  symbols = symbol 0 1 ∷ [];
  variables = 1 ∷ 1 ∷ [];
  terms =
      term 2 1 0 0 ∷ term 2 2 0 0 ∷ term 4 1 1 0 ∷ term 6 1 1 0 ∷ term 6 2 1 0 ∷ term 6 1 2 0 ∷ term 3 1 1 0 ∷ term 2 3 2 0
      ∷ term 2 3 3 0 ∷ term 2 33 4 0 ∷ term 6 1 8 0 ∷ term 6 1 9 0 ∷ term 6 1 10 0 ∷ term 4 1 2 0 ∷ [];
  links =
      link 0 0 ∷ link 1 0 ∷ link 2 0 ∷ link 1 0 ∷ link 1 0 ∷ link 4 0 ∷ link 1 0 ∷ link 5 0 ∷ link 1 0 ∷ link 6 0 ∷ link 1 0
      ∷ link 4 0 ∷ link 1 14 ∷ link 2 0 ∷ link 4 16 ∷ link 4 0 ∷ link 1 0 ∷ link 11 0 ∷ link 1 0 ∷ link 12 0 ∷ link 1 0
      ∷ link 13 0 ∷ link 1 0 ∷ link 2 0 ∷ link 3 0 ∷ link 4 0 ∷ link 5 0 ∷ link 1 0 ∷ link 3 0 ∷ link 6 0 ∷ link 1 0 ∷ link 7 0
      ∷ link 8 0 ∷ link 21 0 ∷ [];
  contexts =
      context 2 5 6 0 ∷ context 2 7 8 0 ∷ context 2 9 10 0 ∷ context 1 2 0 0 ∷ context 2 11 12 4 ∷ context 2 13 15 0
      ∷ context 2 17 18 0 ∷ context 2 19 20 0 ∷ context 2 21 22 0 ∷ context 2 24 6 0 ∷ [];
  steps =
      step 1 1 1 1 0 ∷ step 1 2 1 1 0 ∷ step 1 3 1 1 0 ∷ step 1 5 1 1 0 ∷ step 1 6 1 1 0 ∷ step 1 7 1 1 0 ∷ step 1 8 1 1 0
      ∷ step 1 9 1 1 0 ∷ step 6 0 3 1 23 ∷ step 6 0 3 1 24 ∷ step 6 0 3 1 25 ∷ step 6 0 3 1 26 ∷ step 6 0 3 1 27
      ∷ step 6 0 3 2 28 ∷ step 6 0 14 1 29 ∷ step 7 0 7 1 30 ∷ step 7 0 7 1 31 ∷ step 7 0 7 1 32 ∷ step 7 0 7 1 33
      ∷ step 6 0 7 1 23 ∷ step 1 10 1 1 0 ∷ step 6 0 3 1 34 ∷ [];
  left = 0;
  right = 0;
}

abbrev fault : ℕ → ℕ
fault = step_fault near

pub record Mismatches : Type 0 where
  pub formed : ((sections_fault near).number ≡ 0) × ((contexts_fault near).number ≡ 0)
  -- from ∃x. true, with εx. true
  pub choice : fault 9 ≡ 0
  -- with εy. true
  pub other_variable : fault 10 ≡ 13
  -- with εx. false
  pub other_body : fault 11 ≡ 13
  -- in a context that has another parent
  pub other_parent : fault 12 ≡ 13
  -- in a context that replaces y too
  pub two_replaced : fault 13 ≡ 13
  -- to "false", where the premise says "true"
  pub other_right : fault 14 ≡ 13
  -- from ∃x. false, where the premise is not about "false"
  pub other_left : fault 15 ≡ 13
  -- from ∀x. true, under the rule for exists
  pub other_quantifier : fault 20 ≡ 13
  -- in a context that replaces y by εx. true
  pub other_replaced : fault 22 ≡ 13
  -- from ∀x. true, with εx. not(true)
  pub negated_choice : fault 16 ≡ 0
  -- with εx. true
  pub not_negated : fault 17 ≡ 13
  -- with εx. not(false)
  pub other_negated : fault 18 ≡ 13
  -- with εx. n(true)
  pub other_symbol : fault 19 ≡ 13

pub mismatches : Mismatches
unfolding sections_fault contexts_fault step_fault
mismatches = record {
  formed = (refl, refl);
  choice = refl;
  other_variable = refl;
  other_body = refl;
  other_parent = refl;
  two_replaced = refl;
  other_right = refl;
  other_left = refl;
  other_quantifier = refl;
  other_replaced = refl;
  negated_choice = refl;
  not_negated = refl;
  other_negated = refl;
  other_symbol = refl;
}
