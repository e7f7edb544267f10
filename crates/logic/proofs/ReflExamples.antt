-- Examples of whole-term REFL, by computation.
--     walks        pairs of terms, with the number of pairs that the walk visits and whether it ended with no difference
--     doubling     Req 13's term: 4,095 pairs from term 12, and from term 13 more than 4,096
use mathlib.Core.Path.{◌≡◌, refl}
use Prim.Native.Nat.{ℕ}
use mathlib.Core.Bool.{true, false}
use mathlib.Core.List.{[], ◌∷◌}
use Rattle.bundle.specs.Bundle.{Bundle}
use Rattle.logic.specs.Checks.{sections_fault}
use Rattle.logic.specs.Contexts.{image, contexts_fault}
use Rattle.logic.specs.declared.Limited.TheVariants.{Same, Spent}
use Rattle.logic.specs.Free.{free_at}
use Rattle.logic.specs.ReflWalk.{PairWalk, pair_walk_by, pair_walk, within_by, pair_limit}
use Rattle.logic.proofs.Records.{symbol, link, term, context}

-- a context, a left and a right side, and what their walk is
abbrev walked : Bundle → ℕ → ℕ → ℕ → PairWalk
walked b c l r = pair_walk b c l [] r

abbrev equal : ℕ → PairWalk
equal n = record { pairs = n; same = true }

abbrev unequal : ℕ → PairWalk
unequal n = record { pairs = n; same = false }

-- Variables x, y, z of sort item and u of sort truth; symbols p, f, a. In context 1 a replaces x, in context 2 f(y) does; in context 3
-- ∀y. p(y,y) replaces u.
abbrev examples : Bundle
examples = record {
  version = 1;
  symbols = symbol 0 1 ∷ symbol 1 3 ∷ symbol 1 0 ∷ [];
  variables = 1 ∷ 1 ∷ 1 ∷ 0 ∷ [];
  terms = term 2 35 0 0 ∷ term 1 2 0 0 ∷ term 2 34 4 0 ∷ term 2 33 5 0 ∷ term 3 2 4 0 ∷ term 1 1 0 0 ∷ term 2 33 10 0 ∷ term 3 2 7 0 ∷ term 1 3 0 0 ∷ term 2 33 12 0 ∷ term 3 3 10 0 ∷ term 2 33 14 0 ∷ term 3 1 12 0 ∷ term 2 33 16 0 ∷ term 3 3 14 0 ∷ term 2 33 18 0 ∷ term 3 3 16 0 ∷ term 2 33 20 0 ∷ term 3 2 18 0 ∷ term 3 1 8 0 ∷ term 2 33 22 0 ∷ term 3 1 21 0 ∷ term 3 2 22 0 ∷ term 3 2 5 0 ∷ term 2 33 24 0 ∷ term 3 1 25 0 ∷ term 3 1 26 0 ∷ term 3 2 26 0 ∷ term 5 26 22 7 ∷ term 2 33 28 0 ∷ term 5 30 22 30 ∷ term 2 33 32 0 ∷ term 5 20 34 32 ∷ term 1 4 0 0 ∷ term 2 4 36 0 ∷ term 2 4 38 0 ∷ term 2 33 40 0 ∷ term 3 3 37 0 ∷ term 2 4 42 0 ∷ term 2 33 1 0 ∷ term 3 1 40 0 ∷ term 3 4 40 0 ∷ term 2 33 44 0 ∷ [];
  links = link 1 2 ∷ link 1 0 ∷ link 1 0 ∷ link 2 0 ∷ link 2 6 ∷ link 2 0 ∷ link 3 0 ∷ link 4 0 ∷ link 5 0 ∷ link 6 11 ∷ link 2 0 ∷ link 1 13 ∷ link 9 0 ∷ link 1 15 ∷ link 6 0 ∷ link 6 17 ∷ link 9 0 ∷ link 3 19 ∷ link 9 0 ∷ link 3 21 ∷ link 2 0 ∷ link 2 23 ∷ link 6 0 ∷ link 6 25 ∷ link 6 0 ∷ link 1 27 ∷ link 2 0 ∷ link 2 29 ∷ link 9 0 ∷ link 2 31 ∷ link 3 0 ∷ link 9 33 ∷ link 2 0 ∷ link 9 35 ∷ link 6 0 ∷ link 34 37 ∷ link 34 0 ∷ link 5 39 ∷ link 5 0 ∷ link 9 41 ∷ link 9 0 ∷ link 5 43 ∷ link 38 0 ∷ link 6 45 ∷ link 1 0 ∷ [];
  contexts = context 2 3 3 0 ∷ context 2 3 7 0 ∷ context 2 8 9 0 ∷ [];
  steps = [];
  left = 0;
  right = 0;
}

examples_formed : ((sections_fault examples).number ≡ 0) × ((contexts_fault examples).number ≡ 0)
unfolding sections_fault contexts_fault
examples_formed = (refl, refl)

pub record Walks : Type 0 where
  -- a replaces x: ∀y. p(x,y) to ∀z. p(a,z)
  pub example1 : walked examples 1 8 11 ≡ equal 4
  -- and to ∀x. p(a,x): a binder may take the name of a variable that is replaced
  pub example2 : walked examples 1 8 13 ≡ equal 4
  -- f(y) replaces x: ∀z. p(x,z) to ∀z. p(f(y),z)
  pub example3 : walked examples 2 15 17 ≡ equal 4
  -- but not to ∀y. p(f(y),y): y would be captured
  pub example4 : walked examples 2 15 19 ≡ unequal 3
  -- nothing is replaced: ∀x.∀y. p(x,y) to ∀y.∀x. p(y,x)
  pub example5 : walked examples 0 20 23 ≡ equal 5
  -- but not to ∀y.∀y. p(y,y): the outer y is hidden by the nearer one
  pub example6 : walked examples 0 20 24 ≡ unequal 4
  -- ∀x.∀x. p(x,x) to ∀y.∀x. p(x,x), but not to ∀y.∀x. p(y,x)
  pub example7 : walked examples 0 27 28 ≡ equal 5
  pub example8 : walked examples 0 27 23 ≡ unequal 4
  -- let x,y ≃ y,x in p(x,y) to let y,z ≃ y,x in p(y,z): bound terms stand outside the variables
  pub example9 : walked examples 0 29 31 ≡ equal 6
  -- but not to let z,y ≃ z,x in p(z,y)
  pub example10 : walked examples 0 29 33 ≡ unequal 2
  -- ∀y. p(y,y) replaces u: u ∧ u to itself twice, but with no other name in it
  pub example11 : walked examples 3 35 36 ≡ equal 3
  pub example12 : walked examples 3 35 39 ≡ unequal 3
  -- binders meet only with the same sorts: ∀x. p(a,a) and ∀u. p(a,a)
  pub example13 : walked examples 0 41 42 ≡ unequal 1
  -- the same term on both sides is walked in full, where it is not settled
  pub example14 : walked examples 1 43 43 ≡ unequal 2

pub walks : Walks
unfolding pair_walk_by image free_at
walks = record {
  example1 = refl;
  example2 = refl;
  example3 = refl;
  example4 = refl;
  example5 = refl;
  example6 = refl;
  example7 = refl;
  example8 = refl;
  example9 = refl;
  example10 = refl;
  example11 = refl;
  example12 = refl;
  example13 = refl;
  example14 = refl;
}

-- Term 1 is a variable that the context replaces by a constant, and each later one an application to the one before it twice; then the constant
-- and the copies.
abbrev doubled : Bundle
doubled = record {
  version = 1;
  symbols = symbol 1 1 ∷ symbol 1 0 ∷ [];
  variables = 1 ∷ [];
  terms = term 1 1 0 0 ∷ term 2 33 1 0 ∷ term 2 33 3 0 ∷ term 2 33 5 0 ∷ term 2 33 7 0 ∷ term 2 33 9 0 ∷ term 2 33 11 0 ∷ term 2 33 13 0 ∷ term 2 33 15 0 ∷ term 2 33 17 0 ∷ term 2 33 19 0 ∷ term 2 33 21 0 ∷ term 2 33 23 0 ∷ term 2 34 0 0 ∷ term 2 33 25 0 ∷ term 2 33 27 0 ∷ term 2 33 29 0 ∷ term 2 33 31 0 ∷ term 2 33 33 0 ∷ term 2 33 35 0 ∷ term 2 33 37 0 ∷ term 2 33 39 0 ∷ term 2 33 41 0 ∷ term 2 33 43 0 ∷ term 2 33 45 0 ∷ term 2 33 47 0 ∷ [];
  links = link 1 2 ∷ link 1 0 ∷ link 2 4 ∷ link 2 0 ∷ link 3 6 ∷ link 3 0 ∷ link 4 8 ∷ link 4 0 ∷ link 5 10 ∷ link 5 0 ∷ link 6 12 ∷ link 6 0 ∷ link 7 14 ∷ link 7 0 ∷ link 8 16 ∷ link 8 0 ∷ link 9 18 ∷ link 9 0 ∷ link 10 20 ∷ link 10 0 ∷ link 11 22 ∷ link 11 0 ∷ link 12 24 ∷ link 12 0 ∷ link 14 26 ∷ link 14 0 ∷ link 15 28 ∷ link 15 0 ∷ link 16 30 ∷ link 16 0 ∷ link 17 32 ∷ link 17 0 ∷ link 18 34 ∷ link 18 0 ∷ link 19 36 ∷ link 19 0 ∷ link 20 38 ∷ link 20 0 ∷ link 21 40 ∷ link 21 0 ∷ link 22 42 ∷ link 22 0 ∷ link 23 44 ∷ link 23 0 ∷ link 24 46 ∷ link 24 0 ∷ link 25 48 ∷ link 25 0 ∷ link 1 0 ∷ link 14 0 ∷ [];
  contexts = context 2 49 50 0 ∷ [];
  steps = [];
  left = 0;
  right = 0;
}

doubled_formed : ((sections_fault doubled).number ≡ 0) × ((contexts_fault doubled).number ≡ 0)
unfolding sections_fault contexts_fault
doubled_formed = (refl, refl)

pub doubling :
    (within_by (free_at doubled) (image doubled 1) doubled 2 [] 15 pair_limit ≡ Same 4093)
    × (within_by (free_at doubled) (image doubled 1) doubled 12 [] 25 pair_limit ≡ Same 1)
    × (within_by (free_at doubled) (image doubled 1) doubled 13 [] 26 pair_limit ≡ Spent)
unfolding within_by image free_at
doubling = (refl, refl, refl)
