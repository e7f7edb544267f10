-- The free variables of a term: of its tree, and of its number as a table that grows. proofs/Trees.antt shows that they agree.
-- And how the free sets of all terms stand in an area of words.
use Rattle.std.specs.Prelude.{ℕ, zero, suc, ◌+◌, ◌*◌, ◌/◌, ◌%◌, ◌≡◌, ◌⊎◌, Bool, false, cond, not, ◌&&◌, ◌||◌, List, [], ◌∷◌, length, eqb, ltb}
use Rattle.bundle.specs.Bundle.{Bundle, TermRecord}
use Rattle.bundle.specs.Links.{items}
use Rattle.bundle.specs.Lists.{has, numbers}
use Rattle.bundle.specs.File.{tab}
use Rattle.logic.specs.Lists.{Among}
use Rattle.logic.specs.Table.{table}
use Rattle.logic.specs.Terms.{Term, Terms, Kind, kind_of, var, app, bind, let_in, none, more, variable, application, binder, letting, other}

-- The free variables of a variable term are its variable; of an application, those of its arguments; of a binder, those of its body but
-- its own variable; of a let, those of its bound terms, and those of its body but the let's own.
unfoldable mutual
  unfolding has

  pub free : Term → ℕ → Bool
  free (var y) x = eqb x y
  free (app f ts) x = frees ts x
  free (bind q y t) x = not (eqb x y) && free t x
  free (let_in vs ts u) x = (free u x && not (has x vs)) || frees ts x

  pub frees : Terms → ℕ → Bool
  frees none x = false
  frees (more t ts) x = free t x || frees ts x

-- the same in propositions: x is free in a tree
abbrev mutual
  pub Free : ℕ → Term → Type 0
  Free x (var y) = x ≡ y
  Free x (app f ts) = Frees x ts
  Free x (bind q y t) = (x ≡ y → ⊥) × Free x t
  Free x (let_in vs ts u) = Frees x ts ⊎ ((Among x vs → ⊥) × Free x u)

  pub Frees : ℕ → Terms → Type 0
  Frees x none = ⊥
  Frees x (more t ts) = Free x t ⊎ Frees x ts

-- A term is closed if it has none.
abbrev pub Closed : Term → Type 0
Closed t = (x : ℕ) → Free x t → ⊥

-- the same of a list of numbers, and of a record, from the free variables f of lower numbers. A variable term whose number is no variable's has
-- none: in files that pass check 7 there is no such term.
unfoldable pub frees_of : (ℕ → ℕ → Bool) → List ℕ → ℕ → Bool
frees_of f [] x = false
frees_of f (t ∷ ts) x = f t x || frees_of f ts x

unfoldable pub free_as : Bundle → Kind → (ℕ → ℕ → Bool) → TermRecord → ℕ → Bool
unfolding frees_of has items
free_as b variable f r x = numbers (length b.variables) r.a && eqb x r.a
free_as b application f r x = frees_of f (items b r.b) x
free_as b (binder q) f r x = not (eqb x r.a) && f r.b x
free_as b letting f r x = (f r.c x && not (has x (items b r.a))) || frees_of f (items b r.b) x
free_as b other f r x = false

unfoldable pub free_by : Bundle → (ℕ → ℕ → Bool) → TermRecord → ℕ → Bool
unfolding free_as kind_of
free_by b f r = free_as b (kind_of r.kind) f r

abbrev pub nothing_free : ℕ → Bool
nothing_free x = false

-- variable x is free in term t
unfoldable pub free_at : Bundle → ℕ → ℕ → Bool
unfolding free_by table
free_at b t = table (free_by b) nothing_free b.terms t

-- the n bits of a set from variable x on, the lowest first
unfoldable pub bits_from : (ℕ → Bool) → ℕ → ℕ → ℕ
bits_from s x zero = 0
bits_from s x (suc n) = cond (s x) 1 0 + 2 * bits_from s (suc x) n

-- word k of a set, counted from 0: variables 1 to 64 in the first, and so on
abbrev pub set_word : (ℕ → Bool) → ℕ → ℕ
set_word s k = bits_from s (64 * k + 1) 64

-- An area of m words that has the free sets of all terms, n words each: bit v - 1 of a term's words is set exactly where v is free in the term.
-- The rest is zero.
unfoldable pub free_area : Bundle → ℕ → ℕ → List ℕ
unfolding free_at bits_from tab
free_area b n m = tab (λ j. cond (ltb j (n * length b.terms)) (set_word (free_at b (suc (j / n))) (j % n)) 0) m
