-- The files of document 01's twelve examples, as words: a line for the header, then for each section one, or two for a long one: symbols, variables,
-- terms, links, contexts, steps. Every accepted claim here is closed and of sort truth.
use Rattle.std.specs.Prelude.{ℕ, List, [], ◌∷◌}

-- Let x≃a in p(x,x) to p(a,a): the file that document 01 prints, where the claimed right is 4, step 3's right 4 and link 2's next 0.
abbrev pub printed : ℕ → ℕ → ℕ → List ℕ
printed right third next =
    1 ∷ 2 ∷ 1 ∷ 5 ∷ 6 ∷ 1 ∷ 4 ∷ 5 ∷ right
    ∷ 1 ∷ 0 ∷ 0 ∷ 1
    ∷ 1
    ∷ 1 ∷ 1 ∷ 0 ∷ 0 ∷ 2 ∷ 33 ∷ 0 ∷ 0 ∷ 2 ∷ 34 ∷ 1 ∷ 0 ∷ 2 ∷ 34 ∷ 3 ∷ 0 ∷ 5 ∷ 2 ∷ 4 ∷ 3
    ∷ 1 ∷ 2 ∷ 1 ∷ next ∷ 2 ∷ 4 ∷ 2 ∷ 0 ∷ 1 ∷ 6 ∷ 3 ∷ 0
    ∷ 2 ∷ 2 ∷ 4 ∷ 0
    ∷ 2 ∷ 0 ∷ 2 ∷ 2 ∷ 0 ∷ 1 ∷ 1 ∷ 1 ∷ 2 ∷ 0 ∷ 2 ∷ 1 ∷ 3 ∷ third ∷ 3 ∷ 5 ∷ 0 ∷ 5 ∷ 4 ∷ 5
    ∷ []

-- version 1, all else zero
abbrev pub bare : List ℕ
bare = 1 ∷ 0 ∷ 0 ∷ 0 ∷ 0 ∷ 0 ∷ 0 ∷ 0 ∷ 0 ∷ []

-- ∀y. let v≃f(y) in ∀z. p(v,z) to ∀y.∀y. p(f(y),y): the bundle of logic's proofs/CounterExample, which says what its records are.
-- Step 5 is the inner BIND. All else is good.
abbrev pub name_clash : List ℕ
name_clash =
    1 ∷ 2 ∷ 3 ∷ 11 ∷ 13 ∷ 5 ∷ 7 ∷ 8 ∷ 11
    ∷ 1 ∷ 1 ∷ 0 ∷ 2
    ∷ 1 ∷ 1 ∷ 1
    ∷ 1 ∷ 1 ∷ 0 ∷ 0 ∷ 1 ∷ 2 ∷ 0 ∷ 0 ∷ 1 ∷ 3 ∷ 0 ∷ 0 ∷ 2 ∷ 33 ∷ 1 ∷ 0 ∷ 2 ∷ 34 ∷ 4 ∷ 0 ∷ 3 ∷ 3 ∷ 5 ∷ 0 ∷ 5 ∷ 6 ∷ 7 ∷ 6
    ∷ 3 ∷ 1 ∷ 7 ∷ 0 ∷ 2 ∷ 34 ∷ 8 ∷ 0 ∷ 3 ∷ 1 ∷ 9 ∷ 0 ∷ 3 ∷ 1 ∷ 10 ∷ 0
    ∷ 1 ∷ 0 ∷ 1 ∷ 3 ∷ 1 ∷ 0 ∷ 2 ∷ 5 ∷ 3 ∷ 0 ∷ 2 ∷ 0 ∷ 4 ∷ 0 ∷ 4 ∷ 9 ∷ 1 ∷ 0 ∷ 3 ∷ 0 ∷ 1 ∷ 12 ∷ 5 ∷ 0 ∷ 6 ∷ 0
    ∷ 1 ∷ 1 ∷ 0 ∷ 0 ∷ 2 ∷ 1 ∷ 1 ∷ 1 ∷ 2 ∷ 6 ∷ 7 ∷ 2 ∷ 1 ∷ 1 ∷ 0 ∷ 3 ∷ 2 ∷ 10 ∷ 1 ∷ 4
    ∷ 1 ∷ 2 ∷ 4 ∷ 4 ∷ 0 ∷ 1 ∷ 5 ∷ 2 ∷ 4 ∷ 0 ∷ 1 ∷ 5 ∷ 3 ∷ 1 ∷ 0 ∷ 2 ∷ 5 ∷ 5 ∷ 9 ∷ 4 ∷ 4 ∷ 3 ∷ 6 ∷ 10 ∷ 7 ∷ 5 ∷ 2 ∷ 7 ∷ 10 ∷ 11
    ∷ 4 ∷ 0 ∷ 8 ∷ 11 ∷ 13
    ∷ []

-- Let x≃a in ∀x. p(x,x) to ∀x. p(x,x).
-- Terms 1 x, 2 a, 3 p(x,x), 4 ∀x. p(x,x), 5 the let. Contexts 1 x replaced by a, 2 then x fixed, 3 then x replaced by x.
-- Steps 1 a to a, 2 REFL, in context 2, from x to `image` (no other step needs it), 3 p(x,x) to itself, 4 BIND, 5 LET. All
-- else is good whatever `image` is.
abbrev pub fixed : ℕ → List ℕ
fixed image =
    1 ∷ 2 ∷ 1 ∷ 5 ∷ 6 ∷ 3 ∷ 5 ∷ 5 ∷ 4
    ∷ 1 ∷ 0 ∷ 0 ∷ 1
    ∷ 1
    ∷ 1 ∷ 1 ∷ 0 ∷ 0 ∷ 2 ∷ 33 ∷ 0 ∷ 0 ∷ 2 ∷ 34 ∷ 1 ∷ 0 ∷ 3 ∷ 1 ∷ 3 ∷ 0 ∷ 5 ∷ 2 ∷ 3 ∷ 4
    ∷ 1 ∷ 2 ∷ 1 ∷ 0 ∷ 2 ∷ 0 ∷ 3 ∷ 0 ∷ 1 ∷ 6 ∷ 4 ∷ 0
    ∷ 2 ∷ 2 ∷ 3 ∷ 0 ∷ 1 ∷ 1 ∷ 0 ∷ 1 ∷ 2 ∷ 2 ∷ 2 ∷ 2
    ∷ 2 ∷ 0 ∷ 2 ∷ 2 ∷ 0 ∷ 1 ∷ 2 ∷ 1 ∷ image ∷ 0 ∷ 1 ∷ 3 ∷ 3 ∷ 3 ∷ 0 ∷ 4 ∷ 1 ∷ 4 ∷ 4 ∷ 4 ∷ 5 ∷ 0 ∷ 5 ∷ 4 ∷ 5
    ∷ []

-- ∀x. let z≃p(x,x) in let x≃a in z to ∀x. p(a,a).
-- Terms 1 x, 2 z, 3 a, 4 p(x,x), 5 p(a,a), 6 let x≃a in z, 7 let z≃p(x,x) in 6, 8 ∀x. 7, 9 ∀x. p(a,a).
-- Contexts 1 x fixed, 2 then x replaced by x, 3 then z by p(x,x), 4 then x by a.
-- Steps 1 p(x,x) to itself, 2 a to a, 3 z to p(x,x), 4 x to a, 5 p(x,x) to p(a,a), 6 TRANS of 3 and 5, 7 and 8 LET, 9 BIND. All but step 6 is good.
abbrev pub unsettled : List ℕ
unsettled =
    1 ∷ 2 ∷ 2 ∷ 9 ∷ 14 ∷ 4 ∷ 9 ∷ 8 ∷ 9
    ∷ 1 ∷ 0 ∷ 0 ∷ 1
    ∷ 1 ∷ 0
    ∷ 1 ∷ 1 ∷ 0 ∷ 0 ∷ 1 ∷ 2 ∷ 0 ∷ 0 ∷ 2 ∷ 33 ∷ 0 ∷ 0 ∷ 2 ∷ 34 ∷ 1 ∷ 0 ∷ 2 ∷ 34 ∷ 3 ∷ 0 ∷ 5 ∷ 2 ∷ 4 ∷ 2 ∷ 5 ∷ 5 ∷ 7 ∷ 6
    ∷ 3 ∷ 1 ∷ 7 ∷ 0 ∷ 3 ∷ 1 ∷ 5 ∷ 0
    ∷ 1 ∷ 2 ∷ 1 ∷ 0 ∷ 3 ∷ 4 ∷ 3 ∷ 0 ∷ 2 ∷ 0 ∷ 4 ∷ 7 ∷ 4 ∷ 0 ∷ 3 ∷ 9 ∷ 5 ∷ 0 ∷ 2 ∷ 11 ∷ 6 ∷ 0 ∷ 1 ∷ 13 ∷ 7 ∷ 0 ∷ 8 ∷ 0
    ∷ 1 ∷ 1 ∷ 0 ∷ 0 ∷ 2 ∷ 2 ∷ 2 ∷ 1 ∷ 2 ∷ 5 ∷ 7 ∷ 2 ∷ 2 ∷ 2 ∷ 4 ∷ 3
    ∷ 1 ∷ 2 ∷ 4 ∷ 4 ∷ 0 ∷ 2 ∷ 3 ∷ 3 ∷ 3 ∷ 0 ∷ 1 ∷ 4 ∷ 2 ∷ 4 ∷ 0 ∷ 1 ∷ 4 ∷ 1 ∷ 3 ∷ 0 ∷ 2 ∷ 4 ∷ 4 ∷ 5 ∷ 6 ∷ 3 ∷ 4 ∷ 2 ∷ 5 ∷ 8
    ∷ 5 ∷ 3 ∷ 6 ∷ 5 ∷ 10 ∷ 5 ∷ 2 ∷ 7 ∷ 5 ∷ 12 ∷ 4 ∷ 0 ∷ 8 ∷ 9 ∷ 14
    ∷ []

-- Let x≃a, x≃a in p(x,x) to p(a,a): the printed file with the let, which is term 5, its context and the premises of LET changed to this.
abbrev pub repeated : List ℕ
repeated =
    1 ∷ 2 ∷ 1 ∷ 5 ∷ 7 ∷ 1 ∷ 4 ∷ 5 ∷ 4
    ∷ 1 ∷ 0 ∷ 0 ∷ 1
    ∷ 1
    ∷ 1 ∷ 1 ∷ 0 ∷ 0 ∷ 2 ∷ 33 ∷ 0 ∷ 0 ∷ 2 ∷ 34 ∷ 1 ∷ 0 ∷ 2 ∷ 34 ∷ 3 ∷ 0 ∷ 5 ∷ 1 ∷ 3 ∷ 3
    ∷ 1 ∷ 2 ∷ 1 ∷ 0 ∷ 2 ∷ 4 ∷ 2 ∷ 0 ∷ 1 ∷ 6 ∷ 1 ∷ 7 ∷ 3 ∷ 0
    ∷ 2 ∷ 1 ∷ 3 ∷ 0
    ∷ 2 ∷ 0 ∷ 2 ∷ 2 ∷ 0 ∷ 1 ∷ 1 ∷ 1 ∷ 2 ∷ 0 ∷ 2 ∷ 1 ∷ 3 ∷ 4 ∷ 3 ∷ 5 ∷ 0 ∷ 5 ∷ 4 ∷ 5
    ∷ []

-- Let x≃a in p(x,x), with four terms: 1 x, 2 a, 3 p(x,x), 4 the let. Lists: sorts of p, arguments, variables, bound terms.
abbrev pub job : List ℕ
job =
    1 ∷ 2 ∷ 1 ∷ 4 ∷ 6 ∷ 0 ∷ 0 ∷ 4 ∷ 0
    ∷ 1 ∷ 0 ∷ 0 ∷ 1
    ∷ 1
    ∷ 1 ∷ 1 ∷ 0 ∷ 0 ∷ 2 ∷ 33 ∷ 0 ∷ 0 ∷ 2 ∷ 34 ∷ 3 ∷ 0 ∷ 5 ∷ 5 ∷ 6 ∷ 3
    ∷ 1 ∷ 2 ∷ 1 ∷ 0 ∷ 1 ∷ 4 ∷ 1 ∷ 0 ∷ 1 ∷ 0 ∷ 2 ∷ 0
    ∷ []

-- The file that the writer makes of that job: steps CONG, REFL, REFL, CONG, LET; right is term 5, p(a,a).
abbrev pub file : List ℕ
file =
    1 ∷ 2 ∷ 1 ∷ 5 ∷ 13 ∷ 1 ∷ 5 ∷ 4 ∷ 5
    ∷ 1 ∷ 0 ∷ 0 ∷ 1
    ∷ 1
    ∷ 1 ∷ 1 ∷ 0 ∷ 0 ∷ 2 ∷ 33 ∷ 0 ∷ 0 ∷ 2 ∷ 34 ∷ 3 ∷ 0 ∷ 5 ∷ 5 ∷ 6 ∷ 3 ∷ 2 ∷ 34 ∷ 8 ∷ 0
    ∷ 1 ∷ 2 ∷ 1 ∷ 0 ∷ 1 ∷ 4 ∷ 1 ∷ 0 ∷ 1 ∷ 0 ∷ 2 ∷ 0 ∷ 2 ∷ 0 ∷ 2 ∷ 9 ∷ 2 ∷ 0 ∷ 2 ∷ 11 ∷ 3 ∷ 0 ∷ 1 ∷ 13 ∷ 4 ∷ 0
    ∷ 2 ∷ 5 ∷ 7 ∷ 0
    ∷ 2 ∷ 0 ∷ 2 ∷ 2 ∷ 0 ∷ 1 ∷ 1 ∷ 1 ∷ 2 ∷ 0 ∷ 1 ∷ 1 ∷ 1 ∷ 2 ∷ 0 ∷ 2 ∷ 1 ∷ 3 ∷ 5 ∷ 10 ∷ 5 ∷ 0 ∷ 4 ∷ 5 ∷ 12
    ∷ []

-- ∀x.∀y. let x≃y, y≃x in p(x,y) to ∀x.∀y. p(y,x).
-- Terms 1 x, 2 y, 3 p(x,y), 4 p(y,x), 5 let x≃y, y≃x in p(x,y), 6 ∀y. 5, 7 ∀x. 6, 8 ∀y. p(y,x), 9 ∀x. 8.
-- Contexts 1 x fixed, 2 then x replaced by x, 3 then y fixed, 4 then y replaced by y, 5 then x and y by y and x together.
-- Steps 1 y to y, 2 x to x, 3 REFL, in context 5, from x to `image`, 4 y to x, 5 p(x,y) to p(y,x), 6 LET, 7 and 8 BIND.
abbrev pub swapped : ℕ → List ℕ
swapped image =
    1 ∷ 1 ∷ 2 ∷ 9 ∷ 13 ∷ 5 ∷ 8 ∷ 7 ∷ 9
    ∷ 0 ∷ 1
    ∷ 1 ∷ 1
    ∷ 1 ∷ 1 ∷ 0 ∷ 0 ∷ 1 ∷ 2 ∷ 0 ∷ 0 ∷ 2 ∷ 33 ∷ 3 ∷ 0 ∷ 2 ∷ 33 ∷ 5 ∷ 0 ∷ 5 ∷ 3 ∷ 5 ∷ 3 ∷ 3 ∷ 2 ∷ 5 ∷ 0 ∷ 3 ∷ 1 ∷ 6 ∷ 0
    ∷ 3 ∷ 2 ∷ 4 ∷ 0 ∷ 3 ∷ 1 ∷ 8 ∷ 0
    ∷ 1 ∷ 2 ∷ 1 ∷ 0 ∷ 1 ∷ 4 ∷ 2 ∷ 0 ∷ 2 ∷ 6 ∷ 1 ∷ 0 ∷ 3 ∷ 8 ∷ 4 ∷ 0 ∷ 1 ∷ 10 ∷ 2 ∷ 11 ∷ 5 ∷ 0 ∷ 6 ∷ 0 ∷ 7 ∷ 0
    ∷ 1 ∷ 1 ∷ 0 ∷ 0 ∷ 2 ∷ 2 ∷ 2 ∷ 1 ∷ 1 ∷ 2 ∷ 0 ∷ 2 ∷ 2 ∷ 4 ∷ 4 ∷ 3 ∷ 2 ∷ 3 ∷ 5 ∷ 4
    ∷ 1 ∷ 4 ∷ 2 ∷ 2 ∷ 0 ∷ 1 ∷ 4 ∷ 1 ∷ 1 ∷ 0 ∷ 1 ∷ 5 ∷ 1 ∷ image ∷ 0 ∷ 1 ∷ 5 ∷ 2 ∷ 1 ∷ 0 ∷ 2 ∷ 5 ∷ 3 ∷ 4 ∷ 7 ∷ 5 ∷ 4 ∷ 5 ∷ 4 ∷ 9
    ∷ 4 ∷ 2 ∷ 6 ∷ 8 ∷ 12 ∷ 4 ∷ 0 ∷ 7 ∷ 9 ∷ 13
    ∷ []
