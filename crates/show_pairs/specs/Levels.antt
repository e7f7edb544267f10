-- The terms of a level, its words, what it binds, and where it stands among others.
use Rattle.std.specs.Prelude.{ℕ, suc, ◌-◌, ◌≡◌, Bool, true, false, cond, List, ◌∷◌, length, drop, eqb}
use Rattle.bundle.specs.Bundle.{Bundle, term_of}
use Rattle.bundle.specs.Links.{items}
use Rattle.bundle.specs.Lists.{has}
use Rattle.logic.specs.Terms.{Kind, variable, application, binder, letting, other, kind_of}
use Rattle.show_pairs.specs.declared.path.Level.{Level}
use Rattle.show_pairs.specs.declared.path.Side.{Side}
use Rattle.show_pairs.specs.declared.path.Side.TheVariants.{Left, Right}

-- that on a side
abbrev pub term_on : Side → Level → ℕ
term_on Left l = l.left
term_on Right l = l.right

-- a word of it, by number: the left term, the right one, their links, 1 where the walk is in the bodies; else 0
unfoldable pub word_on : ℕ → Level → ℕ
word_on n l = cond (eqb n 0) l.left (cond (eqb n 1) l.right (cond (eqb n 2) l.left_link (cond (eqb n 3) l.right_link (cond (eqb n 4) (cond l.in_body 1 0) 0))))

-- term t binds x: a binder its variable, a let those of its list
abbrev pub binds_by : Kind → Bool → Bool → Bool
binds_by variable one list = false
binds_by application one list = false
binds_by (binder q) one list = one
binds_by letting one list = list
binds_by other one list = false

abbrev pub binds_in : Bundle → ℕ → ℕ → Bool
binds_in b t x = binds_by (kind_of (term_of b t).kind) (eqb (term_of b t).a x) (has x (items b (term_of b t).a))

-- a level is crossed, and its term t binds x
abbrev pub Crossed : Bundle → Level → ℕ → ℕ → Type 0
Crossed b level t x = (level.in_body ≡ true) × (binds_in b t x ≡ true)

-- some levels end with one and the rest after it
abbrev pub EndsWith : List Level → Level → List Level → Type 0
EndsWith levels level rest = drop (length levels - suc (length rest)) levels ≡ level ∷ rest
