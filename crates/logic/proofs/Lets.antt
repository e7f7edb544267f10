-- THE LAW of lets.
--     holds_let_exactly     a term holds a let exactly where one occurs in it
use Prim.Native.Nat.{ℕ}
use mathlib.Core.Path.{◌≡◌, refl}
use mathlib.Core.Bool.{true, false≢true}
use mathlib.Core.Logic.{inl, inr}
use mathlib.Core.List.{List}
use Rattle.std.proofs.lemmas.Bool.{or_cases, or_left, or_right}
use Rattle.logic.specs.Terms.{Term, Terms, var, app, bind, let_in, none, more}
use Rattle.logic.specs.Lets.{holds_let, hold_lets, OccursIn, OccursInSome, LetOccurs, HoldsLetExactly}

-- some let occurs in a term of a list
record SomeLet (ts : Terms) : Type 0 where
  pub variables : List ℕ
  pub bound : Terms
  pub body : Term
  pub occurs : OccursInSome (let_in variables bound body) ts

mutual
  unfolding holds_let

  there : (t : Term) → holds_let t ≡ true → LetOccurs t
  there (var x) e = absurd (false≢true e)
  there (app f ts) e =
      let o : SomeLet ts = theres ts e in
      record { variables = o.variables; bound = o.bound; body = o.body; occurs = inr o.occurs }
  there (bind q x t) e =
      let o : LetOccurs t = there t e in
      record { variables = o.variables; bound = o.bound; body = o.body; occurs = inr o.occurs }
  there (let_in vs ts u) e = record { variables = vs; bound = ts; body = u; occurs = inl refl }

  theres : (ts : Terms) → hold_lets ts ≡ true → SomeLet ts
  theres none e = absurd (false≢true e)
  theres (more t ts) e = elim (or_cases (holds_let t) (hold_lets ts) e) [
    | inl h ↦ (let o : LetOccurs t = there t h in record { variables = o.variables; bound = o.bound; body = o.body; occurs = inl o.occurs })
    | inr h ↦ (let o : SomeLet ts = theres ts h in record { variables = o.variables; bound = o.bound; body = o.body; occurs = inr o.occurs })
  ]

module _ (vs : List ℕ) (bs : Terms) (body : Term) where
  mutual
    unfolding holds_let

    back : (t : Term) → OccursIn (let_in vs bs body) t → holds_let t ≡ true
    back (var x) o = cc
    back (app f ts) (inl o) = cc
    back (app f ts) (inr o) = backs ts o
    back (bind q x t) (inl o) = cc
    back (bind q x t) (inr o) = back t o
    back (let_in xs ts u) o = refl

    backs : (ts : Terms) → OccursInSome (let_in vs bs body) ts → hold_lets ts ≡ true
    backs none o = absurd o
    backs (more t ts) (inl o) = or_left (holds_let t) (hold_lets ts) (back t o)
    backs (more t ts) (inr o) = or_right (holds_let t) (hold_lets ts) (backs ts o)

pub holds_let_exactly : HoldsLetExactly
holds_let_exactly t = (there t, λ o. back o.variables o.bound o.body t o.occurs)
