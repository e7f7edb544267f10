-- Terms that hold a let.
use Rattle.std.specs.Prelude.{ℕ, ◌≡◌, ◌⊎◌, ◌↔◌, Bool, true, false, ◌||◌, List}
use Rattle.logic.specs.Terms.{Term, Terms, var, app, bind, let_in, none, more}

-- It holds a let if it is one, or if an argument, bound term or body of it holds one.
unfoldable mutual
  pub holds_let : Term → Bool
  holds_let (var x) = false
  holds_let (app f ts) = hold_lets ts
  holds_let (bind q x t) = holds_let t
  holds_let (let_in vs ts u) = true

  pub hold_lets : Terms → Bool
  hold_lets none = false
  hold_lets (more t ts) = holds_let t || hold_lets ts

-- s occurs in a term: it is that term, or it occurs in an argument, a bound term or the body
abbrev mutual
  pub OccursIn : Term → Term → Type 0
  OccursIn s (var x) = s ≡ var x
  OccursIn s (app f ts) = (s ≡ app f ts) ⊎ OccursInSome s ts
  OccursIn s (bind q x t) = (s ≡ bind q x t) ⊎ OccursIn s t
  OccursIn s (let_in vs ts u) = (s ≡ let_in vs ts u) ⊎ OccursInSome s ts ⊎ OccursIn s u

  pub OccursInSome : Term → Terms → Type 0
  OccursInSome s none = ⊥
  OccursInSome s (more t ts) = OccursIn s t ⊎ OccursInSome s ts

-- some let occurs in it
pub record LetOccurs (t : Term) : Type 0 where
  pub variables : List ℕ
  pub bound : Terms
  pub body : Term
  pub occurs : OccursIn (let_in variables bound body) t

-- `holds_let` is true exactly where a let occurs; proofs/Lets.antt has it under the same name.
abbrev pub HoldsLetExactly : Type 0
HoldsLetExactly = (t : Term) → (holds_let t ≡ true) ↔ LetOccurs t
