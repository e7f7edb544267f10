-- What is placed in one pass: the bundle b and the stack st before a call, b' and st' after each call that was not given up. D has the declarations.
use Rattle.std.specs.Prelude.{ℕ, ◌≡◌, true, false, List, [], ◌∷◌, ◌++◌, length, take, drop}
use Rattle.bundle.specs.Bundle.{Bundle, sort_of_variable}
use Rattle.logic.specs.Named.{binder_in}
use Rattle.logic.specs.Symbols.{truth_sort, signature_of, result_sort}
use Rattle.logic.specs.declared.kinds.Binder.{Binder as BinderName}
use Rattle.scratch.specs.Stack.{half_of, halves_of}
use Rattle.expansion.specs.Placed.{PlacedTerm, place_variable, place_application, place_binder, place_let}
use Rattle.reading.specs.Local.{accepts}
use Rattle.reading.specs.Typing.{sort_number}
use Rattle.lexing.specs.Words.{sort_in}
use Rattle.lexing.specs.declared.words.SortWord.{SortWord}
use Rattle.pass_tokens.specs.declared.Meaning.{Meaning}
use Rattle.pass_tokens.specs.declared.Meaning.TheVariants.{Variable, Symbol, Binder, Let, Sort}
use Rattle.pass_tokens.specs.Tokens.{SortedTo, Closed}

-- a variable of a quantifier's list, with its declared sort
pub record DeclaredTo (D : Bundle) (text rest : List ℕ) (x : ℕ) : Type 0 where
  pub said : SortWord
  pub listed : SortedTo (length D.variables) text rest (record { variable = x; sort = said })
  pub sort : sort_of_variable D x ≡ sort_number (sort_in said)

-- the pair is the last of the stack
pub record OnTop (st : List ℕ) (pair : ℕ) : Type 0 where
  pub below : List ℕ
  pub stacked : st ≡ below ++ (pair ∷ [])

-- the pair of a term and its sort is laid on the stack
pub record Laid (st : List ℕ) (term sort : ℕ) (st' : List ℕ) : Type 0 where
  pub pair : ℕ
  pub upper : half_of true pair ≡ term
  pub lower : half_of false pair ≡ sort
  pub stacked : st' ≡ st ++ (pair ∷ [])

-- b' is the bundle of p; p's term, of the sort s, is laid on the stack st
pub record PairPut (p : PlacedTerm) (s : ℕ) (st : List ℕ) (b' : Bundle) (st' : List ℕ) : Type 0 where
  pub bundle : b' ≡ p.bundle
  pub laid : Laid st p.term s st'

-- ---- what is placed

-- a symbol at the terms of the pairs from height h on
pub record ApplicationPut (D b : Bundle) (st : List ℕ) (symbol h : ℕ) (b' : Bundle) (st' : List ℕ) : Type 0 where
  pub takes : accepts D symbol (halves_of false (drop h st)) ≡ true
  pub put : PairPut (place_application b symbol (halves_of true (drop h st))) (result_sort D (signature_of D symbol)) (take h st) b' st'

-- a word alone, by what it means
abbrev pub AlonePut : (D b : Bundle) (st : List ℕ) (b' : Bundle) (st' : List ℕ) → Meaning → Type 0
AlonePut D b st b' st' (Variable x) = PairPut (place_variable b x) (sort_of_variable D x) st b' st'
AlonePut D b st b' st' (Symbol f) = (accepts D f [] ≡ true) × PairPut (place_application b f []) (result_sort D (signature_of D f)) st b' st'
AlonePut D b st b' st' (Binder q) = ⊥
AlonePut D b st b' st' Let = ⊥
AlonePut D b st b' st' (Sort s) = ⊥

-- a binder, in the place of its body
pub record BinderPut (b : Bundle) (st : List ℕ) (q : BinderName) (x : ℕ) (b' : Bundle) (st' : List ℕ) : Type 0 where
  pub body : ℕ
  pub top : OnTop st body
  pub put : PairPut (place_binder b (binder_in q) x (half_of true body)) truth_sort top.below b' st'

-- ---- and what is left of the text

pub record TruthClosed (text st rest : List ℕ) : Type 0 where
  pub body : ℕ
  pub top : OnTop st body
  pub truth : half_of false body ≡ truth_sort
  pub closed : Closed text rest

pub record Named (D : Bundle) (text st : List ℕ) (x : ℕ) (rest st' : List ℕ) : Type 0 where
  pub bound : ℕ
  pub top : OnTop st bound
  pub sort : sort_of_variable D x ≡ half_of false bound
  pub laid : Laid top.below (half_of true bound) x st'
  pub closed : Closed text rest

-- a let, in the place of its pairs, from height h on, and its body
pub record LetPut (text : List ℕ) (b : Bundle) (st : List ℕ) (h : ℕ) (rest : List ℕ) (b' : Bundle) (st' : List ℕ) : Type 0 where
  pub closed : Closed text rest
  pub body : ℕ
  pub top : OnTop st body
  pub put : PairPut (place_let b (halves_of false (drop h top.below)) (halves_of true (drop h top.below)) (half_of true body)) (half_of false body)
      (take h top.below) b' st'
