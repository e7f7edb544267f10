-- Which formulas are well sorted (else 8), in propositions: `WellSorted b φ s` says that φ is well sorted, without repeats in a let, and of sort s.
-- Names are taken for what they name; that they are declared is said in Called.
use Rattle.std.specs.Prelude.{ℕ, zero, suc, ◌≡◌, ◌⊎◌, ◌↔◌, List, [], ◌∷◌}
use Rattle.std.proofs.Math.Option.{some}
use Rattle.bundle.specs.Bundle.{Bundle, sort_of_variable}
use Rattle.logic.specs.Lists.{Different}
use Rattle.logic.specs.Symbols.{truth_sort, item_sort, signature_of, argument_sorts, result_sort}
use Rattle.grammar.specs.Bytes.{Connective, conjunction, disjunction, implication, equality}
use Rattle.grammar.specs.Grammar.{SortedVariable, declares, Formula, called, truth, bracketed, Bracketed, denies, connects, applies, quantifies, lets}
use Rattle.grammar.specs.Grammar.{Formulas, no_formula, and_formula, Bindings, no_binding, and_binding}
use Rattle.reading.specs.Called.{variable_called, symbol_called}
use Rattle.reading.specs.Typing.{Typed, sort_number, sorts}
use Rattle.reading.specs.Local.{bound_names, plain}

-- symbol f takes arguments of the sorts ss and gives the sort s
pub record Takes (b : Bundle) (f : ℕ) (ss : List ℕ) (s : ℕ) : Type 0 where
  pub arguments : argument_sorts b (signature_of b f) ≡ ss
  pub result : s ≡ result_sort b (signature_of b f)

-- a name alone: the variable x, where there is one, or else the symbol f with no argument
abbrev pub AloneSorted : Bundle → (x f s : ℕ) → Type 0
AloneSorted b zero f s = Takes b f [] s
AloneSorted b (suc x) f s = s ≡ sort_of_variable b (suc x)

-- and, or and => join truths; = joins two truths or two items
abbrev pub Joins : Connective → ℕ → Type 0
Joins conjunction s = s ≡ truth_sort
Joins disjunction s = s ≡ truth_sort
Joins implication s = s ≡ truth_sort
Joins equality s = (s ≡ truth_sort) ⊎ (s ≡ item_sort)

-- each variable of a quantifier with its declared sort
abbrev pub WithDeclaredSorts : Bundle → List SortedVariable → Type 0
WithDeclaredSorts b [] = Unit {0}
WithDeclaredSorts b (declares x s ∷ xs) = (sort_of_variable b (variable_called b x) ≡ sort_number s) × WithDeclaredSorts b xs

abbrev mutual
  pub WellSorted : Bundle → Formula → ℕ → Type 0
  WellSorted b (called w) s = AloneSorted b (variable_called b w) (symbol_called b w) s
  WellSorted b (truth v) s = s ≡ truth_sort
  WellSorted b (bracketed φ) s = InsideSorted b φ s

  pub InsideSorted : Bundle → Bracketed → ℕ → Type 0
  InsideSorted b (denies φ) s = WellSorted b φ truth_sort × (s ≡ truth_sort)
  InsideSorted b (connects c φ ψ) s = (u : ℕ) × Joins c u × WellSorted b φ u × WellSorted b ψ u × (s ≡ truth_sort)
  InsideSorted b (applies f φ φs) s = (u : ℕ) × (us : List ℕ) × Takes b (symbol_called b f) (u ∷ us) s × WellSorted b φ u × AllSorted b φs us
  InsideSorted b (quantifies q x xs φ) s = WithDeclaredSorts b (x ∷ xs) × WellSorted b φ truth_sort × (s ≡ truth_sort)
  InsideSorted b (lets x φ xs ψ) s =
      Different (variable_called b x ∷ bound_names b xs) × WellSorted b φ (sort_of_variable b (variable_called b x)) × BoundSorted b xs × WellSorted b ψ s

  -- as many formulas as sorts, each of its sort
  pub AllSorted : Bundle → Formulas → List ℕ → Type 0
  AllSorted b no_formula [] = Unit {0}
  AllSorted b no_formula (s ∷ ss) = ⊥
  AllSorted b (and_formula φ φs) [] = ⊥
  AllSorted b (and_formula φ φs) (s ∷ ss) = WellSorted b φ s × AllSorted b φs ss

  -- each bound formula of its variable's sort
  pub BoundSorted : Bundle → Bindings → Type 0
  BoundSorted b no_binding = Unit {0}
  BoundSorted b (and_binding x φ xs) = WellSorted b φ (sort_of_variable b (variable_called b x)) × BoundSorted b xs

-- A formula has a term exactly where it is well sorted, and then of that sort.
abbrev pub TypingExactly : Type 0
TypingExactly = (b : Bundle) (φ : Formula) (t : Typed) → (sorts b φ ≡ some t) ↔ (WellSorted b φ t.sort × (t.term ≡ plain b φ))
