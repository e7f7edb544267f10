-- The stack machine on lexemes reads exactly the spellings.
--     moves       a move puts one lexeme before what its parts spell
--     sound       what the machine reads is spelled by the lexemes
--     reads       THE THEOREM: it reads every formula from its spelling; so spellings are different
use mathlib.Core.Path.{◌≡◌, refl, sym, ap, ◌∙◌}
use mathlib.Core.List.{List, [], ◌∷◌, ◌++◌}
use mathlib.Core.Option.{Option, none, some, none-ne-some, some-injective}
use Rattle.grammar.specs.Bytes.{constant, negation, connective, quantifier, letting, sort, name}
use Rattle.grammar.specs.Grammar.{SortedVariable, declares, Formula, called, truth, bracketed, Bracketed, denies, connects, applies, quantifies}
use Rattle.grammar.specs.Grammar.{lets, Formulas, no_formula, and_formula, Bindings, no_binding, and_binding, Lexeme, opens, closes, word, stray}
use Rattle.grammar.specs.Grammar.{spell, spell_variable, spell_variables, spell_bracketed, spell_formulas, spell_bindings, spelling}
use Rattle.grammar.specs.Parser.{Due, formula, formulas, inside, opener, closer, sorted, sorteds, bound, bounds, variable, sortName, One, Fill}
use Rattle.grammar.specs.Parser.{spell_one, spell_fill, Move, on_formula, on_formulas, on_inside, on_variable, on_sort, advance, Stack, split, and_then}
use Rattle.grammar.specs.Parser.{push, takes, feed, complete, run, start}

-- ---- moves

abbrev Sound : (d : Due) → Lexeme → Option (Move d) → Type 0
Sound d l none = Unit {0}
Sound d l (some m) = (g : Fill m.next) (rest : List Lexeme) → spell_one d (m.back g) rest ≡ l ∷ spell_fill m.next g rest

pub moves : (d : Due) (l : Lexeme) → Sound d l (advance d l)
unfolding advance on_formula on_formulas on_inside on_variable on_sort spell_one spell_fill
moves formula opens = λ g rest. refl
moves formula closes = tt
moves formula (word (constant v)) = λ g rest. refl
moves formula (word negation) = tt
moves formula (word (connective c)) = tt
moves formula (word (quantifier q)) = tt
moves formula (word letting) = tt
moves formula (word (sort s)) = tt
moves formula (word (name w)) = λ g rest. refl
moves formula stray = tt
moves formulas opens = λ g rest. refl
moves formulas closes = λ g rest. refl
moves formulas (word (constant v)) = λ g rest. refl
moves formulas (word negation) = tt
moves formulas (word (connective c)) = tt
moves formulas (word (quantifier q)) = tt
moves formulas (word letting) = tt
moves formulas (word (sort s)) = tt
moves formulas (word (name w)) = λ g rest. refl
moves formulas stray = tt
moves inside opens = tt
moves inside closes = tt
moves inside (word (constant v)) = tt
moves inside (word negation) = λ g rest. refl
moves inside (word (connective c)) = λ g rest. refl
moves inside (word (quantifier q)) = λ g rest. refl
moves inside (word letting) = λ g rest. refl
moves inside (word (sort s)) = tt
moves inside (word (name w)) = λ g rest. refl
moves inside stray = tt
moves opener opens = λ g rest. refl
moves opener closes = tt
moves opener (word w) = tt
moves opener stray = tt
moves closer opens = tt
moves closer closes = λ g rest. refl
moves closer (word w) = tt
moves closer stray = tt
moves sorted opens = λ g rest. refl
moves sorted closes = tt
moves sorted (word w) = tt
moves sorted stray = tt
moves sorteds opens = λ g rest. refl
moves sorteds closes = λ g rest. refl
moves sorteds (word w) = tt
moves sorteds stray = tt
moves bound opens = λ g rest. refl
moves bound closes = tt
moves bound (word w) = tt
moves bound stray = tt
moves bounds opens = λ g rest. refl
moves bounds closes = λ g rest. refl
moves bounds (word w) = tt
moves bounds stray = tt
moves variable opens = tt
moves variable closes = tt
moves variable (word (constant v)) = tt
moves variable (word negation) = tt
moves variable (word (connective c)) = tt
moves variable (word (quantifier q)) = tt
moves variable (word letting) = tt
moves variable (word (sort s)) = tt
moves variable (word (name w)) = λ g rest. refl
moves variable stray = tt
moves sortName opens = tt
moves sortName closes = tt
moves sortName (word (constant v)) = tt
moves sortName (word negation) = tt
moves sortName (word (connective c)) = tt
moves sortName (word (quantifier q)) = tt
moves sortName (word letting) = tt
moves sortName (word (sort s)) = λ g rest. refl
moves sortName (word (name w)) = tt
moves sortName stray = tt

-- ---- what is read is spelled

spell_split : (τ σ : List Due) (f : Fill (τ ++ σ)) (rest : List Lexeme)
    → spell_fill (τ ++ σ) f rest ≡ spell_fill τ (split τ σ f).0 (spell_fill σ (split τ σ f).1 rest)
unfolding spell_fill
spell_split [] σ f rest = refl
spell_split (d ∷ τ) σ f rest = ap (spell_one d f.0) (spell_split τ σ f.1 rest)

module _ {A : Type 0} where
  -- what is due is filled so that the lexemes spell it and the whole is a
  abbrev pub Found : (σ : List Due) → (Fill σ → A) → List Lexeme → A → Type 0
  Found σ k ls a = (f : Fill σ) × (k f ≡ a) × (spell_fill σ f [] ≡ ls)

  pub sound : (ls : List Lexeme) (σ : List Due) (k : Fill σ → A) (a : A) → run ls (record { due = σ; back = k }) ≡ some a → Found σ k ls a
  unfolding run feed takes complete and_then push spell_fill
  sound [] [] k a e = (tt, cc, refl)
  sound [] (d ∷ σ) k a e = absurd (none-ne-some a e)
  sound (l ∷ ls) [] k a e = absurd (none-ne-some a e)
  sound (l ∷ ls) (d ∷ σ) k a e = go (advance d l) (moves d l) (λ σ' k'. sound ls σ' k' a) e
    where
      go : (o : Option (Move d)) → Sound d l o → ((σ' : List Due) (k' : Fill σ' → A) → run ls (record { due = σ'; back = k' }) ≡ some a → Found σ' k' ls a)
          → and_then (and_then (and_then o (λ m. some (push d σ k m))) (feed ls)) (λ s. complete s.due s.back) ≡ some a → Found (d ∷ σ) k (l ∷ ls) a
      go none h rec e = absurd (none-ne-some a e)
      go (some m) h rec e =
          let r = rec (m.next ++ σ) (λ f. k (m.back (split m.next σ f).0, (split m.next σ f).1)) e in
          ((m.back (split m.next σ r.0).0, (split m.next σ r.0).1), r.1, h _ _ ∙ ap (l ∷◌) (sym (spell_split m.next σ r.0 []) ∙ r.2))

-- ---- every spelling is read

module _ {A : Type 0} where
  abbrev at : (d : Due) (σ : List Due) → (Fill (d ∷ σ) → A) → Stack A
  at d σ k = record { due = d ∷ σ; back = k }

  abbrev past : (d : Due) (x : One d) (σ : List Due) → (Fill (d ∷ σ) → A) → Stack A
  past d x σ k = record { due = σ; back = λ f. k (x, f) }

  reads_variable : (x : SortedVariable) (ls : List Lexeme) (σ : List Due) (k : Fill (sorted ∷ σ) → A)
      → feed (spell_variable x ls) (at sorted σ k) ≡ feed ls (past sorted x σ k)
  unfolding spell_variable feed takes and_then push advance on_variable on_sort
  reads_variable (declares x s) ls σ k = refl

  reads_variables : (xs : List SortedVariable) (ls : List Lexeme) (σ : List Due) (k : Fill (sorteds ∷ σ) → A)
      → feed (spell_variables xs ls) (at sorteds σ k) ≡ feed ls (past sorteds xs σ k)
  unfolding spell_variables feed takes and_then push advance on_variable on_sort
  reads_variables [] ls σ k = refl
  reads_variables (declares x s ∷ xs) ls σ k = reads_variables xs ls σ (λ f. k (declares x s ∷ f.0, f.1))

  -- among formulas, one is read as where it alone is due
  first_formula : (φ : Formula) (ls : List Lexeme) (σ : List Due) (k : Fill (formulas ∷ σ) → A)
      → feed (spell φ ls) (at formulas σ k) ≡ feed (spell φ ls) (at formula (formulas ∷ σ) (λ f. k (and_formula f.0 f.1.0, f.1.1)))
  unfolding spell feed takes and_then push advance on_formula on_formulas
  first_formula (called w) ls σ k = refl
  first_formula (truth v) ls σ k = refl
  first_formula (bracketed b) ls σ k = refl

  mutual
    unfolding spell spell_variable spell_variables feed takes and_then push advance on_formula on_formulas on_inside on_variable on_sort

    pub reads : (φ : Formula) (ls : List Lexeme) (σ : List Due) (k : Fill (formula ∷ σ) → A) → feed (spell φ ls) (at formula σ k) ≡ feed ls (past formula φ σ k)
    reads (called w) ls σ k = refl
    reads (truth v) ls σ k = refl
    reads (bracketed b) ls σ k = reads_inside b ls σ (λ f. k (bracketed f.0, f.1))

    reads_inside : (b : Bracketed) (ls : List Lexeme) (σ : List Due) (k : Fill (inside ∷ σ) → A)
        → feed (spell_bracketed b ls) (at inside σ k) ≡ feed ls (past inside b σ k)
    reads_inside (denies φ) ls σ k = reads φ (closes ∷ ls) (closer ∷ σ) (λ f. k (denies f.0, f.1.1))
    reads_inside (connects c φ ψ) ls σ k =
        reads φ (spell ψ (closes ∷ ls)) (formula ∷ closer ∷ σ) (λ f. k (connects c f.0 f.1.0, f.1.1.1))
        ∙ reads ψ (closes ∷ ls) (closer ∷ σ) (λ f. k (connects c φ f.0, f.1.1))
    reads_inside (applies w φ φs) ls σ k =
        reads φ (spell_formulas φs ls) (formulas ∷ σ) (λ f. k (applies w f.0 f.1.0, f.1.1))
        ∙ reads_formulas φs ls σ (λ f. k (applies w φ f.0, f.1))
    reads_inside (quantifies q x xs φ) ls σ k =
        reads_variable x (spell_variables xs (spell φ (closes ∷ ls))) (sorteds ∷ formula ∷ closer ∷ σ)
        (λ f. k (quantifies q f.0 f.1.0 f.1.1.0, f.1.1.1.1))
        ∙ reads_variables xs (spell φ (closes ∷ ls)) (formula ∷ closer ∷ σ) (λ f. k (quantifies q x f.0 f.1.0, f.1.1.1))
        ∙ reads φ (closes ∷ ls) (closer ∷ σ) (λ f. k (quantifies q x xs f.0, f.1.1))
    reads_inside (lets x φ xs ψ) ls σ k =
        reads φ (closes ∷ spell_bindings xs (spell ψ (closes ∷ ls))) (closer ∷ bounds ∷ formula ∷ closer ∷ σ)
        (λ f. k (lets x f.0 f.1.1.0 f.1.1.1.0, f.1.1.1.1.1))
        ∙ reads_bindings xs (spell ψ (closes ∷ ls)) (formula ∷ closer ∷ σ) (λ f. k (lets x φ f.0 f.1.0, f.1.1.1))
        ∙ reads ψ (closes ∷ ls) (closer ∷ σ) (λ f. k (lets x φ xs f.0, f.1.1))

    reads_formulas : (φs : Formulas) (ls : List Lexeme) (σ : List Due) (k : Fill (formulas ∷ σ) → A)
        → feed (spell_formulas φs ls) (at formulas σ k) ≡ feed ls (past formulas φs σ k)
    reads_formulas no_formula ls σ k = refl
    reads_formulas (and_formula φ φs) ls σ k =
        first_formula φ (spell_formulas φs ls) σ k
        ∙ reads φ (spell_formulas φs ls) (formulas ∷ σ) (λ f. k (and_formula f.0 f.1.0, f.1.1))
        ∙ reads_formulas φs ls σ (λ f. k (and_formula φ f.0, f.1))

    reads_bindings : (xs : Bindings) (ls : List Lexeme) (σ : List Due) (k : Fill (bounds ∷ σ) → A)
        → feed (spell_bindings xs ls) (at bounds σ k) ≡ feed ls (past bounds xs σ k)
    reads_bindings no_binding ls σ k = refl
    reads_bindings (and_binding x φ xs) ls σ k =
        reads φ (closes ∷ spell_bindings xs ls) (closer ∷ bounds ∷ σ) (λ f. k (and_binding x f.0 f.1.1.0, f.1.1.1))
        ∙ reads_bindings xs ls σ (λ f. k (and_binding x φ f.0, f.1))

-- ---- spellings and readings

pub reads_spelling : (φ : Formula) → run (spelling φ) start.stack ≡ some φ
unfolding run spelling feed and_then complete start
reads_spelling φ = rw (reads φ [] [] (λ f. f.0))

-- A spelling has one formula.
pub spelling_injective : (φ ψ : Formula) → spelling φ ≡ spelling ψ → φ ≡ ψ
spelling_injective φ ψ e = some-injective φ ψ (sym (reads_spelling φ) ∙ ap (λ ls. run ls start.stack) e ∙ reads_spelling ψ)

-- The machine reads φ exactly from its spelling.
pub spelled : (ls : List Lexeme) (φ : Formula) → run ls start.stack ≡ some φ → ls ≡ spelling φ
unfolding start spelling spell_fill spell_one
spelled ls φ e = let r = sound ls (formula ∷ []) (λ f. f.0) φ e in sym r.2 ∙ ap (λ ψ. spell ψ []) r.1
