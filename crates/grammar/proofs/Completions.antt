-- Whatever is due can be supplied: every state of the parser is on the way to a text in the grammar.
--     supplied       from between lexemes
--     goes_on_lem        THE LAW: from every viable state
use Prim.Native.Nat.{ℕ}
use mathlib.Core.Path.{◌≡◌, refl, ap, ap₂, ◌∙◌}
use mathlib.Core.Bool.{Bool, true, false, ◌&&◌, ◌||◌, false≢true}
use mathlib.Core.List.{List, [], ◌∷◌, ◌++◌, append_assoc, append-nil}
use mathlib.Core.Option.{some}
use lib.Dec.{eqb}
use borrow.Author.Tests.{eqb-true}
use Rattle.grammar.specs.Bytes.{symbol, SortWord, bool, item, class_of, word_of}
use Rattle.grammar.specs.Bytes.{bytes, sort, name}
use Rattle.grammar.specs.Grammar.{declares, called, denies, no_formula, no_binding, word, Mode, between}
use Rattle.grammar.specs.Grammar.{comment, within, bracket, ends, outside, onwards, last, lexemes_from}
use Rattle.grammar.specs.Parser.{Due, formula, formulas, inside, opener, closer, sorted, sorteds, bound, bounds, variable, sortName, One, Fill}
use Rattle.grammar.specs.Parser.{Stack, and_then, advance, takes, push, feed, complete, run, starts, may_grow, viable, on_formula, on_formulas}
use Rattle.grammar.specs.Parser.{on_inside, on_variable, on_sort}
use Rattle.grammar.proofs.Words.{grows_name}

-- what supplies each that may be due
supply : Due → List ℕ → List ℕ
unfolding bytes
supply formula rest = bytes "~ " ++ rest
supply formulas rest = bytes ")" ++ rest
supply inside rest = bytes "not ~)" ++ rest
supply opener rest = bytes "(" ++ rest
supply closer rest = bytes ")" ++ rest
supply sorted rest = bytes "(~ Bool)" ++ rest
supply sorteds rest = bytes ")" ++ rest
supply bound rest = bytes "(~ ~)" ++ rest
supply bounds rest = bytes ")" ++ rest
supply variable rest = bytes "~ " ++ rest
supply sortName rest = bytes "Bool " ++ rest

abbrev supplied_as : (d : Due) → One d
supplied_as formula = called (126 ∷ [])
supplied_as formulas = no_formula
supplied_as inside = denies (called (126 ∷ []))
supplied_as opener = tt
supplied_as closer = tt
supplied_as sorted = declares (126 ∷ []) bool
supplied_as sorteds = []
supplied_as bound = (126 ∷ [], called (126 ∷ []))
supplied_as bounds = no_binding
supplied_as variable = 126 ∷ []
supplied_as sortName = bool

-- ---- runs that grow

Symbols : List ℕ → Type 0
Symbols [] = Unit {0}
Symbols (c ∷ cs) = (class_of c ≡ symbol) × Symbols cs

grow_by : (u w rest : List ℕ) → Symbols u → lexemes_from (within w) (u ++ rest) ≡ lexemes_from (within (w ++ u)) rest
unfolding lexemes_from Symbols ends onwards
grow_by [] w rest h = rw append-nil
grow_by (c ∷ u) w rest h = rw h.0 (grow_by u (w ++ (c ∷ [])) rest h.1 ∙ ap (λ v. lexemes_from (within v) rest) (append_assoc w (c ∷ []) u))

-- what is left of v after w
leaves : (w v : List ℕ) → Symbols v → starts w v ≡ true → (u : List ℕ) × (w ++ u ≡ v) × Symbols u
unfolding starts Symbols
leaves [] v s e = (v, refl, s)
leaves (x ∷ w) [] s e = absurd (false≢true e)
leaves (x ∷ w) (y ∷ v) s e = go (eqb x y) refl (leaves w v s.1) e
  where
    go : (b : Bool) → eqb x y ≡ b → (starts w v ≡ true → (u : List ℕ) × (w ++ u ≡ v) × Symbols u) → (b && starts w v) ≡ true
        → (u : List ℕ) × ((x ∷ w) ++ u ≡ y ∷ v) × Symbols u
    go true q f e = let r = f e in (r.0, ap₂ (λ a as'. a ∷ as') (eqb-true x y q) r.1, r.2)
    go false q f e = absurd (false≢true e)

module _ {A : Type 0} where
  supply_one : (d : Due) (σ : List Due) (k : Fill (d ∷ σ) → A) (rest : List ℕ)
      → run (lexemes_from between (supply d rest)) (record { due = d ∷ σ; back = k })
      ≡ run (lexemes_from between rest) (record { due = σ; back = λ f. k (supplied_as d, f) })
  unfolding supply bytes lexemes_from ends bracket onwards outside class_of word_of run feed takes and_then push advance on_formula on_formulas on_inside on_variable
      on_sort
  supply_one formula σ k rest = refl
  supply_one formulas σ k rest = refl
  supply_one inside σ k rest = refl
  supply_one opener σ k rest = refl
  supply_one closer σ k rest = refl
  supply_one sorted σ k rest = refl
  supply_one sorteds σ k rest = refl
  supply_one bound σ k rest = refl
  supply_one bounds σ k rest = refl
  supply_one variable σ k rest = refl
  supply_one sortName σ k rest = refl

  abbrev pub GoesOn : Mode → Stack A → Type 0
  GoesOn m s = (suffix : List ℕ) × (a : A) × (run (lexemes_from m suffix) s ≡ some a)

  pub supplied : (σ : List Due) (k : Fill σ → A) → GoesOn between (record { due = σ; back = k })
  unfolding lexemes_from last run feed and_then complete
  supplied [] k = ([], k tt, refl)
  supplied (d ∷ σ) k =
      let r = supplied σ (λ f. k (supplied_as d, f)) in
      (supply d r.0, r.1, supply_one d σ k r.0 ∙ r.2)

  -- ---- from within a word

  -- a run that ends in '~' is a name, and then a blank
  with_name : (w : List ℕ) (d : Due) (σ : List Due) (k : Fill (d ∷ σ) → A) (s : Stack A) → takes (d ∷ σ) k (word (name (w ++ (126 ∷ [])))) ≡ some s
      → GoesOn (within w) (record { due = d ∷ σ; back = k })
  unfolding lexemes_from class_of ends onwards outside run feed and_then bracket
  with_name w d σ k s e =
      let r = supplied s.due s.back in
      (126 ∷ 32 ∷ r.0, r.1, rw (grows_name w) (rw e r.2))

  with_sort : (w v : List ℕ) (s : SortWord) (σ : List Due) (k : Fill (sortName ∷ σ) → A) → Symbols v → word_of v ≡ sort s → starts w v ≡ true
      → GoesOn (within w) (record { due = sortName ∷ σ; back = k })
  unfolding lexemes_from class_of ends onwards outside run feed and_then bracket takes push advance on_sort
  with_sort w v s σ k sy q e =
      let r = supplied σ (λ f. k (s, f)) in
      let l = leaves w v sy e in
      (l.0 ++ (32 ∷ r.0), r.1, rw (grow_by l.0 w (32 ∷ r.0) l.2) (rw l.1 (rw q r.2)))

  sorts : (w : List ℕ) (σ : List Due) (k : Fill (sortName ∷ σ) → A) (b : Bool) → starts w (bytes "Bool") ≡ b → (b || starts w (bytes "Item")) ≡ true
      → GoesOn (within w) (record { due = sortName ∷ σ; back = k })
  unfolding bytes class_of word_of Symbols
  sorts w σ k true e h = with_sort w (bytes "Bool") bool σ k (refl, (refl, (refl, (refl, tt)))) refl e
  sorts w σ k false e h = with_sort w (bytes "Item") item σ k (refl, (refl, (refl, (refl, tt)))) refl h

  in_word : (w : List ℕ) (σ : List Due) (k : Fill σ → A) → may_grow w σ ≡ true → GoesOn (within w) (record { due = σ; back = k })
  unfolding may_grow takes and_then advance on_formula on_formulas on_inside on_variable
  in_word w [] k e = absurd (false≢true e)
  in_word w (formula ∷ σ) k e = with_name w formula σ k _ refl
  in_word w (formulas ∷ σ) k e = with_name w formulas σ k _ refl
  in_word w (inside ∷ σ) k e = with_name w inside σ k _ refl
  in_word w (opener ∷ σ) k e = absurd (false≢true e)
  in_word w (closer ∷ σ) k e = absurd (false≢true e)
  in_word w (sorted ∷ σ) k e = absurd (false≢true e)
  in_word w (sorteds ∷ σ) k e = absurd (false≢true e)
  in_word w (bound ∷ σ) k e = absurd (false≢true e)
  in_word w (bounds ∷ σ) k e = absurd (false≢true e)
  in_word w (variable ∷ σ) k e = with_name w variable σ k _ refl
  in_word w (sortName ∷ σ) k e = sorts w σ k (starts w (bytes "Bool")) refl e

  pub goes_on_lem : (m : Mode) (σ : List Due) (k : Fill σ → A) → viable m σ ≡ true → GoesOn m (record { due = σ; back = k })
  unfolding viable lexemes_from class_of ends onwards
  goes_on_lem between σ k e = supplied σ k
  goes_on_lem comment σ k e = let r = supplied σ k in (10 ∷ r.0, r.1, r.2)
  goes_on_lem (within w) σ k e = in_word w σ k e
