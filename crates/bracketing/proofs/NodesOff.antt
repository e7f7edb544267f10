-- Every node's test, read off a spelling.
--     bracket_by_bracket   THE THEOREM
use Prim.Native.Nat.{ℕ, zero, suc}
use mathlib.Core.Path.{◌≡◌, refl, ap, ◌∙◌, sym}
use mathlib.Core.Bool.{Bool, true, false, cond, ◌&&◌, false≢true, and-true, and-false, and_assoc}
use mathlib.Core.List.{List, [], ◌∷◌, map}
use lib.Dec.{eqb, ltb}
use Rattle.reading.proofs.TermSorts.{known_first, known_rest}
use Rattle.bundle.specs.Bundle.{Bundle, sort_of_variable}
use Rattle.bundle.specs.Lists.{same_list, each, different}
use Rattle.logic.specs.Symbols.{truth_sort, signature_of, argument_sorts}
use Rattle.logic.proofs.Tests.{and_left, and_right}
use Rattle.logic.specs.Terms.{Binder}
use Rattle.grammar.specs.Bytes.{Connective, conjunction, disjunction, implication, equality, letting, name, sort}
use Rattle.grammar.specs.Grammar.{SortedVariable, declares, Formula, called, truth, bracketed, Bracketed, denies, connects, applies, quantifies, lets}
use Rattle.grammar.specs.Grammar.{Formulas, no_formula, and_formula, Bindings, no_binding, and_binding, Lexeme, opens, closes, word, spell}
use Rattle.grammar.specs.Grammar.{spell_variable, spell_variables, spell_bracketed, spell_formulas, spell_bindings}
use Rattle.grammar.specs.Names.{Name, symbolOnly, variableOnly, variable_names, names, names_inside, names_of_all, names_bound, all_known}
use Rattle.reading.specs.Called.{number_after, variable_called, symbol_called, known_in, VariableName}
use Rattle.reading.specs.Typing.{connective_symbol, sort_number, sorts_declared}
use Rattle.reading.specs.Local.{accepts, head_sort, head_sorts, bound_sorts, bound_names, fine, fine_inside, fine_all, fine_bound}
use Rattle.reading.proofs.KnownNames.{known_exactly}
use Rattle.bracketing.specs.Brackets.{after_formula, parts, parts_from}
use Rattle.bracketing.specs.Nodes.{joins, takes, as_declared, every, bound_from, distinct, inside_fine}
use Rattle.bracketing.specs.Nodes.{sort_from, fine_from, BracketByBracket}
use Rattle.bracketing.proofs.BracketLaws.{skip_whole, skip_variable_list, parts_formula, parts_binding}
use Rattle.bracketing.proofs.SortsOff.{sort_off}

-- ---- truth values

-- a node's own test is made before those of its parts, and Local has it last
own_last : (t p r : Bool) → (t && (p && r)) ≡ ((p && t) && r)
own_last true true r = refl
own_last true false r = refl
own_last false true r = refl
own_last false false r = refl

own_last_2 : (t p q r : Bool) → (t && (p && (q && r))) ≡ ((p && (q && t)) && r)
own_last_2 t true q r = own_last t q r
own_last_2 t false q r = and-false t

own_last_3 : (t p q s r : Bool) → (t && (p && (q && (s && r)))) ≡ ((p && (q && (s && t))) && r)
own_last_3 t true q s r = own_last_2 t q s r
own_last_3 t false q s r = and-false t

module _ (b : Bundle) where
  abbrev Known : List Name → Type 0
  Known ns = all_known (known_in b) ns ≡ true

  -- ---- names

  abbrev name_as : (w : List ℕ) → Name
  name_as w = record { place = variableOnly; spelled = w }

  abbrev symbol_as : (w : List ℕ) → Name
  symbol_as w = record { place = symbolOnly; spelled = w }

  variables_known : (xs : List SortedVariable) (ns : List Name) → Known (variable_names xs ns) → Known ns
  unfolding variable_names
  variables_known [] ns e = e
  variables_known (declares x s ∷ xs) ns e = variables_known xs ns (known_rest b (name_as x) (variable_names xs ns) e)

  mutual
    unfolding names

    after_known : (φ : Formula) (ns : List Name) → Known (names φ ns) → Known ns
    after_known (called w) ns e = known_rest b _ ns e
    after_known (truth v) ns e = e
    after_known (bracketed φ) ns e = inside_known φ ns e

    inside_known : (φ : Bracketed) (ns : List Name) → Known (names_inside φ ns) → Known ns
    inside_known (denies φ) ns e = after_known φ ns e
    inside_known (connects c φ ψ) ns e = after_known ψ ns (after_known φ (names ψ ns) e)
    inside_known (applies f φ φs) ns e = all_known_lem φs ns (after_known φ (names_of_all φs ns) (known_rest b _ _ e))
    inside_known (quantifies q x xs φ) ns e = after_known φ ns (variables_known (x ∷ xs) (names φ ns) e)
    inside_known (lets x φ xs ψ) ns e =
        after_known ψ ns (bound_known xs (names ψ ns) (after_known φ (names_bound xs (names ψ ns)) (known_rest b _ _ e)))

    all_known_lem : (φs : Formulas) (ns : List Name) → Known (names_of_all φs ns) → Known ns
    all_known_lem no_formula ns e = e
    all_known_lem (and_formula φ φs) ns e = all_known_lem φs ns (after_known φ (names_of_all φs ns) e)

    bound_known : (xs : Bindings) (ns : List Name) → Known (names_bound xs ns) → Known ns
    bound_known no_binding ns e = e
    bound_known (and_binding x φ xs) ns e = bound_known xs ns (after_known φ (names_bound xs ns) (known_rest b _ _ e))

  -- a variable's name is no symbol's
  with_v : (w ds : List ℕ) → w ≡ 118 ∷ ds → symbol_called b w ≡ 0
  unfolding symbol_called number_after
  with_v w ds e = rw e refl

  no_symbol_lem : (w : List ℕ) → known_in b (name_as w) ≡ true → symbol_called b w ≡ 0
  no_symbol_lem w e = let h : VariableName b w = (known_exactly b (name_as w)).0 e in with_v w h.1.digits h.1.letters

  a_symbol : (w : List ℕ) → known_in b (symbol_as w) ≡ true → ltb 0 (symbol_called b w) ≡ true
  unfolding known_in
  a_symbol w e = e

  a_variable : (w : List ℕ) → known_in b (name_as w) ≡ true → ltb 0 (variable_called b w) ≡ true
  unfolding known_in
  a_variable w e = e

  -- ---- heads

  takes_known : (f : ℕ) (ss : List ℕ) → ltb 0 f ≡ true → takes b f ss ≡ accepts b f ss
  unfolding takes
  takes_known zero ss e = absurd (false≢true e)
  takes_known (suc f) ss e = refl

  takes_none : (f : ℕ) (ss : List ℕ) → f ≡ 0 → takes b f ss ≡ true
  unfolding takes
  takes_none f ss e = rw e refl

  joins_accepts : (c : Connective) (s t : ℕ) → joins c s t ≡ accepts b (connective_symbol c s) (s ∷ t ∷ [])
  unfolding joins accepts connective_symbol signature_of argument_sorts
  joins_accepts conjunction s t = rw and-true
  joins_accepts disjunction s t = rw and-true
  joins_accepts implication s t = rw and-true
  joins_accepts equality s t = go (eqb s truth_sort)
    where
      go : (p : Bool) → (eqb (cond p 0 1) s && eqb (cond p 0 1) t) ≡ same_list (argument_sorts b (signature_of b (cond p 7 8))) (s ∷ t ∷ [])
      go true = rw and-true
      go false = rw and-true

  denies_accepts : (s : ℕ) → eqb truth_sort s ≡ accepts b 3 (s ∷ [])
  unfolding accepts signature_of argument_sorts
  denies_accepts s = rw and-true

  -- ---- arguments, a quantifier's variables, a let's bindings

  sorts_all_lem : (φs : Formulas) (rest : List Lexeme) → parts_from (sort_from b) (spell_formulas φs rest) ≡ head_sorts b φs
  unfolding spell_formulas head_sorts parts
  sorts_all_lem no_formula rest = refl
  sorts_all_lem (and_formula φ φs) rest =
      rw (parts_formula (sort_from b) φ (spell_formulas φs rest), sort_off b φ (spell_formulas φs rest), sorts_all_lem φs rest)

  declared_off : (xs : List SortedVariable) (rest : List Lexeme) → every (parts_from (as_declared b) (spell_variables xs rest)) ≡ sorts_declared b xs
  unfolding spell_variables sorts_declared parts every as_declared
  declared_off [] rest = refl
  declared_off (declares x s ∷ xs) rest =
      ap (λ (p : Bool). eqb (sort_of_variable b (variable_called b x)) (sort_number s) && p) (declared_off xs rest)

  -- a let's variables, 0 for each whose formula is not of its sort
  unfoldable fitting : Bindings → List ℕ
  fitting no_binding = []
  fitting (and_binding x φ xs) = cond (eqb (sort_of_variable b (variable_called b x)) (head_sort b φ)) (variable_called b x) 0 ∷ fitting xs

  bounds_off : (xs : Bindings) (rest : List Lexeme) → parts_from (bound_from b) (spell_bindings xs rest) ≡ fitting xs
  unfolding spell_bindings fitting parts bound_from
  bounds_off no_binding rest = refl
  bounds_off (and_binding x φ xs) rest =
      rw (parts_binding (bound_from b) x φ (spell_bindings xs rest), sort_off b φ (closes ∷ spell_bindings xs rest), bounds_off xs rest)

  some_fits : (p : Bool) (v : ℕ) → ltb 0 v ≡ true → ltb 0 (cond p v 0) ≡ p
  some_fits true v e = e
  some_fits false v e = refl

  fit_same : (p : Bool) (v : ℕ) → ltb 0 (cond p v 0) ≡ true → cond p v 0 ≡ v
  fit_same true v e = refl
  fit_same false v e = absurd (false≢true e)

  fitting_sorts : (xs : Bindings) (ns : List Name) → Known (names_bound xs ns)
      → each (ltb 0) (fitting xs) ≡ same_list (map (sort_of_variable b) (bound_names b xs)) (bound_sorts b xs)
  unfolding fitting bound_names bound_sorts names same_list each
  fitting_sorts no_binding ns e = refl
  fitting_sorts (and_binding x φ xs) ns e =
      rw (
        some_fits (eqb (sort_of_variable b (variable_called b x)) (head_sort b φ)) (variable_called b x) (a_variable x (known_first b _ _ e)),
        fitting_sorts xs ns (after_known φ (names_bound xs ns) (known_rest b _ _ e)),
      )

  fitting_names : (xs : Bindings) → each (ltb 0) (fitting xs) ≡ true → fitting xs ≡ bound_names b xs
  unfolding fitting bound_names each
  fitting_names no_binding e = refl
  fitting_names (and_binding x φ xs) e =
      let v : ℕ = cond (eqb (sort_of_variable b (variable_called b x)) (head_sort b φ)) (variable_called b x) 0 in
      rw (
        fit_same (eqb (sort_of_variable b (variable_called b x)) (head_sort b φ)) (variable_called b x) (and_left (ltb 0 v) (each (ltb 0) (fitting xs)) e),
        fitting_names xs (and_right (ltb 0 v) (each (ltb 0) (fitting xs)) e),
      )

  distinct_off : (xs : Bindings) (ns : List Name) → Known (names_bound xs ns)
      → distinct (fitting xs) ≡ (different (bound_names b xs) && same_list (map (sort_of_variable b) (bound_names b xs)) (bound_sorts b xs))
  unfolding distinct
  distinct_off xs ns e = go (each (ltb 0) (fitting xs)) refl
    where
      go : (p : Bool) → each (ltb 0) (fitting xs) ≡ p → (each (ltb 0) (fitting xs) && different (fitting xs))
          ≡ (different (bound_names b xs) && same_list (map (sort_of_variable b) (bound_names b xs)) (bound_sorts b xs))
      go true h = rw (← fitting_sorts xs ns e, h, fitting_names xs h, and-true)
      go false h = rw (← fitting_sorts xs ns e, h, and-false)

  -- ---- every node

  both : {p p' q q' : Bool} → p ≡ p' → q ≡ q' → (p && q) ≡ (p' && q')
  both e f = cc

  -- the bracket of a pair is no node
  pair_off : (w : List ℕ) (ls : List Lexeme) → known_in b (name_as w) ≡ true → inside_fine b (word (name w) ∷ ls) ≡ true
  unfolding inside_fine
  pair_off w ls e = takes_none (symbol_called b w) (parts_from (sort_from b) ls) (no_symbol_lem w e)

  symbol_off : (w : List ℕ) (ls : List Lexeme) (ss : List ℕ) → known_in b (symbol_as w) ≡ true → parts_from (sort_from b) ls ≡ ss
      → inside_fine b (word (name w) ∷ ls) ≡ accepts b (symbol_called b w) ss
  unfolding inside_fine
  symbol_off w ls ss k e =
      takes_known (symbol_called b w) (parts_from (sort_from b) ls) (a_symbol w k) ∙ ap (λ (xs : List ℕ). accepts b (symbol_called b w) xs) e

  connects_off : (c : Connective) (φ ψ : Formula) (rest : List Lexeme)
      → inside_fine b (spell_bracketed (connects c φ ψ) rest) ≡ accepts b (connective_symbol c (head_sort b φ)) (head_sort b φ ∷ head_sort b ψ ∷ [])
  unfolding inside_fine spell
  connects_off c φ ψ rest =
      let e : sort_from b (after_formula (spell φ (spell ψ (closes ∷ rest)))) ≡ head_sort b ψ =
      ap (sort_from b) (skip_whole φ (spell ψ (closes ∷ rest))) ∙ sort_off b ψ (closes ∷ rest) in
      ap (λ (s : ℕ). joins c s (sort_from b (after_formula (spell φ (spell ψ (closes ∷ rest)))))) (sort_off b φ (spell ψ (closes ∷ rest)))
      ∙ (ap (λ (s : ℕ). joins c (head_sort b φ) s) e ∙ joins_accepts c (head_sort b φ) (head_sort b ψ))

  applies_off : (f : List ℕ) (φ : Formula) (φs : Formulas) (rest : List Lexeme) → known_in b (symbol_as f) ≡ true
      → inside_fine b (spell_bracketed (applies f φ φs) rest) ≡ accepts b (symbol_called b f) (head_sort b φ ∷ head_sorts b φs)
  unfolding spell head_sorts
  applies_off f φ φs rest k = symbol_off f (spell φ (spell_formulas φs rest)) (head_sort b φ ∷ head_sorts b φs) k (sorts_all_lem (and_formula φ φs) rest)

  quantifies_off : (q : Binder) (x : SortedVariable) (xs : List SortedVariable) (φ : Formula) (rest : List Lexeme)
      → inside_fine b (spell_bracketed (quantifies q x xs φ) rest) ≡ (sorts_declared b (x ∷ xs) && eqb (head_sort b φ) truth_sort)
  unfolding inside_fine spell
  quantifies_off q x xs φ rest =
      both (declared_off (x ∷ xs) (spell φ (closes ∷ rest)))
      (ap (λ (s : ℕ). eqb s truth_sort) (ap (sort_from b) (skip_variable_list (x ∷ xs) (spell φ (closes ∷ rest))) ∙ sort_off b φ (closes ∷ rest)))

  lets_off : (x : List ℕ) (φ : Formula) (xs : Bindings) (ns : List Name) (rest : List Lexeme) → Known (names_bound (and_binding x φ xs) ns)
      → inside_fine b (word letting ∷ opens ∷ spell_bindings (and_binding x φ xs) rest)
      ≡ (different (bound_names b (and_binding x φ xs))
      && same_list (map (sort_of_variable b) (bound_names b (and_binding x φ xs))) (bound_sorts b (and_binding x φ xs)))
  unfolding inside_fine
  lets_off x φ xs ns rest e = ap distinct (bounds_off (and_binding x φ xs) rest) ∙ distinct_off (and_binding x φ xs) ns e

  -- the bracket of a list is no node
  list_off : (x : SortedVariable) (rest : List Lexeme) → inside_fine b (spell_variable x rest) ≡ true
  unfolding inside_fine spell_variable
  list_off (declares x s) rest = refl

  variables_off : (xs : List SortedVariable) (head : Bool) (ns : List Name) (rest : List Lexeme) → Known (variable_names xs ns)
      → fine_from b head (spell_variables xs rest) ≡ fine_from b false rest
  unfolding fine_from spell_variables variable_names
  variables_off [] head ns rest e = refl
  variables_off (declares x s ∷ xs) head ns rest e =
      both (pair_off x (word (sort s) ∷ closes ∷ spell_variables xs rest) (known_first b (name_as x) (variable_names xs ns) e))
      (variables_off xs false ns rest (known_rest b (name_as x) (variable_names xs ns) e))

  mutual
    unfolding fine_from fine spell names

    fine_off : (φ : Formula) (ns : List Name) (rest : List Lexeme) → Known (names φ ns)
        → fine_from b false (spell φ rest) ≡ (fine b φ && fine_from b false rest)
    fine_off (called w) ns rest e = refl
    fine_off (truth v) ns rest e = refl
    fine_off (bracketed φ) ns rest e = inside_off φ ns rest e

    inside_off : (φ : Bracketed) (ns : List Name) (rest : List Lexeme) → Known (names_inside φ ns)
        → (inside_fine b (spell_bracketed φ rest) && fine_from b true (spell_bracketed φ rest)) ≡ (fine_inside b φ && fine_from b false rest)
    inside_off (denies φ) ns rest e =
        both (ap (eqb truth_sort) (sort_off b φ (closes ∷ rest)) ∙ denies_accepts (head_sort b φ)) (fine_off φ ns (closes ∷ rest) e)
        ∙ own_last (accepts b 3 (head_sort b φ ∷ [])) (fine b φ) (fine_from b false rest)
    inside_off (connects c φ ψ) ns rest e =
        both (connects_off c φ ψ rest)
        (fine_off φ (names ψ ns) (spell ψ (closes ∷ rest)) e ∙ ap (λ (p : Bool). fine b φ && p) (fine_off ψ ns (closes ∷ rest) (after_known φ (names ψ ns) e)))
        ∙ own_last_2 (accepts b (connective_symbol c (head_sort b φ)) (head_sort b φ ∷ head_sort b ψ ∷ [])) (fine b φ) (fine b ψ) (fine_from b false rest)
    inside_off (applies f φ φs) ns rest e =
        let k : Known (names φ (names_of_all φs ns)) = known_rest b (symbol_as f) (names φ (names_of_all φs ns)) e in
        both (applies_off f φ φs rest (known_first b (symbol_as f) (names φ (names_of_all φs ns)) e))
        (fine_off φ (names_of_all φs ns) (spell_formulas φs rest) k
        ∙ ap (λ (p : Bool). fine b φ && p) (all_off φs ns rest (after_known φ (names_of_all φs ns) k)))
        ∙ own_last_2 (accepts b (symbol_called b f) (head_sort b φ ∷ head_sorts b φs)) (fine b φ) (fine_all b φs) (fine_from b false rest)
    inside_off (quantifies q x xs φ) ns rest e =
        both (quantifies_off q x xs φ rest)
        (both (list_off x (spell_variables xs (spell φ (closes ∷ rest)))) (variables_off (x ∷ xs) true (names φ ns) (spell φ (closes ∷ rest)) e)
        ∙ fine_off φ ns (closes ∷ rest) (variables_known (x ∷ xs) (names φ ns) e))
        ∙ own_last (sorts_declared b (x ∷ xs) && eqb (head_sort b φ) truth_sort) (fine b φ) (fine_from b false rest)
    inside_off (lets x φ xs ψ) ns rest e =
        let k : Known (names φ (names_bound xs (names ψ ns))) = known_rest b (name_as x) (names φ (names_bound xs (names ψ ns))) e in
        let l : Known (names_bound xs (names ψ ns)) = after_known φ (names_bound xs (names ψ ns)) k in
        both (lets_off x φ xs (names ψ ns) (spell ψ (closes ∷ rest)) e)
        (both (pair_off x (spell φ (closes ∷ spell_bindings xs (spell ψ (closes ∷ rest)))) (known_first b (name_as x) _ e))
        (fine_off φ (names_bound xs (names ψ ns)) (closes ∷ spell_bindings xs (spell ψ (closes ∷ rest))) k
        ∙ ap (λ (p : Bool). fine b φ && p)
        (bound_off xs (names ψ ns) (spell ψ (closes ∷ rest)) l
        ∙ ap (λ (p : Bool). fine_bound b xs && p) (fine_off ψ ns (closes ∷ rest) (bound_known xs (names ψ ns) l)))))
        ∙ own_last_3
        (different (bound_names b (and_binding x φ xs))
        && same_list (map (sort_of_variable b) (bound_names b (and_binding x φ xs))) (bound_sorts b (and_binding x φ xs))) (fine b φ) (fine_bound b xs) (fine b ψ)
        (fine_from b false rest)

    all_off : (φs : Formulas) (ns : List Name) (rest : List Lexeme) → Known (names_of_all φs ns)
        → fine_from b false (spell_formulas φs rest) ≡ (fine_all b φs && fine_from b false rest)
    all_off no_formula ns rest e = refl
    all_off (and_formula φ φs) ns rest e =
        fine_off φ (names_of_all φs ns) (spell_formulas φs rest) e
        ∙ (ap (λ (p : Bool). fine b φ && p) (all_off φs ns rest (after_known φ (names_of_all φs ns) e))
        ∙ sym (and_assoc (fine b φ) (fine_all b φs) (fine_from b false rest)))

    bound_off : (xs : Bindings) (ns : List Name) (rest : List Lexeme) → Known (names_bound xs ns)
        → fine_from b false (spell_bindings xs rest) ≡ (fine_bound b xs && fine_from b false rest)
    bound_off no_binding ns rest e = refl
    bound_off (and_binding x φ xs) ns rest e =
        let k : Known (names φ (names_bound xs ns)) = known_rest b (name_as x) (names φ (names_bound xs ns)) e in
        both (pair_off x (spell φ (closes ∷ spell_bindings xs rest)) (known_first b (name_as x) (names φ (names_bound xs ns)) e))
        (fine_off φ (names_bound xs ns) (closes ∷ spell_bindings xs rest) k
        ∙ ap (λ (p : Bool). fine b φ && p) (bound_off xs ns rest (after_known φ (names_bound xs ns) k)))
        ∙ sym (and_assoc (fine b φ) (fine_bound b xs) (fine_from b false rest))

pub bracket_by_bracket : BracketByBracket
bracket_by_bracket b φ rest k = record { sort = sort_off b φ rest; after = skip_whole φ rest; nodes = fine_off b φ [] rest k }
