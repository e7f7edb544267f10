-- Terms that are well sorted beside a bundle's declarations.
--     TermSorted, TermsSorted     what is to hold of a term and of its parts
--     formula_sorted              THE LAW: the term of a well_sorted formula with declared names and no choice is well sorted, of the formula's sort
--     sort_in_lem, sorts_in           its sort is the same in a longer bundle
use Prim.Native.Nat.{ℕ, zero, suc}
use native.Mathlib.Omega.{arith}
use mathlib.Core.Path.{◌≡◌, refl, sym, ap, ap₂, ◌∙◌, subst}
use mathlib.Core.Bool.{Bool, true, false, cond, ◌||◌}
use mathlib.Core.List.{List, [], ◌∷◌, map}
use lib.ListN.{length}
use lib.Dec.{eqb, ltb}
use borrow.Author.Tests.{lt-ltb}
use Rattle.bundle.specs.Bundle.{Bundle, sort_of_variable}
use Rattle.logic.specs.declared.Signature.TheVariants.{Unknown}
use Rattle.logic.specs.Lists.{All, Different, Number}
use Rattle.logic.specs.Symbols.{truth_sort, symbol_kind, kind_of_symbol, signature, signature_of, argument_sorts, result_sort}
use Rattle.logic.specs.Terms.{Binder, forAll, exists, choice, Term, Terms, var, app, bind, let_in, none, more}
use Rattle.logic.specs.Sorts.{binder_sort, sort}
use Rattle.logic.specs.Longer.{Longer}
use Rattle.logic.proofs.Tests.{and_left, and_right}
use Rattle.logic.proofs.Images.{sorts_of}
use Rattle.logic.proofs.Kept.{variable_kept, result_kept}
use Rattle.grammar.specs.Bytes.{Connective, conjunction, disjunction, implication, equality}
use Rattle.grammar.specs.Grammar.{SortedVariable, declares, Formula, called, truth, bracketed, Bracketed, denies, connects, applies, quantifies, lets}
use Rattle.grammar.specs.Grammar.{Formulas, no_formula, and_formula, Bindings, no_binding, and_binding}
use Rattle.grammar.specs.Names.{either, symbolOnly, variableOnly, Name, variable_names, names, names_inside, names_of_all, names_bound, all_known}
use Rattle.grammar.proofs.Quantifiers.{Quantifies, QuantifiesInside, QuantifiesAll, QuantifiesBound}
use Rattle.reading.specs.Called.{variable_called, symbol_called, known_as, known_in}
use Rattle.reading.specs.Typing.{connective_symbol, nested}
use Rattle.reading.specs.Local.{alone_term, head_sort, bound_names, plain, plain_inside, plain_all, plain_bound}
use Rattle.reading.specs.WellSorted.{AloneSorted, Joins, WellSorted, InsideSorted, AllSorted, BoundSorted}
use Rattle.reading.proofs.KnownNames.{variable_number, symbol_signature}
use Rattle.reading.proofs.TypingExactly.{sorted_fine, join_sorts, join_result}

-- ---- well_sorted terms

abbrev mutual
  pub TermSorted : Bundle → Term → Type 0
  TermSorted b (var x) = Number (length b.variables) x
  TermSorted b (app f ts) = (signature_of b f ≡ Unknown → ⊥) × (argument_sorts b (signature_of b f) ≡ sorts_of b ts) × TermsSorted b ts
  TermSorted b (bind q x t) = Number (length b.variables) x × (sort b t ≡ truth_sort) × TermSorted b t
  TermSorted b (let_in vs ts t) =
      All (Number (length b.variables)) vs
      × (vs ≡ [] → ⊥)
      × Different vs
      × (map (sort_of_variable b) vs ≡ sorts_of b ts)
      × TermsSorted b ts
      × TermSorted b t

  pub TermsSorted : Bundle → Terms → Type 0
  TermsSorted b none = Unit {0}
  TermsSorted b (more t ts) = TermSorted b t × TermsSorted b ts

-- ---- their sorts, in a longer bundle

module _ {b b' : Bundle} (longer : Longer b b') where
  mutual
    unfolding sort sorts_of

    pub sort_in_lem : (t : Term) → TermSorted b t → sort b' t ≡ sort b t
    sort_in_lem (var x) h = variable_kept longer x h.1
    sort_in_lem (app f ts) h = result_kept longer f h.0
    sort_in_lem (bind q x t) h = ap (binder_sort q) (variable_kept longer x h.0.1)
    sort_in_lem (let_in vs ts t) h = sort_in_lem t h.5

    pub sorts_in : (ts : Terms) → TermsSorted b ts → sorts_of b' ts ≡ sorts_of b ts
    sorts_in none h = refl
    sorts_in (more t ts) h = ap₂ (λ (s : ℕ) (ss : List ℕ). s ∷ ss) (sort_in_lem t h.0) (sorts_in ts h.1)

-- ---- the terms of formulas

module _ (b : Bundle) where
  -- well sorted, and of a sort
  abbrev Of : Term → ℕ → Type 0
  Of t s = TermSorted b t × (sort b t ≡ s)

  abbrev AllOf : Terms → List ℕ → Type 0
  AllOf ts ss = TermsSorted b ts × (sorts_of b ts ≡ ss)

  abbrev Known : List Name → Type 0
  Known xs = all_known (known_in b) xs ≡ true

  pub known_first : (x : Name) (xs : List Name) → Known (x ∷ xs) → known_in b x ≡ true
  unfolding all_known
  known_first x xs e = and_left (known_in b x) (all_known (known_in b) xs) e

  pub known_rest : (x : Name) (xs : List Name) → Known (x ∷ xs) → Known xs
  unfolding all_known
  known_rest x xs e = and_right (known_in b x) (all_known (known_in b) xs) e

  -- a name where a variable, or a symbol, is due
  variable_due : (w : List ℕ) → known_in b (record { place = variableOnly; spelled = w }) ≡ true → Number (length b.variables) (variable_called b w)
  unfolding known_in known_as
  variable_due w e = variable_number b w e

  symbol_due : (w : List ℕ) → known_in b (record { place = symbolOnly; spelled = w }) ≡ true → signature_of b (symbol_called b w) ≡ Unknown → ⊥
  unfolding known_in known_as
  symbol_due w e = symbol_signature b w e

  -- a name alone
  alone : (x f s : ℕ) → (ltb 0 x || ltb 0 f) ≡ true → (ltb 0 x ≡ true → Number (length b.variables) x)
      → (ltb 0 f ≡ true → signature_of b f ≡ Unknown → ⊥) → AloneSorted b x f s → Of (alone_term x f) s
  unfolding alone_term sort sorts_of
  alone zero f s e variables symbols h = ((symbols e, h.arguments, tt), sym h.result)
  alone (suc x) f s e variables symbols h = (variables (lt-ltb 0 (suc x) (omega arith)), sym h)

  name_alone : (w : List ℕ) (s : ℕ) → known_in b (record { place = either; spelled = w }) ≡ true
      → AloneSorted b (variable_called b w) (symbol_called b w) s → Of (alone_term (variable_called b w) (symbol_called b w)) s
  unfolding known_in known_as
  name_alone w s e h = alone (variable_called b w) (symbol_called b w) s e (variable_number b w) (symbol_signature b w) h

  -- built-in symbols
  constant_of : (v : Bool) → Of (app (cond v 1 2) none) truth_sort
  unfolding sort sorts_of argument_sorts result_sort signature_of kind_of_symbol symbol_kind signature
  constant_of true = ((λ u. let z : ◌≡◌ {A = ℕ} 0 1 = cc in omega arith, refl, tt), refl)
  constant_of false = ((λ u. let z : ◌≡◌ {A = ℕ} 0 1 = cc in omega arith, refl, tt), refl)

  negated : (t : Term) → Of t truth_sort → Of (app 3 (more t none)) truth_sort
  unfolding sort sorts_of argument_sorts result_sort signature_of kind_of_symbol symbol_kind signature
  negated t h = ((λ u. let z : ◌≡◌ {A = ℕ} 0 1 = cc in omega arith, ap (λ (s : ℕ). s ∷ []) (sym h.1), (h.0, tt)), refl)

  join_known : (c : Connective) (s : ℕ) → signature_of b (connective_symbol c s) ≡ Unknown → ⊥
  unfolding connective_symbol signature_of kind_of_symbol symbol_kind signature
  join_known conjunction s u = let z : ◌≡◌ {A = ℕ} 0 1 = cc in omega arith
  join_known disjunction s u = let z : ◌≡◌ {A = ℕ} 0 1 = cc in omega arith
  join_known implication s u = let z : ◌≡◌ {A = ℕ} 0 1 = cc in omega arith
  join_known equality s u = go (eqb s truth_sort) u
    where
      go : (p : Bool) → signature_of b (cond p 7 8) ≡ Unknown → ⊥
      go true u = let z : ◌≡◌ {A = ℕ} 0 1 = cc in omega arith
      go false u = let z : ◌≡◌ {A = ℕ} 0 1 = cc in omega arith

  joined : (c : Connective) (s : ℕ) (t u : Term) → Joins c s → Of t s → Of u s → Of (app (connective_symbol c s) (more t (more u none))) truth_sort
  unfolding sort sorts_of
  joined c s t u j h k = (
    (join_known c s, (join_sorts b c s j).0 ∙ ap₂ (λ (x y : ℕ). x ∷ y ∷ []) (sym h.1) (sym k.1), (h.0, (k.0, tt))),
    join_result b c s,
  )

  -- the variables of a quantifier
  abbrev VariablesDeclared : List SortedVariable → Type 0
  VariablesDeclared [] = Unit {0}
  VariablesDeclared (declares x s ∷ xs) = Number (length b.variables) (variable_called b x) × VariablesDeclared xs

  variables_known : (xs : List SortedVariable) (rest : List Name) → Known (variable_names xs rest) → VariablesDeclared xs × Known rest
  unfolding variable_names
  variables_known [] rest e = (tt, e)
  variables_known (declares x s ∷ xs) rest e =
      let (vs, k) = variables_known xs rest (known_rest _ (variable_names xs rest) e) in
      ((variable_due x (known_first _ (variable_names xs rest) e), vs), k)

  truth_of_quantifier : (q : Binder) (s : ℕ) → (q ≡ choice → ⊥) → binder_sort q s ≡ truth_sort
  truth_of_quantifier forAll s n = refl
  truth_of_quantifier exists s n = refl
  truth_of_quantifier choice s n = absurd (n refl)

  quantified : (q : Binder) (xs : List SortedVariable) (t : Term) → (q ≡ choice → ⊥) → VariablesDeclared xs → Of t truth_sort → Of (nested b q xs t) truth_sort
  unfolding nested sort
  quantified q [] t n vs h = h
  quantified q (declares x s ∷ xs) t n vs h =
      let inner = quantified q xs t n vs.1 h in
      ((vs.0, inner.1, inner.0), truth_of_quantifier q _ n)

  mutual
    unfolding plain names names_inside sort sorts_of bound_names

    formula_of : (φ : Formula) (s : ℕ) (rest : List Name) → Quantifies φ → Known (names φ rest) → WellSorted b φ s → Of (plain b φ) s × Known rest
    formula_of (called w) s rest p e h = (name_alone w s (known_first _ rest e) h, known_rest _ rest e)
    formula_of (truth v) s rest p e h = (((constant_of v).0, (constant_of v).1 ∙ sym h), e)
    formula_of (bracketed φ) s rest p e h = inside_of φ s rest p e h

    inside_of : (φ : Bracketed) (s : ℕ) (rest : List Name) → QuantifiesInside φ → Known (names_inside φ rest) → InsideSorted b φ s → Of (plain_inside b φ) s × Known rest
    inside_of (denies φ) s rest p e h =
        let (t, k) = formula_of φ truth_sort rest p e h.0 in
        let n = negated (plain b φ) t in
        ((n.0, n.1 ∙ sym h.1), k)
    inside_of (connects c φ ψ) s rest p e h =
        let (t, k) = formula_of φ h.0 (names ψ rest) p.0 e h.2 in
        let (u, l) = formula_of ψ h.0 rest p.1 k h.3 in
        let is : h.0 ≡ head_sort b φ = (sorted_fine b φ h.0 h.2).1 in
        let parts : Terms = more (plain b φ) (more (plain b ψ) none) in
        let j = subst (λ (v : ℕ). Of (app (connective_symbol c v) parts) truth_sort) is (joined c h.0 (plain b φ) (plain b ψ) h.1 t u) in
        ((j.0, j.1 ∙ sym h.4), l)
    inside_of (applies f φ φs) s rest p e h =
        let k₀ = known_rest _ (names φ (names_of_all φs rest)) e in
        let (t, k) = formula_of φ h.0 (names_of_all φs rest) p.0 k₀ h.3 in
        let (ts, l) = all_of φs h.1 rest p.1 k h.4 in (
          (
            (
              symbol_due f (known_first _ (names φ (names_of_all φs rest)) e),
              h.2.arguments ∙ ap₂ (λ (u : ℕ) (us : List ℕ). u ∷ us) (sym t.1) (sym ts.1),
              (t.0, ts.0),
            ),
            sym h.2.result,
          ),
          l,
        )
    inside_of (quantifies q x xs φ) s rest p e h =
        let (vs, k) = variables_known (x ∷ xs) (names φ rest) e in
        let (t, l) = formula_of φ truth_sort rest p.1 k h.1 in
        let n = quantified q (x ∷ xs) (plain b φ) p.0 vs t in
        ((n.0, n.1 ∙ sym h.2), l)
    inside_of (lets x φ xs ψ) s rest p e h =
        let later = names φ (names_bound xs (names ψ rest)) in
        let (t, k) = formula_of φ (sort_of_variable b (variable_called b x)) (names_bound xs (names ψ rest)) p.0 (known_rest _ later e) h.1 in
        let (vs, ts, sorts, l) = bound_of xs (names ψ rest) p.1 k h.2 in
        let (u, m) = formula_of ψ s rest p.2 l h.3 in (
          (
            (
              (variable_due x (known_first _ later e), vs),
              λ z. let clash : ◌≡◌ {A = ℕ} 0 1 = cc in omega arith,
              h.0,
              ap₂ (λ (u : ℕ) (us : List ℕ). u ∷ us) (sym t.1) sorts,
              (t.0, ts),
              u.0,
            ),
            u.1,
          ),
          m,
        )

    all_of : (φs : Formulas) (ss : List ℕ) (rest : List Name) → QuantifiesAll φs → Known (names_of_all φs rest) → AllSorted b φs ss → AllOf (plain_all b φs) ss × Known rest
    all_of no_formula [] rest p e h = ((tt, refl), e)
    all_of no_formula (s ∷ ss) rest p e h = absurd h
    all_of (and_formula φ φs) [] rest p e h = absurd h
    all_of (and_formula φ φs) (s ∷ ss) rest p e h =
        let (t, k) = formula_of φ s (names_of_all φs rest) p.0 e h.0 in
        let (ts, l) = all_of φs ss rest p.1 k h.1 in
        (((t.0, ts.0), ap₂ (λ (u : ℕ) (us : List ℕ). u ∷ us) t.1 ts.1), l)

    bound_of : (xs : Bindings) (rest : List Name) → QuantifiesBound xs → Known (names_bound xs rest) → BoundSorted b xs
        → All (Number (length b.variables)) (bound_names b xs)
        × TermsSorted b (plain_bound b xs)
        × (map (sort_of_variable b) (bound_names b xs) ≡ sorts_of b (plain_bound b xs))
        × Known rest
    bound_of no_binding rest p e h = (tt, tt, refl, e)
    bound_of (and_binding x φ xs) rest p e h =
        let later = names φ (names_bound xs rest) in
        let (t, k) = formula_of φ (sort_of_variable b (variable_called b x)) (names_bound xs rest) p.0 (known_rest _ later e) h.0 in
        let (vs, ts, sorts, l) = bound_of xs rest p.1 k h.1 in (
          (variable_due x (known_first _ later e), vs),
          (t.0, ts),
          ap₂ (λ (u : ℕ) (us : List ℕ). u ∷ us) (sym t.1) sorts,
          l,
        )

  -- THE LAW
  pub formula_sorted : (φ : Formula) (s : ℕ) → Quantifies φ → all_known (known_in b) (names φ []) ≡ true → WellSorted b φ s
      → TermSorted b (plain b φ) × (sort b (plain b φ) ≡ s)
  formula_sorted φ s p e h = (formula_of φ s [] p e h).0
