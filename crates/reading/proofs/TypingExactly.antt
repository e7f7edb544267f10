-- The tests of sorts, node by node, and the proposition.
--     fine_sorted, sorted_fine     where every node's test passes, and where a formula is well sorted
--     typing_exactly               THE THEOREM: a formula has a term exactly where it is well sorted
use Prim.Native.Nat.{ℕ, zero, suc}
use mathlib.Core.Path.{◌≡◌, refl, sym, ap, ap₂, ◌∙◌, subst}
use mathlib.Core.Logic.{inl, inr}
use mathlib.Core.Bool.{Bool, true, false, cond, ◌&&◌}
use mathlib.Core.List.{List, [], ◌∷◌, map, head-eq_of_cons-eq, tail-eq_of_cons-eq}
use mathlib.Core.Option.{some, none-ne-some, some-injective}
use lib.Dec.{eqb}
use borrow.Author.Tests.{eqb-true, eq-eqb}
use Rattle.std.proofs.lemmas.Bool.{and_from}
use Rattle.bundle.specs.Bundle.{Bundle, sort_of_variable}
use Rattle.bundle.specs.Lists.{same_list, different}
use Rattle.logic.specs.Symbols.{truth_sort, symbol_kind, kind_of_symbol, signature, signature_of, argument_sorts, result_sort}
use Rattle.logic.proofs.Tests.{and_left, and_right, same_list_lem, list_same}
use Rattle.logic.proofs.Exactly.{different_exactly}
use Rattle.grammar.specs.Bytes.{Connective, conjunction, disjunction, implication, equality}
use Rattle.grammar.specs.Grammar.{SortedVariable, declares, Formula, called, truth, bracketed, Bracketed, denies, connects, applies, quantifies, lets}
use Rattle.grammar.specs.Grammar.{Formulas, no_formula, and_formula, Bindings, no_binding, and_binding}
use Rattle.reading.specs.Called.{variable_called, symbol_called}
use Rattle.reading.specs.Typing.{Typed, only, connective_symbol, sort_number, sorts_declared, sorts}
use Rattle.reading.specs.Local.{alone_sort, accepts, alone_fine, head_sort, inside_sort, head_sorts, bound_sorts, bound_names, plain, fine, fine_inside, fine_all}
use Rattle.reading.specs.Local.{fine_bound, typed}
use Rattle.reading.specs.WellSorted.{AloneSorted, Joins, WithDeclaredSorts, WellSorted, InsideSorted, AllSorted, BoundSorted, TypingExactly}
use Rattle.reading.proofs.LocalSorts.{sorts_local}

module _ (b : Bundle) where
  takes : (f : ℕ) (ss : List ℕ) → accepts b f ss ≡ true → argument_sorts b (signature_of b f) ≡ ss
  unfolding accepts
  takes f ss e = same_list_lem (argument_sorts b (signature_of b f)) ss e

  taken : (f : ℕ) (ss : List ℕ) → argument_sorts b (signature_of b f) ≡ ss → accepts b f ss ≡ true
  unfolding accepts
  taken f ss e = list_same (argument_sorts b (signature_of b f)) ss e

  -- a name alone
  alone_sorted : (x f : ℕ) → alone_fine b x f ≡ true → AloneSorted b x f (alone_sort b x f)
  unfolding alone_fine alone_sort
  alone_sorted zero f e = record { arguments = takes f [] e; result = refl }
  alone_sorted (suc x) f e = refl

  sorted_alone : (x f s : ℕ) → AloneSorted b x f s → (alone_fine b x f ≡ true) × (s ≡ alone_sort b x f)
  unfolding alone_fine alone_sort
  sorted_alone zero f s h = (taken f [] h.arguments, h.result)
  sorted_alone (suc x) f s h = (refl, h)

  -- a connective: what it joins, and the sorts of its symbol
  pub join_sorts : (c : Connective) (u : ℕ) → Joins c u
      → (argument_sorts b (signature_of b (connective_symbol c u)) ≡ u ∷ u ∷ []) × (result_sort b (signature_of b (connective_symbol c u)) ≡ truth_sort)
  unfolding connective_symbol argument_sorts result_sort signature_of kind_of_symbol symbol_kind signature
  join_sorts conjunction u h = rw h (refl, refl)
  join_sorts disjunction u h = rw h (refl, refl)
  join_sorts implication u h = rw h (refl, refl)
  join_sorts equality u (inl h) = rw h (refl, refl)
  join_sorts equality u (inr h) = rw h (refl, refl)

  joins_of : (c : Connective) (s v : ℕ) → accepts b (connective_symbol c s) (s ∷ v ∷ []) ≡ true → Joins c s × (v ≡ s)
  unfolding connective_symbol argument_sorts signature_of kind_of_symbol symbol_kind signature
  joins_of conjunction s v e = let t = takes 4 (s ∷ v ∷ []) e in (sym (head-eq_of_cons-eq t), sym (head-eq_of_cons-eq (tail-eq_of_cons-eq t)) ∙ head-eq_of_cons-eq t)
  joins_of disjunction s v e = let t = takes 5 (s ∷ v ∷ []) e in (sym (head-eq_of_cons-eq t), sym (head-eq_of_cons-eq (tail-eq_of_cons-eq t)) ∙ head-eq_of_cons-eq t)
  joins_of implication s v e = let t = takes 6 (s ∷ v ∷ []) e in (sym (head-eq_of_cons-eq t), sym (head-eq_of_cons-eq (tail-eq_of_cons-eq t)) ∙ head-eq_of_cons-eq t)
  joins_of equality s v e = go (eqb s truth_sort) refl e
    where
      go : (p : Bool) → eqb s truth_sort ≡ p → accepts b (cond p 7 8) (s ∷ v ∷ []) ≡ true → Joins equality s × (v ≡ s)
      go true q e =
          let t = takes 7 (s ∷ v ∷ []) e in
          (inl (eqb-true s truth_sort q), sym (head-eq_of_cons-eq (tail-eq_of_cons-eq t)) ∙ head-eq_of_cons-eq t)
      go false q e = let t = takes 8 (s ∷ v ∷ []) e in (inr (sym (head-eq_of_cons-eq t)), sym (head-eq_of_cons-eq (tail-eq_of_cons-eq t)) ∙ head-eq_of_cons-eq t)

  pub join_result : (c : Connective) (s : ℕ) → result_sort b (signature_of b (connective_symbol c s)) ≡ truth_sort
  unfolding connective_symbol result_sort signature_of kind_of_symbol symbol_kind signature
  join_result conjunction s = refl
  join_result disjunction s = refl
  join_result implication s = refl
  join_result equality s = go (eqb s truth_sort)
    where
      go : (p : Bool) → result_sort b (signature_of b (cond p 7 8)) ≡ truth_sort
      go true = refl
      go false = refl

  -- the variables of a quantifier
  declared_sorts : (xs : List SortedVariable) → sorts_declared b xs ≡ true → WithDeclaredSorts b xs
  unfolding sorts_declared
  declared_sorts [] e = tt
  declared_sorts (declares x s ∷ xs) e =
      let p = eqb (sort_of_variable b (variable_called b x)) (sort_number s) in
      (eqb-true _ _ (and_left p (sorts_declared b xs) e), declared_sorts xs (and_right p (sorts_declared b xs) e))

  sorts_declared_lem : (xs : List SortedVariable) → WithDeclaredSorts b xs → sorts_declared b xs ≡ true
  unfolding sorts_declared
  sorts_declared_lem [] h = refl
  sorts_declared_lem (declares x s ∷ xs) h = and_from _ (sorts_declared b xs) (eq-eqb _ _ h.0) (sorts_declared_lem xs h.1)

  -- not takes a truth
  denies_takes : (s : ℕ) → accepts b 3 (s ∷ []) ≡ true → s ≡ truth_sort
  unfolding argument_sorts signature_of kind_of_symbol symbol_kind signature
  denies_takes s e = sym (head-eq_of_cons-eq (takes 3 (s ∷ []) e))

  truth_denied : (s : ℕ) → truth_sort ≡ s → accepts b 3 (s ∷ []) ≡ true
  unfolding argument_sorts signature_of kind_of_symbol symbol_kind signature
  truth_denied s e = taken 3 (s ∷ []) (ap (λ (u : ℕ). u ∷ []) e)

  three_result : result_sort b (signature_of b 3) ≡ truth_sort
  unfolding result_sort signature_of kind_of_symbol symbol_kind signature
  three_result = refl

  mutual
    unfolding fine head_sort head_sorts bound_sorts bound_names

    pub fine_sorted : (φ : Formula) → fine b φ ≡ true → WellSorted b φ (head_sort b φ)
    fine_sorted (called w) e = alone_sorted (variable_called b w) (symbol_called b w) e
    fine_sorted (truth v) e = refl
    fine_sorted (bracketed φ) e = inside_sorted φ e

    inside_sorted : (φ : Bracketed) → fine_inside b φ ≡ true → InsideSorted b φ (inside_sort b φ)
    inside_sorted (denies φ) e =
        let p = accepts b 3 (head_sort b φ ∷ []) in
        (subst (WellSorted b φ) (denies_takes (head_sort b φ) (and_right (fine b φ) p e)) (fine_sorted φ (and_left (fine b φ) p e)), three_result)
    inside_sorted (connects c φ ψ) e =
        let s = head_sort b φ in
        let v = head_sort b ψ in
        let p = accepts b (connective_symbol c s) (s ∷ v ∷ []) in
        let rest = and_right (fine b φ) (fine b ψ && p) e in
        let (joins, same) = joins_of c s v (and_right (fine b ψ) p rest) in (
          s,
          joins,
          fine_sorted φ (and_left (fine b φ) (fine b ψ && p) e),
          subst (WellSorted b ψ) same (fine_sorted ψ (and_left (fine b ψ) p rest)),
          join_result c s,
        )
    inside_sorted (applies f φ φs) e =
        let p = accepts b (symbol_called b f) (head_sort b φ ∷ head_sorts b φs) in
        let rest = and_right (fine b φ) (fine_all b φs && p) e in (
          head_sort b φ,
          head_sorts b φs,
          record { arguments = takes (symbol_called b f) _ (and_right (fine_all b φs) p rest); result = refl },
          fine_sorted φ (and_left (fine b φ) (fine_all b φs && p) e),
          all_sorted φs (and_left (fine_all b φs) p rest),
        )
    inside_sorted (quantifies q x xs φ) e =
        let p = eqb (head_sort b φ) truth_sort in
        let rest = and_right (fine b φ) (sorts_declared b (x ∷ xs) && p) e in (
          declared_sorts (x ∷ xs) (and_left (sorts_declared b (x ∷ xs)) p rest),
          subst (WellSorted b φ) (eqb-true (head_sort b φ) truth_sort (and_right (sorts_declared b (x ∷ xs)) p rest))
              (fine_sorted φ (and_left (fine b φ) (sorts_declared b (x ∷ xs) && p) e)),
          refl,
        )
    inside_sorted (lets x φ xs ψ) e =
        let vs = variable_called b x ∷ bound_names b xs in
        let d = different vs in
        let p = same_list (map (sort_of_variable b) vs) (head_sort b φ ∷ bound_sorts b xs) in
        let e₁ = and_right (fine b φ) (fine_bound b xs && (fine b ψ && (d && p))) e in
        let e₂ = and_right (fine_bound b xs) (fine b ψ && (d && p)) e₁ in
        let e₃ = and_right (fine b ψ) (d && p) e₂ in
        let same = same_list_lem (map (sort_of_variable b) vs) (head_sort b φ ∷ bound_sorts b xs) (and_right d p e₃) in (
          (different_exactly vs).0 (and_left d p e₃),
          subst (WellSorted b φ) (sym (head-eq_of_cons-eq same)) (fine_sorted φ (and_left (fine b φ) (fine_bound b xs && (fine b ψ && (d && p))) e)),
          bound_sorted xs (and_left (fine_bound b xs) (fine b ψ && (d && p)) e₁) (tail-eq_of_cons-eq same),
          fine_sorted ψ (and_left (fine b ψ) (d && p) e₂),
        )

    all_sorted : (φs : Formulas) → fine_all b φs ≡ true → AllSorted b φs (head_sorts b φs)
    all_sorted no_formula e = tt
    all_sorted (and_formula φ φs) e = (fine_sorted φ (and_left (fine b φ) (fine_all b φs) e), all_sorted φs (and_right (fine b φ) (fine_all b φs) e))

    bound_sorted : (xs : Bindings) → fine_bound b xs ≡ true → map (sort_of_variable b) (bound_names b xs) ≡ bound_sorts b xs → BoundSorted b xs
    bound_sorted no_binding e same = tt
    bound_sorted (and_binding x φ xs) e same = (
      subst (WellSorted b φ) (sym (head-eq_of_cons-eq same)) (fine_sorted φ (and_left (fine b φ) (fine_bound b xs) e)),
      bound_sorted xs (and_right (fine b φ) (fine_bound b xs) e) (tail-eq_of_cons-eq same),
    )

  mutual
    unfolding fine head_sort head_sorts bound_sorts bound_names

    pub sorted_fine : (φ : Formula) (s : ℕ) → WellSorted b φ s → (fine b φ ≡ true) × (s ≡ head_sort b φ)
    sorted_fine (called w) s h = sorted_alone (variable_called b w) (symbol_called b w) s h
    sorted_fine (truth v) s h = (refl, h)
    sorted_fine (bracketed φ) s h = sorted_inside φ s h

    sorted_inside : (φ : Bracketed) (s : ℕ) → InsideSorted b φ s → (fine_inside b φ ≡ true) × (s ≡ inside_sort b φ)
    sorted_inside (denies φ) s h =
        let (f, e) = sorted_fine φ truth_sort h.0 in
        (and_from (fine b φ) _ f (truth_denied (head_sort b φ) e), h.1 ∙ sym three_result)
    sorted_inside (connects c φ ψ) s h =
        let (f, e) = sorted_fine φ h.0 h.2 in
        let (g, d) = sorted_fine ψ h.0 h.3 in
        let joins : Joins c (head_sort b φ) = subst (Joins c) e h.1 in
        let same : head_sort b ψ ≡ head_sort b φ = sym d ∙ e in (
          and_from (fine b φ) _ f (and_from (fine b ψ) _ g (taken (connective_symbol c (head_sort b φ)) _
              ((join_sorts c (head_sort b φ) joins).0 ∙ ap (λ (u : ℕ). head_sort b φ ∷ u ∷ []) (sym same)))),
          h.4 ∙ sym (join_result c (head_sort b φ)),
        )
    sorted_inside (applies g φ φs) s h =
        let (f, e) = sorted_fine φ h.0 h.3 in
        let (fs, es) = sorted_all φs h.1 h.4 in (
          and_from (fine b φ) _ f (and_from (fine_all b φs) _ fs
              (taken (symbol_called b g) _ (h.2.arguments ∙ ap₂ (λ (u : ℕ) (us : List ℕ). u ∷ us) e es))),
          h.2.result,
        )
    sorted_inside (quantifies q x xs φ) s h =
        let (f, e) = sorted_fine φ truth_sort h.1 in (
          and_from (fine b φ) _ f (and_from (sorts_declared b (x ∷ xs)) _ (sorts_declared_lem (x ∷ xs) h.0) (eq-eqb (head_sort b φ) truth_sort (sym e))),
          h.2,
        )
    sorted_inside (lets x φ xs ψ) s h =
        let vs = variable_called b x ∷ bound_names b xs in
        let (f, e) = sorted_fine φ (sort_of_variable b (variable_called b x)) h.1 in
        let (fs, es) = sorted_bound xs h.2 in
        let (g, d) = sorted_fine ψ s h.3 in (
          and_from (fine b φ) _ f (and_from (fine_bound b xs) _ fs (and_from (fine b ψ) _ g (and_from (different vs) _ ((different_exactly vs).1 h.0)
              (list_same (map (sort_of_variable b) vs) _ (ap₂ (λ (u : ℕ) (us : List ℕ). u ∷ us) e es))))),
          d,
        )

    sorted_all : (φs : Formulas) (ss : List ℕ) → AllSorted b φs ss → (fine_all b φs ≡ true) × (ss ≡ head_sorts b φs)
    sorted_all no_formula [] h = (refl, refl)
    sorted_all no_formula (s ∷ ss) h = absurd h
    sorted_all (and_formula φ φs) [] h = absurd h
    sorted_all (and_formula φ φs) (s ∷ ss) h =
        let (f, e) = sorted_fine φ s h.0 in
        let (fs, es) = sorted_all φs ss h.1 in
        (and_from (fine b φ) (fine_all b φs) f fs, ap₂ (λ (u : ℕ) (us : List ℕ). u ∷ us) e es)

    sorted_bound : (xs : Bindings) → BoundSorted b xs → (fine_bound b xs ≡ true) × (map (sort_of_variable b) (bound_names b xs) ≡ bound_sorts b xs)
    sorted_bound no_binding h = (refl, refl)
    sorted_bound (and_binding x φ xs) h =
        let (f, e) = sorted_fine φ (sort_of_variable b (variable_called b x)) h.0 in
        let (fs, es) = sorted_bound xs h.1 in
        (and_from (fine b φ) (fine_bound b xs) f fs, ap₂ (λ (u : ℕ) (us : List ℕ). u ∷ us) e es)

-- THE THEOREM
pub typing_exactly : TypingExactly
typing_exactly b φ t = (λ e. there (fine b φ) refl (sym (sorts_local b φ) ∙ e), back)
  where
    there : (p : Bool) → fine b φ ≡ p → only p (typed b φ) ≡ some t → WellSorted b φ t.sort × (t.term ≡ plain b φ)
    there true q e =
        let same : typed b φ ≡ t = some-injective (typed b φ) t e in
        (subst (WellSorted b φ) (ap (λ (u : Typed). u.sort) same) (fine_sorted b φ q), sym (ap (λ (u : Typed). u.term) same))
    there false q e = absurd (none-ne-some t e)

    back : WellSorted b φ t.sort × (t.term ≡ plain b φ) → sorts b φ ≡ some t
    back (h, e) =
        let (f, s) = sorted_fine b φ t.sort h in
        sorts_local b φ ∙ ap (λ (p : Bool). only p (typed b φ)) f ∙ ap some (λ i. record { term = sym e i; sort = sym s i })
