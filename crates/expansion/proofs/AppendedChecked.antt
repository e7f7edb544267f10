-- Appends keep a bundle checked: its tables and contexts well formed, each step an instance of its rule.
--     Checked                              what is kept
--     NewFormed, more_formed               a longer bundle whose new records are well formed is well formed
--     steps_kept                           later appends leave an instance of a rule one
--     more_checked                         both together
--     list_in_order, list_start_lem            links appended are in order; the number of a list just appended starts a list
--     list_checked, variable_checked, term_checked, context_checked, step_checked     one record, or one list, appended
--     claiming_checked                     the same records, and another claim
use mathlib.Core.Path.{◌≡◌, refl, sym, ap, ◌∙◌, subst}
use Prim.Native.Nat.{ℕ, zero, suc, ◌+◌, ◌-◌, ◌≤◌, ◌<◌}
use mathlib.Core.Logic.{◌⊎◌, inl, inr}
use mathlib.Core.List.{List, [], ◌∷◌, ◌++◌}
use native.Mathlib.Omega.{arith}
use native.Mathlib.Decide.{dec_le, dec_lt}
use lib.ListN.{length, get_or, length-append}
use lib.Seq.{get_or-append-add}
use Rattle.bundle.specs.Bundle.{Bundle, Link, TermRecord, Context, Step, no_link, at, term_of, link_of}
use Rattle.logic.specs.Lists.{Number}
use Rattle.logic.specs.Rules.{step_fault, steps_fault}
use Rattle.logic.specs.WellFormed.{LinkFormed, IsSort, SymbolFormed, VariableFormed, TermFormed, fields_of, ContextFormed, WellFormed}
use Rattle.logic.specs.Instance.{StepHolds}
use Rattle.logic.specs.Longer.{Longer, with_variables, with_terms, with_contexts, with_steps, start_of, consecutive, add_list, list_start}
use Rattle.logic.proofs.Firsts.{none_bad}
use Rattle.logic.proofs.Instances.{step_holds, steps_exactly}
use Rattle.logic.proofs.Longer.{longer_refl, sizes, prefix_at, list_longer, variables_longer, terms_longer, contexts_longer, list_length}
use Rattle.logic.proofs.Longer.{steps_longer, variable_added, term_added}
use Rattle.logic.proofs.FormedKept.{link_formed_kept, symbol_formed_kept, variable_formed_kept, term_formed_kept, fields_kept, context_formed_kept}
use Rattle.logic.proofs.Later.{passes_kept}
use Rattle.expansion.specs.Visit.{claiming}
use Rattle.expansion.proofs.Grown.{claiming_longer}

pub record Checked (b : Bundle) : Type 0 where
  pub formed : WellFormed b
  pub steps : (k : ℕ) → Number (length b.steps) k → StepHolds b k

-- ---- more records

-- P holds of the numbers past m, up to n
abbrev pub Past : (ℕ → Type 0) → ℕ → ℕ → Type 0
Past P m n = (i : ℕ) → m < i → i ≤ n → P i

-- what holds of the old numbers and of those past them holds of all
with_old : (P : ℕ → Type 0) (m n : ℕ) → ((i : ℕ) → Number m i → P i) → Past P m n → (i : ℕ) → Number n i → P i
with_old P m n old new i h = go (dec_le i m)
  where
    go : Dec (i ≤ m) → P i
    go (yes l) = old i (h.0, l)
    go (no l) = new i (omega arith) h.1

past_none : (P : ℕ → Type 0) (n : ℕ) → Past P n n
past_none P n i lo hi = absurd (omega arith)

past_one : {A : Type 0} (P : ℕ → Type 0) (xs : List A) (x : A) → P (suc (length xs)) → Past P (length xs) (length (xs ++ (x ∷ [])))
past_one P xs x p i lo hi =
    let is : i ≡ suc (length xs) = omega (arith, length-append xs (x ∷ [])) in
    subst P (sym is) p

-- no term before j is the same as term j
abbrev NoEqual : Bundle → ℕ → Type 0
NoEqual b j = (i : ℕ) → Number (j - 1) i → fields_of b (term_of b i) ≡ fields_of b (term_of b j) → ⊥

-- the records of b' that are not b's are well formed, and no new term is the same as one before it
pub record NewFormed (b b' : Bundle) : Type 0 where
  pub links : Past (LinkFormed b') (length b.links) (length b'.links)
  pub symbols : Past (SymbolFormed b') (length b.symbols) (length b'.symbols)
  pub variables : Past (VariableFormed b') (length b.variables) (length b'.variables)
  pub terms : Past (TermFormed b') (length b.terms) (length b'.terms)
  pub no_equal : Past (NoEqual b') (length b.terms) (length b'.terms)
  pub contexts : Past (ContextFormed b') (length b.contexts) (length b'.contexts)

module _ {b b' : Bundle} (more : Longer b b') where
  pub more_formed : WellFormed b → NewFormed b b' → WellFormed b'
  more_formed well new = record {
    tables = record {
      links = with_old (LinkFormed b') (length b.links) (length b'.links) (link_formed_kept more well.tables) new.links;
      symbols = with_old (SymbolFormed b') (length b.symbols) (length b'.symbols) (symbol_formed_kept more well.tables) new.symbols;
      variables = with_old (VariableFormed b') (length b.variables) (length b'.variables) (variable_formed_kept more well.tables) new.variables;
      terms = with_old (TermFormed b') (length b.terms) (length b'.terms) (term_formed_kept more well.tables) new.terms;
      no_two_same = λ i j ni nj e. go i j ni nj e (dec_le i (length b.terms)) (dec_le j (length b.terms)) (dec_lt i j) (dec_lt j i);
    };
    contexts = with_old (ContextFormed b') (length b.contexts) (length b'.contexts) (context_formed_kept more well) new.contexts;
  }
    where
      go : (i j : ℕ) → Number (length b'.terms) i → Number (length b'.terms) j → fields_of b' (term_of b' i) ≡ fields_of b' (term_of b' j)
          → Dec (i ≤ length b.terms) → Dec (j ≤ length b.terms) → Dec (i < j) → Dec (j < i) → i ≡ j
      go i j ni nj e (yes p) (yes q) d₁ d₂ =
          well.tables.no_two_same i j (ni.0, p) (nj.0, q) (sym (fields_kept more well.tables i p) ∙ e ∙ fields_kept more well.tables j q)
      go i j ni nj e (yes p) (no q) d₁ d₂ = absurd (new.no_equal j (omega arith) nj.1 i (ni.0, omega arith) e)
      go i j ni nj e (no p) (yes q) d₁ d₂ = absurd (new.no_equal i (omega arith) ni.1 j (nj.0, omega arith) (sym e))
      go i j ni nj e (no p) (no q) (yes l) d₂ = absurd (new.no_equal j (omega arith) nj.1 i (ni.0, omega arith) e)
      go i j ni nj e (no p) (no q) (no l) (yes m) = absurd (new.no_equal i (omega arith) ni.1 j (nj.0, omega arith) (sym e))
      go i j ni nj e (no p) (no q) (no l) (no m) = omega arith

  -- later appends leave an instance of a rule one
  pub steps_kept : Checked b → WellFormed b' → (k : ℕ) → Number (length b.steps) k → StepHolds b' k
  unfolding steps_fault
  steps_kept old well' k n =
      step_holds b' well' k
      (passes_kept more old.formed
      (λ j m. none_bad (step_fault b) (length b.steps) ((steps_exactly b old.formed).1 old.steps) j m.0 m.1) k n)

  pub more_checked : Checked b → NewFormed b b' → (WellFormed b' → Past (StepHolds b') (length b.steps) (length b'.steps)) → Checked b'
  more_checked old new steps =
      let well : WellFormed b' = more_formed old.formed new in
      record { formed = well; steps = with_old (StepHolds b') (length b.steps) (length b'.steps) (steps_kept old well) (steps well) }

-- ---- a list

consecutive_next : (m : ℕ) (vs : List ℕ) (i : ℕ) → i < length vs
    → ((get_or (consecutive m vs) i no_link).next ≡ 0)
    ⊎ ((m + i < (get_or (consecutive m vs) i no_link).next) × ((get_or (consecutive m vs) i no_link).next < m + length vs))
unfolding consecutive
consecutive_next m [] i h = absurd (omega arith)
consecutive_next m (v ∷ []) zero h = inl refl
consecutive_next m (v ∷ u ∷ us) zero h = inr (omega arith, omega arith)
consecutive_next m (v ∷ vs) (suc i) h = go (consecutive_next (suc m) vs i (omega arith))
  where
    next : ℕ
    next = (get_or (consecutive (suc m) vs) i no_link).next

    go : (next ≡ 0) ⊎ ((suc m + i < next) × (next < suc m + length vs)) → (next ≡ 0) ⊎ ((m + suc i < next) × (next < m + suc (length vs)))
    go (inl e) = inl e
    go (inr e) = inr (omega (arith, e.0), omega (arith, e.1))

module _ (b : Bundle) (vs : List ℕ) where
  start_within : (m : ℕ) (us : List ℕ) → start_of (suc m) us ≤ m + length us
  start_within m [] = omega arith
  start_within m (v ∷ us) = omega arith

  module _ {B : Bundle} (more : Longer (add_list b vs) B) where
    -- the number of the list just appended starts a list of every longer bundle
    pub list_start_lem : list_start b vs ≤ length B.links
    list_start_lem = omega (arith, start_within (length b.links) vs, list_length b vs, (sizes more).links)

    -- the links appended are in order
    pub list_in_order : Past (LinkFormed B) (length b.links) (length (add_list b vs).links)
    list_in_order n lo hi = go (n - suc m) (let is : n ≡ suc (m + (n - suc m)) = omega arith in is)
      where
        m : ℕ
        m = length b.links

        formed : {x : Link} (i : ℕ) → n ≡ suc (m + i) → link_of B n ≡ x → (x.next ≡ 0) ⊎ ((suc m + i < x.next) × (x.next < suc m + length vs))
            → LinkFormed B n
        formed {x} i is q (inl z) = inl (ap (λ (l : Link). l.next) q ∙ z)
        formed {x} i is q (inr z) =
            let same : (link_of B n).next ≡ x.next = ap (λ (l : Link). l.next) q in
            inr (omega (arith, z.0), omega (arith, z.1, list_length b vs, (sizes more).links))

        go : (i : ℕ) → n ≡ suc (m + i) → LinkFormed B n
        go i is =
            formed i is
            (prefix_at no_link (add_list b vs).links B.links more.links n hi
            ∙ ap (λ (k : ℕ). at no_link (add_list b vs).links k) is
            ∙ get_or-append-add b.links (consecutive (suc m) vs) i no_link)
            (consecutive_next (suc m) vs i (omega (arith, list_length b vs)))

-- Sections that no `let` speaks of have no new records.

pub list_checked : (b : Bundle) (vs : List ℕ) → Checked b → Checked (add_list b vs)
list_checked b vs old =
    let links = list_in_order b vs (longer_refl (add_list b vs)) in
    more_checked (list_longer b vs) old (search (arith, past_none)) (λ well. search (arith, past_none))

-- ---- one record

pub variable_checked : (b : Bundle) (s : ℕ) → Checked b → IsSort b s → Checked (with_variables b (s ∷ []))
variable_checked b s old h =
    let B : Bundle = with_variables b (s ∷ []) in
    let variables = past_one (VariableFormed B) b.variables s (subst (IsSort b) (sym (variable_added b s (longer_refl B))) h) in
    more_checked (variables_longer b (s ∷ [])) old (search (arith, past_none)) (λ well. search (arith, past_none))

pub term_checked : (b : Bundle) (r : TermRecord) → Checked b → TermFormed (with_terms b (r ∷ [])) (suc (length b.terms))
    → ((i : ℕ) → Number (length b.terms) i → fields_of b (term_of b i) ≡ fields_of (with_terms b (r ∷ [])) r → ⊥) → Checked (with_terms b (r ∷ []))
term_checked b r old formed other =
    let B : Bundle = with_terms b (r ∷ []) in
    let terms = past_one (TermFormed B) b.terms r formed in
    let no_equal = past_one (NoEqual B) b.terms r (λ i n e. other i (n.0, omega (arith, n.1))
    (sym (fields_kept (terms_longer b (r ∷ [])) old.formed.tables i (omega (arith, n.1))) ∙ e ∙ ap (fields_of B) (term_added b r (longer_refl B)))) in
    more_checked (terms_longer b (r ∷ [])) old (search (arith, past_none)) (λ well. search (arith, past_none))

pub context_checked : (b : Bundle) (r : Context) → Checked b → ContextFormed (with_contexts b (r ∷ [])) (suc (length b.contexts))
    → Checked (with_contexts b (r ∷ []))
context_checked b r old formed =
    let contexts = past_one (ContextFormed (with_contexts b (r ∷ []))) b.contexts r formed in
    more_checked (contexts_longer b (r ∷ [])) old (search (arith, past_none)) (λ well. search (arith, past_none))

pub step_checked : (b : Bundle) (s : Step) → Checked b
    → (WellFormed (with_steps b (s ∷ [])) → StepHolds (with_steps b (s ∷ [])) (suc (length b.steps))) → Checked (with_steps b (s ∷ []))
step_checked b s old holds =
    more_checked (steps_longer b (s ∷ [])) old (search (arith, past_none)) (λ well. past_one (StepHolds (with_steps b (s ∷ []))) b.steps s (holds well))

-- ---- the same records, and another claim

pub claiming_checked : (b : Bundle) (l r : ℕ) → Checked b → Checked (claiming b l r)
claiming_checked b l r old = more_checked (claiming_longer b l r) old (search (arith, past_none)) (λ well. search (arith, past_none))
