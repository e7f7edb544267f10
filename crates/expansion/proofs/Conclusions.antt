-- Steps that a visit appends: each is an instance of its rule, and its sides are in scope.
--     Done, done_kept, done_says           step p carries term t to its result r in context c
--     DoneAll, done_all_kept               the same of lists of terms, results and steps
--     done_results, done_sorts, done_steps, say_all     what follows for the lists
--     Visited, conclude                    THE LAW: what a visit leaves whose step is an instance, in every longer bundle, and has its sides in scope
use mathlib.Core.Path.{◌≡◌, refl, sym, ap, ap₂, ◌∙◌, subst}
use Prim.Native.Nat.{ℕ, suc, ◌≤◌}
use mathlib.Core.Logic.{inl}
use mathlib.Core.List.{List, [], ◌∷◌, map}
use native.Mathlib.Omega.{arith}
use lib.ListN.{length, length-append}
use Rattle.bundle.specs.Bundle.{Bundle, Step, step_of}
use Rattle.bundle.specs.Links.{items}
use Rattle.logic.specs.Lists.{All, Number}
use Rattle.logic.specs.Terms.{gather, tree}
use Rattle.logic.specs.Contexts.{Mentioned, InScope}
use Rattle.logic.specs.Rules.{REFL, rule_of}
use Rattle.logic.specs.WellFormed.{sort_of_term, Lower, TablesFormed, WellFormed}
use Rattle.logic.specs.Instance.{Says, SayAll, Instance, ReflForm, PairsSuffice, SidesInScope, StepHolds}
use Rattle.logic.specs.Longer.{Longer, add_list, list_start}
use Rattle.logic.proofs.Longer.{longer_refl, sizes, list_added, steps_longer, step_added}
use Rattle.logic.proofs.Kept.{step_kept, sort_tree_kept}
use Rattle.expansion.specs.Visit.{Visit, Visits, concluded}
use Rattle.expansion.proofs.Grown.{concluded_longer}
use Rattle.expansion.proofs.AppendedChecked.{Checked, list_checked, list_start_lem, step_checked}
use Rattle.expansion.proofs.Placement.{all_map}
use Rattle.expansion.proofs.Mentioned.{scope_kept}
use Rattle.expansion.proofs.Substitution.{Result, result_kept}

-- ---- one term

pub record Done (N : ℕ → Type 0) (b : Bundle) (c t r p : ℕ) : Type 0 where
  pub term : Number (length b.terms) t
  pub result : Result N b r
  pub sorted : sort_of_term b r ≡ sort_of_term b t
  pub step : Number (length b.steps) p
  pub context : (step_of b p).context ≡ c
  pub left : (step_of b p).left ≡ t
  pub right : (step_of b p).right ≡ r

pub done_says : {N : ℕ → Type 0} {b : Bundle} {c t r p : ℕ} → Done N b c t r p → Says b p c (tree b t) (tree b r)
done_says {b = b} h = record { context = h.context; left = ap (tree b) h.left; right = ap (tree b) h.right }

module _ {b b' : Bundle} (longer : Longer b b') (formed : TablesFormed b) where
  pub done_kept : {N : ℕ → Type 0} {c t r p : ℕ} → Done N b c t r p → Done N b' c t r p
  done_kept {t = t} {r = r} {p = p} h =
      let same : step_of b' p ≡ step_of b p = step_kept longer p h.step.1 in
      record {
        term = (h.term.0, omega (arith, h.term.1, (sizes longer).terms));
        result = result_kept longer formed (λ x n. n) h.result;
        sorted = sort_tree_kept longer formed r h.result.is_term.1 ∙ h.sorted ∙ sym (sort_tree_kept longer formed t h.term.1);
        step = (h.step.0, omega (arith, h.step.1, (sizes longer).steps));
        context = ap (λ (s : Step). s.context) same ∙ h.context;
        left = ap (λ (s : Step). s.left) same ∙ h.left;
        right = ap (λ (s : Step). s.right) same ∙ h.right;
      }

-- ---- lists

pub data DoneAll (N : ℕ → Type 0) (b : Bundle) (c : ℕ) : List ℕ → List ℕ → List ℕ → Type 0 where
  done_none : DoneAll N b c [] [] []
  done_more : {t r p : ℕ} {ts rs ps : List ℕ} → Done N b c t r p → DoneAll N b c ts rs ps → DoneAll N b c (t ∷ ts) (r ∷ rs) (p ∷ ps)

pub done_all_kept : {b b' : Bundle} {N : ℕ → Type 0} {c : ℕ} {ts rs ps : List ℕ} → Longer b b' → TablesFormed b → DoneAll N b c ts rs ps
    → DoneAll N b' c ts rs ps
done_all_kept longer formed done_none = done_none
done_all_kept longer formed (done_more h hs) = done_more (done_kept longer formed h) (done_all_kept longer formed hs)

module _ {N : ℕ → Type 0} {b : Bundle} {c : ℕ} where
  pub done_results : {ts rs ps : List ℕ} → DoneAll N b c ts rs ps → All (Result N b) rs
  done_results done_none = tt
  done_results (done_more h hs) = (h.result, done_results hs)

  pub done_sorts : {ts rs ps : List ℕ} → DoneAll N b c ts rs ps → map (sort_of_term b) rs ≡ map (sort_of_term b) ts
  done_sorts done_none = refl
  done_sorts (done_more h hs) = ap₂ (λ (s : ℕ) (ss : List ℕ). s ∷ ss) h.sorted (done_sorts hs)

  pub done_steps : {ts rs ps : List ℕ} → DoneAll N b c ts rs ps → All (Number (length b.steps)) ps
  done_steps done_none = tt
  done_steps (done_more h hs) = (h.step, done_steps hs)

  pub say_all : {ts rs ps : List ℕ} → DoneAll N b c ts rs ps → SayAll b c (gather (tree b) ts) (gather (tree b) rs) ps
  unfolding gather
  say_all done_none = tt
  say_all (done_more h hs) = (done_says h, say_all hs)

-- ---- a step closes a visit

pub record Visited (N : ℕ → Type 0) (c t : ℕ) (v : Visit) : Type 0 where
  pub checked : Checked v.bundle
  pub done : Done N v.bundle c t v.result v.step
  pub last : v.step ≡ length v.bundle.steps

pub record VisitedAll (N : ℕ → Type 0) (c : ℕ) (ts : List ℕ) (v : Visits) : Type 0 where
  pub checked : Checked v.bundle
  pub done : DoneAll N v.bundle c ts v.results v.steps

pub conclude : {N : ℕ → Type 0} (b : Bundle) (k c t r : ℕ) (ps : List ℕ) → Checked b → c ≤ length b.contexts → Number (length b.terms) t
    → Result N b r → sort_of_term b r ≡ sort_of_term b t → InScope b c (tree b t) → ((x : ℕ) → N x → Mentioned b c x) → All (Number (length b.steps)) ps
    → ((B : Bundle) → Longer b B → WellFormed B → Instance B (rule_of k) c (tree B t) (tree B r) ps)
    → ((B : Bundle) → Longer b B → WellFormed B → rule_of k ≡ REFL → ReflForm B c (tree B t) (tree B r)) → Visited N c t (concluded b k c t r ps)
conclude b k c t r ps old hc nt res sorted scope allowed before rule form = record {
  checked = step_checked (add_list b ps) s (list_checked b ps old) holds;
  done = record {
    term = nt;
    result = result_kept longer old.formed.tables (λ x n. n) res;
    sorted = sort_tree_kept longer old.formed.tables r res.is_term.1 ∙ sorted ∙ sym (sort_tree_kept longer old.formed.tables t nt.1);
    step = (omega arith, omega (arith, length-append b.steps (s ∷ [])));
    context = ap (λ (x : Step). x.context) here;
    left = ap (λ (x : Step). x.left) here;
    right = ap (λ (x : Step). x.right) here;
  };
  last = omega (arith, length-append b.steps (s ∷ []));
}
  where
    s : Step
    s = record { rule = k; context = c; left = t; right = r; premises = list_start b ps }

    B : Bundle
    B = (concluded b k c t r ps).bundle

    longer : Longer b B
    longer = concluded_longer b k c t r ps

    listed : Longer (add_list b ps) B
    listed = steps_longer (add_list b ps) (s ∷ [])

    here : step_of B (suc (length b.steps)) ≡ s
    here = step_added (add_list b ps) s (longer_refl B)

    li : items B (list_start b ps) ≡ ps
    li = list_added b ps listed

    holds : WellFormed B → StepHolds B (suc (length b.steps))
    holds well = record {
      context = subst (λ (x : Step). x.context ≤ length B.contexts) (sym here) hc;
      left = subst (λ (x : Step). Number (length B.terms) x.left) (sym here) nt;
      right = subst (λ (x : Step). Number (length B.terms) x.right) (sym here) res.is_term;
      start = subst (λ (x : Step). x.premises ≤ length B.links) (sym here) (list_start_lem b ps listed);
      earlier = subst (λ (x : Step). All (Lower (suc (length b.steps))) (items B x.premises)) (sym here)
          (rw li (all_map (λ p n. (n.0, omega (arith, n.1))) ps before));
      scope = subst (SidesInScope B) (sym here) (
        scope_kept longer old.formed c t hc nt.1 scope,
        scope_kept longer old.formed c r hc res.is_term.1 (λ x f. allowed x (res.new x f)),
      );
      «instance» = subst (λ (x : Step). Instance B (rule_of x.rule) x.context (tree B x.left) (tree B x.right) (items B x.premises)) (sym here)
          (subst (Instance B (rule_of k) c (tree B t) (tree B r)) (sym li) (rule B longer well));
      pairs = subst (λ (x : Step). PairsSuffice B (rule_of x.rule) x) (sym here) (λ e. inl (form B longer well e));
    }
