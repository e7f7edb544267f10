-- The walk of CONG and LET, by the lists that the code takes.
--     cong_bad, cong_good     where the rest of CONG's tests fails, and where it passes
--     let_bad, let_good       so of LET's
use mathlib.Core.Path.{◌≡◌, ap, sym, ◌∙◌}
use mathlib.Core.Bool.{false, cond, ◌&&◌}
use Prim.Native.Nat.{ℕ}
use Rattle.bundle.specs.Bundle.{Bundle, Step}
use Rattle.bundle.specs.Links.{items}
use Rattle.logic.specs.declared.Walk.{Walk}
use Rattle.logic.specs.Tests.{passed}
use Rattle.logic.specs.Rules.{walk_by, head_tests, arguments_walk, cong_walk_by, body_tests, bound_walk, let_tests_by}
use Rattle.rules.specs.declared.Lists.{Lists}
use Rattle.rules.specs.WalkLists.{CongLists, LetLists}

module _ (step : ℕ → Step) (b : Bundle) (s : Step) where
  -- what the code's walk finds
  abbrev Walked : Lists → Walk → Type 0
  Walked l w = w ≡ walk_by step l.body l.context (items b l.lefts) (items b l.rights) (items b s.premises)

  pub cong_bad : passed (head_tests b s) ≡ false → record { passes = false; links = 0 } ≡ cong_walk_by step b s
  unfolding cong_walk_by
  cong_bad d =
      sym (λ i. record { passes = d i && (arguments_walk step b s).passes; links = cond (d i) (arguments_walk step b s).links 0 })

  pub cong_good : (w : Walk) (l : Lists) → CongLists b s l → Walked l w → w ≡ cong_walk_by step b s
  unfolding cong_walk_by
  cong_good w l h found =
      let d = h.good in
      (rw (h.body, h.context, h.lefts, h.rights) at found)
      ∙ sym (λ i. record { passes = d i && (arguments_walk step b s).passes; links = cond (d i) (arguments_walk step b s).links 0 })

  pub let_bad : passed (body_tests step b s) ≡ false → false ≡ passed (let_tests_by step b s)
  unfolding let_tests_by passed
  let_bad d =
      sym (λ i. d i && (bound_walk step b s).passes)

  pub let_good : (w : Walk) (l : Lists) → LetLists step b s l → Walked l w → w.passes ≡ passed (let_tests_by step b s)
  unfolding let_tests_by passed
  let_good w l h found =
      let d = h.good in
      ap (λ (x : Walk). x.passes) (rw (h.body, h.context, h.lefts, h.rights) at found) ∙ sym (λ i. d i && (bound_walk step b s).passes)
