-- THE WRITER'S THEOREM, on bundles, under either choice of names: the expansion of a closed rule of a well-formed job is a derivation of what it claims.
--     Derived, derived       THE THEOREM
use mathlib.Core.Path.{◌≡◌, refl, sym, ap, ◌∙◌, subst}
use Prim.Native.Nat.{ℕ, suc}
use mathlib.Core.Bool.{false}
use mathlib.Core.List.{[]}
use native.Mathlib.Omega.{arith}
use lib.ListN.{length}
use Rattle.bundle.specs.Bundle.{Bundle, step_of}
use Rattle.logic.specs.Lists.{Number}
use Rattle.logic.specs.Terms.{tree}
use Rattle.logic.specs.Free.{Closed}
use Rattle.logic.specs.Lets.{holds_let}
use Rattle.logic.specs.WellFormed.{TablesFormed, WellFormed}
use Rattle.logic.specs.Instance.{StepHolds}
use Rattle.logic.specs.Longer.{Longer}
use Rattle.logic.proofs.Images.{image_empty}
use Rattle.logic.proofs.Kept.{tree_kept}
use Rattle.judgement.specs.Demands.{LastIsClaim}
use Rattle.expansion.specs.declared.Names.{Names}
use Rattle.expansion.specs.Names.{keeps}
use Rattle.expansion.specs.Nodes.{Node, node_at}
use Rattle.expansion.specs.Visit.{Visit, visit, visited, expanded, claiming}
use Rattle.expansion.proofs.Grown.{claiming_longer, expanded_longer}
use Rattle.expansion.proofs.AppendedChecked.{Checked, claiming_checked}
use Rattle.expansion.proofs.Substitution.{Substitutes, own_gives}
use Rattle.expansion.proofs.Conclusions.{Done, done_kept, Visited}
use Rattle.expansion.proofs.Standing.{standing}
use Rattle.expansion.proofs.Falling.{falls_at}
use Rattle.expansion.proofs.Induction.{visit_visited}

-- B is b with a derivation of B's claim appended
pub record Derived (b B : Bundle) : Type 0 where
  -- tables and contexts are well formed, each step is an instance of its rule with its sides in scope, and the last is the claim,
  pub formed : WellFormed B
  pub steps : (k : ℕ) → Number (length B.steps) k → StepHolds B k
  pub claim : LastIsClaim B
  -- the job's records stand in it under their numbers, and its left is the job's,
  pub longer : Longer b B
  pub left : B.left ≡ b.left
  -- its right is a term that holds no let, and both sides are closed.
  pub right : Number (length B.terms) B.right
  pub plain : holds_let (tree B B.right) ≡ false
  pub closed : Closed (tree B B.left) × Closed (tree B B.right)

-- a job: its tables are well formed, it has no contexts and no steps, and its left is a closed term
module _ (names : Names) (b : Bundle) (tables : TablesFormed b) (contexts : b.contexts ≡ []) (steps : b.steps ≡ []) (left : Number (length b.terms) b.left)
    (closed : Closed (tree b b.left)) where
  -- where the visit starts: nothing to be checked, and no variable replaced
  pub start_checked : Checked b
  start_checked = record {
    formed = record { tables = tables; contexts = λ i n. absurd (omega (arith, ap length contexts, n.0, n.1)) };
    steps = λ k n. absurd (omega (arith, ap length steps, n.0, n.1));
  }

  pub start_substitutes : Substitutes (length b.variables) (λ x. ⊥) b 0
  start_substitutes = record {
    here = omega arith;
    job = omega arith;
    itself = λ x n. absurd n;
    gives = λ x r e. own_gives (sym (image_empty b x) ∙ e);
    stays = λ x l. image_empty b x;
  }

  pub rule_visited : Visited (λ x. ⊥) 0 b.left (visited names b)
  unfolding visited
  rule_visited =
      let (is, stands) = standing b tables b.left left in
      let τ : Node = node_at b b.left in
      subst (λ (t : ℕ). Visited (λ x. ⊥) 0 t (visit (keeps names b) τ 0 b)) is
      (visit_visited names b τ (suc b.left) b 0 start_checked start_substitutes stands (λ x f. absurd (closed x (rw is at f)))
      (falls_at b tables b.left left) (λ x n. absurd n))

  pub derived : Derived b (expanded names b)
  unfolding expanded visited
  derived = record {
    formed = all.formed;
    steps = all.steps;
    claim = record {
      some = omega (arith, done.step.0, rule_visited.last);
      context = ap (λ (k : ℕ). (step_of B k).context) (sym rule_visited.last) ∙ done.context;
      left = ap (λ (k : ℕ). (step_of B k).left) (sym rule_visited.last) ∙ done.left;
      right = ap (λ (k : ℕ). (step_of B k).right) (sym rule_visited.last) ∙ done.right;
    };
    longer = expanded_longer names b;
    left = refl;
    right = done.result.is_term;
    plain = done.result.plain;
    closed = (λ x f. closed x (rw (tree_kept (expanded_longer names b) tables b.left left.1) at f), done.result.new);
  }
    where
      v : Visit
      v = visited names b

      B : Bundle
      B = claiming v.bundle b.left v.result

      same : Longer v.bundle B
      same = claiming_longer v.bundle b.left v.result

      all : Checked B
      all = claiming_checked v.bundle b.left v.result rule_visited.checked

      done : Done (λ x. ⊥) B 0 b.left v.result v.step
      done = done_kept same rule_visited.checked.formed.tables rule_visited.done
