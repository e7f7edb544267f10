-- The pairs that walks of REFL visit.
--     spent_exactly           THE THEOREM: 21 is a step's fault exactly where it is a REFL of neither form whose walk visits more than 4,096 pairs
--     refl_rule               only 1 is REFL
--     walked_exactly          a step is walked exactly where it is a REFL of neither form
--     last_pairs_lem              the number that the answer gives is that of the last REFL walked
--     last_more, last_same    step by step, by the number of the step's pairs
--     last_pairs_at_most      where no step fails it is at most 4,096
use mathlib.Core.Path.{◌≡◌, refl, sym, ap, ◌∙◌}
use Prim.Native.Nat.{ℕ, zero, suc, ◌≤◌, ◌<◌}
use mathlib.Core.Bool.{Bool, true, false, cond, not, ◌||◌, false≢true}
use mathlib.Core.Logic.{◌↔◌}
use mathlib.Core.List.{[]}
use native.Mathlib.Omega.{arith}
use native.Mathlib.Decide.{dec_le}
use lib.ListN.{length}
use lib.Dec.{eqb, leb}
use borrow.Author.Tests.{eqb-true, le-leb, lt-leb, not-true}
use Rattle.std.proofs.lemmas.Bool.{false_from_ne_true}
use Rattle.std.proofs.lemmas.Bool.Decides.{Decides-and, Decides-not, Decides-eqb}
use Rattle.bundle.specs.Bundle.{Bundle, Step, step_of}
use Rattle.logic.specs.Terms.{tree}
use Rattle.logic.specs.Free.{free_at}
use Rattle.logic.specs.Contexts.{image}
use Rattle.logic.specs.Rules.{Rule, REFL, CONG, TRANS, BIND, LET, SKO_EXISTS, SKO_FOR_ALL, noRule, rule_of, refl_holds, refl_suffices, suffices_as}
use Rattle.logic.specs.Rules.{suffices, matches, sides, step_refers, scoped, step_tests, step_fault, steps_fault, walked, walked_pairs, last_pairs}
use Rattle.logic.specs.ReflWalk.{refl_walk, pair_limit}
use Rattle.logic.specs.Instance.{ReflForm}
use Rattle.logic.specs.Statements.{Spent, SpentExactly, WalkedExactly, LastWalked, no_walk, last_walk, LastPairs, LastPairsAtMost}
use Rattle.logic.proofs.Tests.{and_left, and_right, failing_none}
use Rattle.logic.proofs.Firsts.{none_bad}
use Rattle.logic.proofs.RuleNumbers.{number_of_rule}
use Rattle.logic.proofs.ReflWalk.{walk_some}
use Rattle.logic.proofs.ReflStep.{form_exactly}
use Rattle.logic.proofs.Instances.{refers_exactly}
use Rattle.logic.proofs.Scopes.{scoped_exactly}

-- ---- rule 1 is REFL

rule_refl : (r : ℕ) → r ≡ 1 → rule_of r ≡ REFL
unfolding rule_of
rule_refl r e = rw e

pub refl_rule : (r : ℕ) → rule_of r ≡ REFL → r ≡ 1
refl_rule r e = number_of_rule r REFL e (λ o. let z : ◌≡◌ {A = ℕ} 0 1 = cc in omega arith)

-- only a REFL is spent, and only where no form takes it and the walk visits more
suffices_false : (b : Bundle) (s : Step) (r : ℕ) → suffices_as b (rule_of r) s ≡ false → (r ≡ 1) × (refl_holds b s ≡ false) × (pair_limit < (refl_walk b s).pairs)
unfolding suffices_as refl_suffices
suffices_false b s r e = go (rule_of r) refl e
  where
    walk_over : (p : Bool) → (p || leb (refl_walk b s).pairs pair_limit) ≡ false → Dec ((refl_walk b s).pairs ≤ pair_limit)
        → (p ≡ false) × (pair_limit < (refl_walk b s).pairs)
    walk_over true h d = absurd (false≢true (sym h))
    walk_over false h (yes le) = absurd (false≢true (sym h ∙ le-leb (refl_walk b s).pairs pair_limit le))
    walk_over false h (no over) = (refl, omega arith)

    go : (k : Rule) → rule_of r ≡ k → suffices_as b k s ≡ false → (r ≡ 1) × (refl_holds b s ≡ false) × (pair_limit < (refl_walk b s).pairs)
    go REFL is h =
        let (no_form, over) = walk_over (refl_holds b s) h (dec_le (refl_walk b s).pairs pair_limit) in (refl_rule r is, no_form, over)
    go CONG is h = absurd (false≢true (sym h))
    go TRANS is h = absurd (false≢true (sym h))
    go BIND is h = absurd (false≢true (sym h))
    go LET is h = absurd (false≢true (sym h))
    go SKO_EXISTS is h = absurd (false≢true (sym h))
    go SKO_FOR_ALL is h = absurd (false≢true (sym h))
    go noRule is h = absurd (false≢true (sym h))

false_suffices : (b : Bundle) (s : Step) (r : ℕ) → r ≡ 1 → refl_holds b s ≡ false → pair_limit < (refl_walk b s).pairs → suffices_as b (rule_of r) s ≡ false
unfolding suffices_as refl_suffices
false_suffices b s r is no_form over =
    ap (λ (k : Rule). suffices_as b k s) (rule_refl r is)
    ∙ ap (λ (p : Bool). p || leb (refl_walk b s).pairs pair_limit) no_form
    ∙ lt-leb (refl_walk b s).pairs pair_limit over

-- ---- 21

pub spent_exactly : SpentExactly
unfolding step_fault scoped suffices
spent_exactly b well k = (λ e. there (step_refers b k) refl (scoped b k) refl (suffices b k) refl (matches b k) (sides b k) e, back)
  where
    s : Step
    s = step_of b k

    fault : Bool → Bool → Bool → Bool → Bool → ℕ
    fault p z q m t = cond p (cond z (cond q (cond m (cond t 0 14) 13) 21) 22) 12

    forms : step_refers b k ≡ true → (refl_holds b s ≡ true) ↔ ReflForm b s.context (tree b s.left) (tree b s.right)
    forms refers = let refs = (refers_exactly b well k).0 refers in form_exactly b well s refs.1 refs.2

    there : (p : Bool) → step_refers b k ≡ p → (z : Bool) → scoped b k ≡ z → (q : Bool) → suffices b k ≡ q → (m t : Bool) → fault p z q m t ≡ 21 → Spent b k
    there false refers z scope q enough m t e = absurd (omega arith)
    there true refers false scope q enough m t e = absurd (omega arith)
    there true refers true scope false enough m t e =
        let (is, no_form, over) = suffices_false b s s.rule enough in
        record { refers = refers; scope = (scoped_exactly b well s).0 scope; is_refl = is; no_form = λ f. false≢true (sym no_form ∙ (forms refers).1 f); over = over }
    there true refers true scope true enough true true e = absurd (omega arith)
    there true refers true scope true enough true false e = absurd (omega arith)
    there true refers true scope true enough false t e = absurd (omega arith)

    back : Spent b k → fault (step_refers b k) (scoped b k) (suffices b k) (matches b k) (sides b k) ≡ 21
    back h =
        rw (h.refers, (scoped_exactly b well s).1 h.scope, false_suffices b s s.rule h.is_refl (false_from_ne_true (refl_holds b s) (λ e. h.no_form ((forms h.refers).0 e))) h.over)

-- ---- the last REFL walked

pub walked_exactly : WalkedExactly
unfolding walked refl_holds
walked_exactly b well k left right =
    Decides-and (eqb (step_of b k).rule 1) (not (refl_holds b (step_of b k))) (Decides-eqb (step_of b k).rule 1) (Decides-not (refl_holds b (step_of b k)) (form_exactly b well (step_of b k) left right))

pairs_walked : (b : Bundle) (k : ℕ) → walked b k ≡ true → walked_pairs b k ≡ (refl_walk b (step_of b k)).pairs
unfolding walked_pairs walked
pairs_walked b k e = rw e

pub last_pairs_lem : LastPairs
unfolding last_pairs
last_pairs_lem b zero = no_walk (λ k n. absurd (omega arith)) refl
last_pairs_lem b (suc n) = go (walked b (suc n)) refl (last_pairs_lem b n)
  where
    none : (k : ℕ) → k ≤ suc n → (k ≤ n → walked b k ≡ false) → walked b (suc n) ≡ false → walked b k ≡ false
    none k le low here = at_end_lem (dec_le k n)
      where
        at_end_lem : Dec (k ≤ n) → walked b k ≡ false
        at_end_lem (yes h) = low h
        at_end_lem (no h) = let is : k ≡ suc n = omega arith in ap (walked b) is ∙ here

    go : (p : Bool) → walked b (suc n) ≡ p → LastWalked b n (last_pairs b n)
        → LastWalked b (suc n) (cond p (walked_pairs b (suc n)) (last_pairs b n))
    go true e h = last_walk (suc n) (omega arith, omega arith) e (λ j lo hi. absurd (omega arith)) (pairs_walked b (suc n) e)
    go false e (no_walk h is) = no_walk (λ k m. none k m.1 (λ le. h k (m.0, le)) e) is
    go false e (last_walk k m w after is) = last_walk k (m.0, omega (arith, m.1)) w (λ j lo hi. none j hi (λ le. after j lo le) e) is

-- so a step was walked where the number of its pairs is not 0
pub last_more : (b : Bundle) (k p : ℕ) → p ≡ walked_pairs b (suc k) → (p ≡ 0 → ⊥) → last_pairs b (suc k) ≡ p
unfolding last_pairs walked_pairs walked
last_more b k p e some = go (walked b (suc k)) refl
  where
    go : (w : Bool) → walked b (suc k) ≡ w → cond w (walked_pairs b (suc k)) (last_pairs b k) ≡ p
    go true h = sym e
    go false h = absurd (some (e ∙ ap (λ (w : Bool). cond w (refl_walk b (step_of b (suc k))).pairs 0) h))

pub last_same : (b : Bundle) (k p : ℕ) → p ≡ walked_pairs b (suc k) → p ≡ 0 → last_pairs b (suc k) ≡ last_pairs b k
unfolding last_pairs walked_pairs walked
last_same b k p e none = go (walked b (suc k)) refl
  where
    go : (w : Bool) → walked b (suc k) ≡ w → cond w (walked_pairs b (suc k)) (last_pairs b k) ≡ last_pairs b k
    go true h =
        let s : Step = step_of b (suc k) in
        let zero-pairs : (refl_walk b s).pairs ≡ 0 = sym (pairs_walked b (suc k) h) ∙ sym e ∙ none in
        absurd (omega (arith, zero-pairs, walk_some (free_at b) (image b s.context) b s.left [] s.right))
    go false h = refl

pub last_pairs_at_most : LastPairsAtMost
unfolding steps_fault step_fault suffices walked refl_holds
last_pairs_at_most b e = go (last_pairs_lem b (length b.steps))
  where
    go : {p : ℕ} → LastWalked b (length b.steps) p → p ≤ pair_limit
    go (no_walk h is) = omega (arith, is)
    go {p = p} (last_walk k n w after is) = within (dec_le (refl_walk b s).pairs pair_limit)
      where
        s : Step
        s = step_of b k

        enough : suffices_as b (rule_of s.rule) s ≡ true
        enough = (failing_none (step_tests b k) refl (none_bad (step_fault b) (length b.steps) e k n.0 n.1)).1.1.0

        is_walked : (eqb s.rule 1 ≡ true) × (not (refl_holds b s) ≡ true)
        is_walked = (and_left (eqb s.rule 1) (not (refl_holds b s)) w, and_right (eqb s.rule 1) (not (refl_holds b s)) w)

        within : Dec ((refl_walk b s).pairs ≤ pair_limit) → p ≤ pair_limit
        within (yes le) = omega (arith, is)
        within (no over) =
            absurd (false≢true (sym (false_suffices b s s.rule (eqb-true s.rule 1 is_walked.0) (not-true (refl_holds b s) is_walked.1) (omega arith)) ∙ enough))
