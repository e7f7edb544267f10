-- THE VERDICT of the parser that keeps no formula is that of 19 and 20 together.
--     resolved_judged
use Prim.Native.Nat.{ℕ, suc}
use mathlib.Core.Path.{◌≡◌, refl}
use mathlib.Core.Bool.{Bool, true, false, cond}
use mathlib.Core.List.{List, [], ◌∷◌, ◌++◌}
use mathlib.Core.Option.{Option, none, some}
use Rattle.grammar.specs.Bytes.{class_of}
use Rattle.grammar.specs.Grammar.{Formula}
use Rattle.grammar.specs.Parser.{State, step, finish, on_read, on_step, parse_from, start, parse}
use Rattle.grammar.specs.Names.{Name, Located, ends_at, ended_by, while_steps, met_from, first_unknown, otherwise, or_unknown, resolve}
use Rattle.grammar.specs.Names as N
use Rattle.grammar.proofs.Erased.{mapped, state_by, step_by, finish_by}
use Rattle.spots.specs.Spots.{wants, wanted, owed, due_at}
use Rattle.spots.specs.Judgement.{verdict_of, unknown_or, go_on, at_end, judge_from, standing}

module _ (known : Name → Bool) where
  erased : State Formula → State (Unit {0})
  erased st = state_by (λ φ. tt) st

  abbrev Agrees : ℕ → List ℕ → State Formula → Type 0
  Agrees n cs st = verdict_of (or_unknown (first_unknown known (met_from n cs st)) (otherwise (parse_from n cs st))) ≡ judge_from known n cs (erased st)

  ends_agree : (n : ℕ) (u : Option ℕ) (o : Option Formula) (o' : Option (Unit {0})) → o' ≡ mapped (λ φ. tt) o
      → verdict_of (or_unknown u (otherwise (on_read n o))) ≡ unknown_or u (at_end n o')
  unfolding verdict_of or_unknown otherwise on_read unknown_or at_end mapped
  ends_agree n (some m) o o' e = refl
  ends_agree n none none o' e = rw e
  ends_agree n none (some φ) o' e = rw e

  step_agrees : (n : ℕ) (cs : List ℕ) → ((st : State Formula) → Agrees (suc n) cs st)
      → (xs : List Located) (o : Option (State Formula)) (o' : Option (State (Unit {0}))) → o' ≡ mapped erased o
      → verdict_of (or_unknown (first_unknown known (xs ++ while_steps o (met_from (suc n) cs))) (otherwise (on_step n o (parse_from (suc n) cs))))
      ≡ unknown_or (first_unknown known xs) (go_on n o' (judge_from known (suc n) cs))
  unfolding verdict_of or_unknown otherwise on_step unknown_or go_on mapped first_unknown while_steps
  step_agrees n cs h [] none o' e = rw e
  step_agrees n cs h [] (some st) o' e = rw e (h st)
  step_agrees n cs h (l ∷ ls) o o' e = by (known l.called) (step_agrees n cs h ls o o' e)
    where
      by : (b : Bool)
          → verdict_of (or_unknown (first_unknown known (ls ++ while_steps o (met_from (suc n) cs))) (otherwise (on_step n o (parse_from (suc n) cs))))
          ≡ unknown_or (first_unknown known ls) (go_on n o' (judge_from known (suc n) cs))
          → verdict_of (or_unknown (cond b (first_unknown known (ls ++ while_steps o (met_from (suc n) cs))) (some l.first))
          (otherwise (on_step n o (parse_from (suc n) cs))))
          ≡ unknown_or (cond b (first_unknown known ls) (some l.first)) (go_on n o' (judge_from known (suc n) cs))
      by true p = p
      by false p = refl

  agrees : (cs : List ℕ) (n : ℕ) (st : State Formula) → Agrees n cs st
  unfolding met_from parse_from judge_from erased
  agrees [] n st = ends_agree n (first_unknown known (ends_at n st.mode st.stack.due)) (finish st) (finish (erased st)) (finish_by (λ φ. tt) st)
  agrees (c ∷ cs) n st =
      step_agrees n cs (agrees cs (suc n)) (ended_by (class_of c) n st.mode st.stack.due) (step st c) (step (erased st) c) (step_by (λ φ. tt) st c)

  pub resolved_judged : (text : List ℕ) → verdict_of (resolve known text) ≡ judge_from known 0 text (standing 1 [])
  unfolding resolve N.met parse start erased due_at owed wanted wants
  resolved_judged text = agrees text 0 start
