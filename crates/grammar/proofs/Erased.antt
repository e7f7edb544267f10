-- The parser that keeps no formula gives the same verdict: what the syntax pass of the code says of the grammar.
--     judged_exactly     THE THEOREM
--     step_by, finish_by  what is read is carried along, and nothing else depends on it
use Prim.Native.Nat.{ℕ, suc}
use mathlib.Core.Path.{◌≡◌, refl, sym, ap, ◌∙◌}
use mathlib.Core.Bool.{Bool, true, false, cond}
use mathlib.Core.List.{List, [], ◌∷◌}
use mathlib.Core.Option.{Option, none, some}
use Rattle.grammar.specs.Bytes.{class_of}
use Rattle.grammar.specs.Grammar.{Formula, Lexeme, Mode, ends, onwards, last, InGrammar, Unread}
use Rattle.grammar.specs.Parser.{Due, Fill, Move, Stack, and_then, push, advance, takes, feed, complete, run, viable, State, enter, step}
use Rattle.grammar.specs.Parser.{finish, Outcome, read, unread, on_read, on_step, parse_from, start, parse, start_of_scan, judged}
use Rattle.grammar.specs.Statements.{JudgedExactly}
use Rattle.grammar.proofs.Exact.{read_exactly, unread_exactly, apart}

unfoldable pub mapped : {A B : Type 0} → (A → B) → Option A → Option B
mapped g none = none
mapped g (some a) = some (g a)

module _ {A B : Type 0} (g : A → B) where
  abbrev pub stack_by : Stack A → Stack B
  stack_by s = record { due = s.due; back = λ f. g (s.back f) }

  abbrev pub state_by : State A → State B
  state_by st = record { mode = st.mode; stack = stack_by st.stack }

  outcome_by : Outcome A → Outcome B
  outcome_by (read a) = read (g a)
  outcome_by (unread n) = unread n

  takes_by : (σ : List Due) (k : Fill σ → A) (l : Lexeme) → takes σ (λ f. g (k f)) l ≡ mapped stack_by (takes σ k l)
  unfolding takes mapped
  takes_by [] k l = refl
  takes_by (d ∷ σ) k l = go (advance d l)
    where
      go : (o : Option (Move d)) → and_then o (λ m. some (push d σ (λ f. g (k f)) m)) ≡ mapped stack_by (and_then o (λ m. some (push d σ k m)))
      go none = refl
      go (some m) = refl

  feed_by : (ls : List Lexeme) (s : Stack A) → feed ls (stack_by s) ≡ mapped stack_by (feed ls s)
  unfolding feed mapped and_then
  feed_by [] s = refl
  feed_by (l ∷ ls) s = ap (λ o. and_then o (feed ls)) (takes_by s.due s.back l) ∙ go (takes s.due s.back l) (feed_by ls)
    where
      go : (o : Option (Stack A)) → ((s : Stack A) → feed ls (stack_by s) ≡ mapped stack_by (feed ls s))
          → and_then (mapped stack_by o) (feed ls) ≡ mapped stack_by (and_then o (feed ls))
      go none h = refl
      go (some s) h = h s

  enter_by : (m : Mode) (s : Stack A) → enter m (stack_by s) ≡ mapped state_by (enter m s)
  unfolding enter mapped
  enter_by m s = go (viable m s.due)
    where
      go : (b : Bool) → cond b (some (record { mode = m; stack = stack_by s })) none ≡ mapped state_by (cond b (some (record { mode = m; stack = s })) none)
      go true = refl
      go false = refl

  pub step_by : (st : State A) (c : ℕ) → step (state_by st) c ≡ mapped state_by (step st c)
  unfolding step mapped and_then
  step_by st c =
      ap (λ o. and_then o (enter (onwards st.mode c (class_of c)))) (feed_by (ends st.mode (class_of c)) st.stack)
      ∙ go (feed (ends st.mode (class_of c)) st.stack)
    where
      go : (o : Option (Stack A))
          → and_then (mapped stack_by o) (enter (onwards st.mode c (class_of c))) ≡ mapped state_by (and_then o (enter (onwards st.mode c (class_of c))))
      go none = refl
      go (some s) = enter_by (onwards st.mode c (class_of c)) s

  complete_by : (σ : List Due) (k : Fill σ → A) → complete σ (λ f. g (k f)) ≡ mapped g (complete σ k)
  unfolding complete mapped
  complete_by [] k = refl
  complete_by (d ∷ σ) k = refl

  pub finish_by : (st : State A) → finish (state_by st) ≡ mapped g (finish st)
  unfolding finish run mapped and_then
  finish_by st = ap (λ o. and_then o (λ s. complete s.due s.back)) (feed_by (last st.mode) st.stack) ∙ go (feed (last st.mode) st.stack)
    where
      go : (o : Option (Stack A)) → and_then (mapped stack_by o) (λ s. complete s.due s.back) ≡ mapped g (and_then o (λ s. complete s.due s.back))
      go none = refl
      go (some s) = complete_by s.due s.back

  parse_by : (cs : List ℕ) (n : ℕ) (st : State A) → parse_from n cs (state_by st) ≡ outcome_by (parse_from n cs st)
  unfolding parse_from on_read on_step mapped outcome_by
  parse_by [] n st = ap (on_read n) (finish_by st) ∙ go (finish st)
    where
      go : (o : Option A) → on_read n (mapped g o) ≡ outcome_by (on_read n o)
      go none = refl
      go (some a) = refl
  parse_by (c ∷ cs) n st = ap (λ o. on_step n o (parse_from (suc n) cs)) (step_by st c) ∙ go (step st c) (parse_by cs (suc n))
    where
      go : (o : Option (State A)) → ((st : State A) → parse_from (suc n) cs (state_by st) ≡ outcome_by (parse_from (suc n) cs st))
          → on_step n (mapped state_by o) (parse_from (suc n) cs) ≡ outcome_by (on_step n o (parse_from (suc n) cs))
      go none h = refl
      go (some st) h = h st

abbrev verdict_of : Outcome Formula → Outcome (Unit {0})
verdict_of o = outcome_by (λ φ. tt) o

judged_parse : (text : List ℕ) → judged text ≡ verdict_of (parse text)
unfolding judged start_of_scan parse start
judged_parse text = parse_by (λ φ. tt) text 0 start

pub judged_exactly : JudgedExactly
unfolding outcome_by
judged_exactly text = (
  (λ e. there (parse text) refl (sym (judged_parse text) ∙ e), λ g. judged_parse text ∙ ap verdict_of ((read_exactly text g.0).1 g.1)),
  λ n. (λ e. back n (parse text) refl (sym (judged_parse text) ∙ e), λ u. judged_parse text ∙ ap verdict_of ((unread_exactly text n).1 u)),
)
  where
    there : (o : Outcome Formula) → parse text ≡ o → verdict_of o ≡ read tt → InGrammar text
    there (read φ) e q = (φ, (read_exactly text φ).0 e)
    there (unread n) e q = absurd (apart {A = Unit {0}} tt n (sym q))

    back : (n : ℕ) (o : Outcome Formula) → parse text ≡ o → verdict_of o ≡ unread n → Unread text n
    back n (read φ) e q = absurd (apart {A = Unit {0}} tt n q)
    back n (unread m) e q = let same : m ≡ n = cc in (unread_exactly text n).0 (e ∙ ap unread same)
