-- The names that the parser meets.
--     trace           the names that the stack machine meets in a list of lexemes
--     traced          THE LAW: in a spelling it meets the names of the formula
--     met_agrees      THE LAW: bytes and lexemes give the same names
use Prim.Native.Nat.{ℕ, suc, ◌-◌}
use mathlib.Core.Path.{◌≡◌, refl, sym, ap, ap₂, ◌∙◌}
use mathlib.Core.Bool.{Bool, true, false, cond, true≢false}
use mathlib.Core.List.{List, [], ◌∷◌, ◌++◌, append_assoc, append-nil}
use mathlib.Core.Option.{Option, none, some}
use lib.ListN.{length}
use Rattle.grammar.specs.Bytes.{Class, space, lineEnd, semicolon, opening, closing, digit, symbol, other, Word, constant, negation, connective}
use Rattle.grammar.specs.Bytes.{quantifier, letting, sort, name, class_of, word_of}
use Rattle.grammar.specs.Grammar.{SortedVariable, declares, Formula, called, truth, bracketed, Bracketed, denies, connects, applies, quantifies}
use Rattle.grammar.specs.Grammar.{lets, Formulas, no_formula, and_formula, Bindings, no_binding, and_binding, Lexeme, opens, closes, word, stray}
use Rattle.grammar.specs.Grammar.{spell, spell_variables, spell_bracketed, spell_formulas, spell_bindings, spelling, Mode, between}
use Rattle.grammar.specs.Grammar.{comment, within, bracket, ends, onwards, last, lexemes_from, lexemes, Reads}
use Rattle.grammar.specs.Parser.{Due, formula, formulas, inside, opener, closer, sorted, sorteds, bound, bounds, variable, sortName, One, Fill}
use Rattle.grammar.specs.Parser.{Stack, and_then, push, advance, on_formula, on_formulas, on_inside, on_variable, on_sort, takes, feed}
use Rattle.grammar.specs.Parser.{may_grow, viable, State, enter, step, start}
use Rattle.grammar.specs.Names.{symbolOnly, variableOnly, Name, variable_names, names, names_inside, names_of_all, names_bound}
use Rattle.grammar.specs.Names.{name_at, word_at, met_at, Located, locate, called_of, ends_at, ended_by, while_steps, met_from, met}
use Rattle.grammar.proofs.Words.{grown}
use Rattle.grammar.proofs.Bytewise.{refuses}

-- ---- the stack machine

unfoldable pub met_in : List Due → Lexeme → List Name
unfolding met_at
met_in σ opens = []
met_in σ closes = []
met_in σ (word w) = met_at σ w
met_in σ stray = []

module _ {A : Type 0} where
  unfoldable pub on_stack : Option (Stack A) → (Stack A → List Name) → List Name
  on_stack none f = []
  on_stack (some s) f = f s

  unfoldable pub trace : List Lexeme → Stack A → List Name
  unfolding met_in on_stack takes
  trace [] s = []
  trace (l ∷ ls) s = met_in s.due l ++ on_stack (takes s.due s.back l) (trace ls)

  trace_append : (xs ys : List Lexeme) (s : Stack A) → trace (xs ++ ys) s ≡ trace xs s ++ on_stack (feed xs s) (trace ys)
  unfolding trace feed on_stack and_then
  trace_append [] ys s = refl
  trace_append (x ∷ xs) ys s = ap (met_in s.due x ++◌) (go (takes s.due s.back x) (trace_append xs ys)) ∙ sym (append_assoc (met_in s.due x) _ _)
    where
      go : (o : Option (Stack A)) → ((s : Stack A) → trace (xs ++ ys) s ≡ trace xs s ++ on_stack (feed xs s) (trace ys))
          → on_stack o (trace (xs ++ ys)) ≡ on_stack o (trace xs) ++ on_stack (and_then o (feed xs)) (trace ys)
      go none h = refl
      go (some s) h = h s

  -- ---- spellings

  abbrev at : (d : Due) (σ : List Due) → (Fill (d ∷ σ) → A) → Stack A
  at d σ k = record { due = d ∷ σ; back = k }

  abbrev past : (d : Due) (x : One d) (σ : List Due) → (Fill (d ∷ σ) → A) → Stack A
  past d x σ k = record { due = σ; back = λ f. k (x, f) }

  traces_variables : (xs : List SortedVariable) (ls : List Lexeme) (σ : List Due) (k : Fill (sorteds ∷ σ) → A)
      → trace (spell_variables xs ls) (at sorteds σ k) ≡ variable_names xs (trace ls (past sorteds xs σ k))
  unfolding spell_variables trace on_stack met_in met_at word_at name_at takes and_then push advance on_variable on_sort variable_names
  traces_variables [] ls σ k = refl
  traces_variables (declares x s ∷ xs) ls σ k =
      ap (λ ns. record { place = variableOnly; spelled = x } ∷ ns) (traces_variables xs ls σ (λ f. k (declares x s ∷ f.0, f.1)))

  first_traced : (φ : Formula) (ls : List Lexeme) (σ : List Due) (k : Fill (formulas ∷ σ) → A)
      → trace (spell φ ls) (at formulas σ k) ≡ trace (spell φ ls) (at formula (formulas ∷ σ) (λ f. k (and_formula f.0 f.1.0, f.1.1)))
  unfolding spell trace on_stack met_in met_at word_at name_at takes and_then push advance on_formula on_formulas
  first_traced (called w) ls σ k = refl
  first_traced (truth v) ls σ k = refl
  first_traced (bracketed b) ls σ k = refl

  mutual
    unfolding spell spell_variables trace on_stack met_in met_at word_at name_at takes and_then push advance on_formula on_formulas on_inside on_variable on_sort names
        variable_names

    pub traces : (φ : Formula) (ls : List Lexeme) (σ : List Due) (k : Fill (formula ∷ σ) → A)
        → trace (spell φ ls) (at formula σ k) ≡ names φ (trace ls (past formula φ σ k))
    traces (called w) ls σ k = refl
    traces (truth v) ls σ k = refl
    traces (bracketed b) ls σ k = traces_inside b ls σ (λ f. k (bracketed f.0, f.1))

    traces_inside : (b : Bracketed) (ls : List Lexeme) (σ : List Due) (k : Fill (inside ∷ σ) → A)
        → trace (spell_bracketed b ls) (at inside σ k) ≡ names_inside b (trace ls (past inside b σ k))
    traces_inside (denies φ) ls σ k = traces φ (closes ∷ ls) (closer ∷ σ) (λ f. k (denies f.0, f.1.1))
    traces_inside (connects c φ ψ) ls σ k =
        traces φ (spell ψ (closes ∷ ls)) (formula ∷ closer ∷ σ) (λ f. k (connects c f.0 f.1.0, f.1.1.1))
        ∙ ap (names φ) (traces ψ (closes ∷ ls) (closer ∷ σ) (λ f. k (connects c φ f.0, f.1.1)))
    traces_inside (applies w φ φs) ls σ k =
        ap (λ ns. record { place = symbolOnly; spelled = w } ∷ ns)
        (traces φ (spell_formulas φs ls) (formulas ∷ σ) (λ f. k (applies w f.0 f.1.0, f.1.1))
        ∙ ap (names φ) (traces_formulas φs ls σ (λ f. k (applies w φ f.0, f.1))))
    traces_inside (quantifies q (declares x s) xs φ) ls σ k =
        ap (λ ns. record { place = variableOnly; spelled = x } ∷ ns)
        (traces_variables xs (spell φ (closes ∷ ls)) (formula ∷ closer ∷ σ) (λ f. k (quantifies q (declares x s) f.0 f.1.0, f.1.1.1))
        ∙ ap (variable_names xs) (traces φ (closes ∷ ls) (closer ∷ σ) (λ f. k (quantifies q (declares x s) xs f.0, f.1.1))))
    traces_inside (lets x φ xs ψ) ls σ k =
        ap (λ ns. record { place = variableOnly; spelled = x } ∷ ns)
        (traces φ (closes ∷ spell_bindings xs (spell ψ (closes ∷ ls))) (closer ∷ bounds ∷ formula ∷ closer ∷ σ)
        (λ f. k (lets x f.0 f.1.1.0 f.1.1.1.0, f.1.1.1.1.1))
        ∙ ap (names φ)
        (traces_bindings xs (spell ψ (closes ∷ ls)) (formula ∷ closer ∷ σ) (λ f. k (lets x φ f.0 f.1.0, f.1.1.1))
        ∙ ap (names_bound xs) (traces ψ (closes ∷ ls) (closer ∷ σ) (λ f. k (lets x φ xs f.0, f.1.1)))))

    traces_formulas : (φs : Formulas) (ls : List Lexeme) (σ : List Due) (k : Fill (formulas ∷ σ) → A)
        → trace (spell_formulas φs ls) (at formulas σ k) ≡ names_of_all φs (trace ls (past formulas φs σ k))
    traces_formulas no_formula ls σ k = refl
    traces_formulas (and_formula φ φs) ls σ k =
        first_traced φ (spell_formulas φs ls) σ k
        ∙ traces φ (spell_formulas φs ls) (formulas ∷ σ) (λ f. k (and_formula f.0 f.1.0, f.1.1))
        ∙ ap (names φ) (traces_formulas φs ls σ (λ f. k (and_formula φ f.0, f.1)))

    traces_bindings : (xs : Bindings) (ls : List Lexeme) (σ : List Due) (k : Fill (bounds ∷ σ) → A)
        → trace (spell_bindings xs ls) (at bounds σ k) ≡ names_bound xs (trace ls (past bounds xs σ k))
    traces_bindings no_binding ls σ k = refl
    traces_bindings (and_binding x φ xs) ls σ k =
        ap (λ ns. record { place = variableOnly; spelled = x } ∷ ns)
        (traces φ (closes ∷ spell_bindings xs ls) (closer ∷ bounds ∷ σ) (λ f. k (and_binding x f.0 f.1.1.0, f.1.1.1))
        ∙ ap (names φ) (traces_bindings xs ls σ (λ f. k (and_binding x φ f.0, f.1))))

-- ---- bytes

pub called_append : (xs ys : List Located) → called_of (xs ++ ys) ≡ called_of xs ++ called_of ys
unfolding called_of
called_append [] ys = refl
called_append (x ∷ xs) ys = ap (x.called ∷◌) (called_append xs ys)

located : (n : ℕ) (xs : List Name) → called_of (locate n xs) ≡ xs
unfolding called_of locate
located n [] = refl
located n (x ∷ xs) = ap (x ∷◌) (located n xs)

ended_none : (k : Class) (n : ℕ) (m : Mode) (σ : List Due) → ends_at n m σ ≡ [] → ended_by k n m σ ≡ []
unfolding ended_by
ended_none space n m σ e = e
ended_none lineEnd n m σ e = e
ended_none semicolon n m σ e = e
ended_none opening n m σ e = e
ended_none closing n m σ e = e
ended_none digit n m σ e = refl
ended_none symbol n m σ e = refl
ended_none other n m σ e = e

-- where no word that is due starts so, no name is met
word_none : (d : Due) (w : Word) → ((v : List ℕ) → name_at d v ≡ []) → word_at d w ≡ []
unfolding word_at
word_none d (constant v) h = refl
word_none d negation h = refl
word_none d (connective c) h = refl
word_none d (quantifier q) h = refl
word_none d letting h = refl
word_none d (sort s) h = refl
word_none d (name w) h = h w

none_due : (w : List ℕ) (σ : List Due) (v : Word) → may_grow w σ ≡ false → met_at σ v ≡ []
unfolding may_grow met_at name_at
none_due w [] v e = refl
none_due w (formula ∷ σ) v e = absurd (true≢false e)
none_due w (formulas ∷ σ) v e = absurd (true≢false e)
none_due w (inside ∷ σ) v e = absurd (true≢false e)
none_due w (opener ∷ σ) v e = word_none opener v (λ u. refl)
none_due w (closer ∷ σ) v e = word_none closer v (λ u. refl)
none_due w (sorted ∷ σ) v e = word_none sorted v (λ u. refl)
none_due w (sorteds ∷ σ) v e = word_none sorteds v (λ u. refl)
none_due w (bound ∷ σ) v e = word_none bound v (λ u. refl)
none_due w (bounds ∷ σ) v e = word_none bounds v (λ u. refl)
none_due w (variable ∷ σ) v e = absurd (true≢false e)
none_due w (sortName ∷ σ) v e = word_none sortName v (λ u. refl)

module _ {A : Type 0} where
  nothing : (o : Option (Stack A)) → on_stack o (trace []) ≡ []
  unfolding on_stack trace
  nothing none = refl
  nothing (some s) = refl

  trace_bracket : (k : Class) (s : Stack A) → trace (bracket k) s ≡ []
  unfolding bracket trace met_in
  trace_bracket space s = refl
  trace_bracket lineEnd s = refl
  trace_bracket semicolon s = refl
  trace_bracket opening s = nothing (takes s.due s.back opens)
  trace_bracket closing s = nothing (takes s.due s.back closes)
  trace_bracket digit s = nothing (takes s.due s.back stray)
  trace_bracket symbol s = refl
  trace_bracket other s = nothing (takes s.due s.back stray)

  trace_word : (w : List ℕ) (k : Class) (n : ℕ) (s : Stack A) → trace (word (word_of w) ∷ bracket k) s ≡ called_of (ends_at n (within w) s.due)
  unfolding trace met_in ends_at on_stack
  trace_word w k n s =
      ap (met_at s.due (word_of w) ++◌) (go (takes s.due s.back (word (word_of w)))) ∙ append-nil (met_at s.due (word_of w))
      ∙ sym (located (n - length w) (met_at s.due (word_of w)))
    where
      go : (o : Option (Stack A)) → on_stack o (trace (bracket k)) ≡ []
      go none = refl
      go (some s') = trace_bracket k s'

  ended_traced : (m : Mode) (k : Class) (n : ℕ) (s : Stack A) → trace (ends m k) s ≡ called_of (ended_by k n m s.due)
  unfolding ends trace called_of ends_at ended_by
  ended_traced between k n s = trace_bracket k s ∙ sym (ap called_of (ended_none k n between s.due refl))
  ended_traced comment k n s = sym (ap called_of (ended_none k n comment s.due refl))
  ended_traced (within w) space n s = trace_word w space n s
  ended_traced (within w) lineEnd n s = trace_word w lineEnd n s
  ended_traced (within w) semicolon n s = trace_word w semicolon n s
  ended_traced (within w) opening n s = trace_word w opening n s
  ended_traced (within w) closing n s = trace_word w closing n s
  ended_traced (within w) digit n s = refl
  ended_traced (within w) symbol n s = refl
  ended_traced (within w) other n s = trace_word w other n s

  last_traced : (m : Mode) (n : ℕ) (s : Stack A) → trace (last m) s ≡ called_of (ends_at n m s.due)
  unfolding last trace called_of ends_at bracket
  last_traced between n s = refl
  last_traced comment n s = refl
  last_traced (within w) n s = trace_word w space n s

  none_traced : (cs w : List ℕ) (s : Stack A) → may_grow w s.due ≡ false → trace (lexemes_from (within w) cs) s ≡ []
  unfolding lexemes_from last trace met_in on_stack ends onwards
  none_traced [] w s e = rw (none_due w s.due (word_of w) e, refuses w s.due s.back e)
  none_traced (c ∷ cs) w s e = go (class_of c) (none_traced cs (w ++ (c ∷ [])) s (grown w c s.due e))
    where
      go : (k : Class) → trace (lexemes_from (within (w ++ (c ∷ []))) cs) s ≡ [] → trace (ends (within w) k ++ lexemes_from (onwards (within w) c k) cs) s ≡ []
      go space h = rw (none_due w s.due (word_of w) e, refuses w s.due s.back e)
      go lineEnd h = rw (none_due w s.due (word_of w) e, refuses w s.due s.back e)
      go semicolon h = rw (none_due w s.due (word_of w) e, refuses w s.due s.back e)
      go opening h = rw (none_due w s.due (word_of w) e, refuses w s.due s.back e)
      go closing h = rw (none_due w s.due (word_of w) e, refuses w s.due s.back e)
      go digit h = h
      go symbol h = h
      go other h = rw (none_due w s.due (word_of w) e, refuses w s.due s.back e)

  not_viable_traced : (m : Mode) (s : Stack A) (cs : List ℕ) → viable m s.due ≡ false → trace (lexemes_from m cs) s ≡ []
  unfolding viable
  not_viable_traced between s cs e = absurd (true≢false e)
  not_viable_traced comment s cs e = absurd (true≢false e)
  not_viable_traced (within w) s cs e = none_traced cs w s e

  pub met_agrees : (cs : List ℕ) (n : ℕ) (st : State A) → called_of (met_from n cs st) ≡ trace (lexemes_from st.mode cs) st.stack
  unfolding met_from lexemes_from while_steps step and_then enter on_stack called_of
  met_agrees [] n st = sym (last_traced st.mode n st.stack)
  met_agrees (c ∷ cs) n st =
      called_append (ended_by (class_of c) n st.mode st.stack.due) (while_steps (step st c) (met_from (suc n) cs))
      ∙ ap₂ ◌++◌ (sym (ended_traced st.mode (class_of c) n st.stack)) (by_feed (feed (ends st.mode (class_of c)) st.stack) (met_agrees cs (suc n)))
      ∙ sym (trace_append (ends st.mode (class_of c)) (lexemes_from (onwards st.mode c (class_of c)) cs) st.stack)
    where
      by_viable : (m : Mode) (s : Stack A) (b : Bool) → viable m s.due ≡ b
          → called_of (met_from (suc n) cs (record { mode = m; stack = s })) ≡ trace (lexemes_from m cs) s
          → called_of (while_steps (cond b (some (record { mode = m; stack = s })) none) (met_from (suc n) cs)) ≡ trace (lexemes_from m cs) s
      by_viable m s true e h = h
      by_viable m s false e h = sym (not_viable_traced m s cs e)

      by_feed : (o : Option (Stack A)) → ((st : State A) → called_of (met_from (suc n) cs st) ≡ trace (lexemes_from st.mode cs) st.stack)
          → called_of (while_steps (and_then o (enter (onwards st.mode c (class_of c)))) (met_from (suc n) cs))
          ≡ on_stack o (trace (lexemes_from (onwards st.mode c (class_of c)) cs))
      by_feed none h = refl
      by_feed (some s) h =
          let m : Mode = onwards st.mode c (class_of c) in
          by_viable m s (viable m s.due) refl (h (record { mode = m; stack = s }))

-- In a text that is read, the names met are those of its formula.
pub names_met : (text : List ℕ) (φ : Formula) → Reads text φ → called_of (met text) ≡ names φ []
unfolding met start lexemes spelling trace
names_met text φ r = met_agrees text 0 start ∙ ap (λ ls. trace ls start.stack) r ∙ traces φ [] [] (λ f. f.0)
