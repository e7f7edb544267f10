-- The parser on bytes reads what the stack machine reads from the lexemes.
--     feed_append, steps_append     one run after another
--     refused        where no word that is due starts so, nothing is read
--     agrees         THE LAW: bytes and lexemes give the same
use Prim.Native.Nat.{ℕ}
use mathlib.Core.Path.{◌≡◌, refl, sym, ◌∙◌}
use mathlib.Core.Bool.{Bool, true, false, cond, true≢false}
use mathlib.Core.List.{List, [], ◌∷◌, ◌++◌}
use mathlib.Core.Option.{Option, none, some}
use Rattle.std.proofs.lemmas.Bool.{or_parts}
use Rattle.grammar.specs.Bytes.{Class, space, lineEnd, semicolon, opening, closing, digit, symbol, other, class_of, word_of, bytes}
use Rattle.grammar.specs.Grammar.{Lexeme, word, Mode, between, comment, within, ends, onwards, last, lexemes_from}
use Rattle.grammar.specs.Parser.{Due, formula, formulas, inside, opener, closer, sorted, sorteds, bound, bounds, variable, sortName, Fill}
use Rattle.grammar.specs.Parser.{Stack, and_then, advance, takes, feed, complete, run, starts, may_grow, viable, State, enter, step, steps}
use Rattle.grammar.specs.Parser.{finish}
use Rattle.grammar.proofs.Words.{not_sort, grown}

pub then_then : {B C D : Type 0} (o : Option B) (f : B → Option C) (g : C → Option D) → and_then (and_then o f) g ≡ and_then o (λ b. and_then (f b) g)
unfolding and_then
then_then none f g = refl
then_then (some b) f g = refl

module _ {A : Type 0} where
  pub feed_append : (xs ys : List Lexeme) (s : Stack A) → feed (xs ++ ys) s ≡ and_then (feed xs s) (feed ys)
  unfolding feed and_then
  feed_append [] ys s = refl
  feed_append (x ∷ xs) ys s = go (takes s.due s.back x) (feed_append xs ys)
    where
      go : (o : Option (Stack A)) → ((s : Stack A) → feed (xs ++ ys) s ≡ and_then (feed xs s) (feed ys))
          → and_then o (feed (xs ++ ys)) ≡ and_then (and_then o (feed xs)) (feed ys)
      go none h = refl
      go (some s) h = h s

  pub run_append : (xs ys : List Lexeme) (s : Stack A) → run (xs ++ ys) s ≡ and_then (feed xs s) (run ys)
  unfolding run and_then
  run_append xs ys s = rw (feed_append xs ys s) (then_then (feed xs s) (feed ys) (λ s'. complete s'.due s'.back))

  pub steps_append : (xs ys : List ℕ) (st : State A) → steps (xs ++ ys) st ≡ and_then (steps xs st) (steps ys)
  unfolding steps and_then
  steps_append [] ys st = refl
  steps_append (x ∷ xs) ys st = go (step st x) (steps_append xs ys)
    where
      go : (o : Option (State A)) → ((st : State A) → steps (xs ++ ys) st ≡ and_then (steps xs st) (steps ys))
          → and_then o (steps (xs ++ ys)) ≡ and_then (and_then o (steps xs)) (steps ys)
      go none h = refl
      go (some st) h = h st

  -- ---- a run that can become no word that is due

  pub refuses : (w : List ℕ) (σ : List Due) (k : Fill σ → A) → may_grow w σ ≡ false → takes σ k (word (word_of w)) ≡ none
  unfolding may_grow takes and_then advance
  refuses w [] k e = refl
  refuses w (formula ∷ σ) k e = absurd (true≢false e)
  refuses w (formulas ∷ σ) k e = absurd (true≢false e)
  refuses w (inside ∷ σ) k e = absurd (true≢false e)
  refuses w (opener ∷ σ) k e = refl
  refuses w (closer ∷ σ) k e = refl
  refuses w (sorted ∷ σ) k e = refl
  refuses w (sorteds ∷ σ) k e = refl
  refuses w (bound ∷ σ) k e = refl
  refuses w (bounds ∷ σ) k e = refl
  refuses w (variable ∷ σ) k e = absurd (true≢false e)
  refuses w (sortName ∷ σ) k e =
      let h = or_parts (starts w (bytes "Bool")) (starts w (bytes "Item")) e in
      rw (not_sort w h.0 h.1)

  refused : (cs : List ℕ) (w : List ℕ) (σ : List Due) (k : Fill σ → A) → may_grow w σ ≡ false
      → run (lexemes_from (within w) cs) (record { due = σ; back = k }) ≡ none
  unfolding lexemes_from last run feed and_then ends onwards
  refused [] w σ k e = rw (refuses w σ k e)
  refused (c ∷ cs) w σ k e = go (class_of c) (refused cs (w ++ (c ∷ [])) σ k (grown w c σ e))
    where
      go : (k' : Class) → run (lexemes_from (within (w ++ (c ∷ []))) cs) (record { due = σ; back = k }) ≡ none
          → run (ends (within w) k' ++ lexemes_from (onwards (within w) c k') cs) (record { due = σ; back = k }) ≡ none
      go space h = rw (refuses w σ k e)
      go lineEnd h = rw (refuses w σ k e)
      go semicolon h = rw (refuses w σ k e)
      go opening h = rw (refuses w σ k e)
      go closing h = rw (refuses w σ k e)
      go digit h = h
      go symbol h = h
      go other h = rw (refuses w σ k e)

  -- ---- bytes and lexemes

  not_viable : (m : Mode) (σ : List Due) (k : Fill σ → A) (cs : List ℕ) → viable m σ ≡ false → run (lexemes_from m cs) (record { due = σ; back = k }) ≡ none
  unfolding viable
  not_viable between σ k cs e = absurd (true≢false e)
  not_viable comment σ k cs e = absurd (true≢false e)
  not_viable (within w) σ k cs e = refused cs w σ k e

  pub agrees : (cs : List ℕ) (st : State A) → and_then (steps cs st) finish ≡ run (lexemes_from st.mode cs) st.stack
  unfolding steps finish lexemes_from and_then step enter
  agrees [] st = refl
  agrees (c ∷ cs) st =
      by_feed (feed (ends st.mode (class_of c)) st.stack) (agrees cs)
      ∙ sym (run_append (ends st.mode (class_of c)) (lexemes_from (onwards st.mode c (class_of c)) cs) st.stack)
    where
      by_viable : (m : Mode) (s : Stack A) (b : Bool) → viable m s.due ≡ b
          → and_then (steps cs (record { mode = m; stack = s })) finish ≡ run (lexemes_from m cs) s
          → and_then (and_then (cond b (some (record { mode = m; stack = s })) none) (steps cs)) finish ≡ run (lexemes_from m cs) s
      by_viable m s true e h = h
      by_viable m s false e h = sym (not_viable m s.due s.back cs e)

      by_feed : (o : Option (Stack A)) → ((st : State A) → and_then (steps cs st) finish ≡ run (lexemes_from st.mode cs) st.stack)
          → and_then (and_then (and_then o (enter (onwards st.mode c (class_of c)))) (steps cs)) finish
          ≡ and_then o (run (lexemes_from (onwards st.mode c (class_of c)) cs))
      by_feed none h = refl
      by_feed (some s) h =
          let m : Mode = onwards st.mode c (class_of c) in
          by_viable m s (viable m s.due) refl (h (record { mode = m; stack = s }))
