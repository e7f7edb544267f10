-- Laws of one lexeme of a text at a spot: the verdict is that of the rest, or 19 or 20.
--     over_lexeme                                 blanks
--     opens_goes, opens_stops, closes_goes, closes_stops, stray_stops
--     word_goes, word_unknown, word_stops         a run
--     judged_end                                  the text's end
use Prim.Native.Nat.{ℕ, suc, ◌+◌, ◌-◌, ◌≤◌, ◌<◌}
use native.Mathlib.Omega.{arith}
use native.Mathlib.Numerals.{add-one}
use mathlib.Core.Path.{◌≡◌, refl, sym, ap, ◌∙◌}
use mathlib.Core.Bool.{Bool, true, false, cond, not, ◌&&◌, ◌||◌, true≢false, false≢true, or-false}
use mathlib.Core.List.{List, [], ◌∷◌, ◌++◌, map}
use mathlib.Core.Option.{none, some, none-ne-some}
use lib.ListN.{length, get_or, drop}
use lib.Seq.{drop-cons, drop-drop}
use lib.Dec.{eqb, ltb}
use borrow.Author.Tests.{lt-ltb, le-ltb, eq-eqb, ne_eqb, eqb-true, eqb-false, not-true}
use Rattle.bundle.specs.Lists.{each, same_list}
use Rattle.logic.specs.Tests.{Fault, fault}
use Rattle.logic.proofs.Tests.{and_left, and_right}
use Rattle.grammar.specs.Bytes.{Class, space, lineEnd, semicolon, opening, closing, digit, symbol, other, Word, constant, negation, connective, quantifier, letting, sort, name, class_of}
use Rattle.grammar.specs.Bytes.{word_of, bytes, twelve, Reserved}
use Rattle.grammar.specs.Grammar.{opens, closes, word, stray, between, within}
use Rattle.grammar.specs.Parser.{Due, stack_of, takes, run, feed, and_then, finish, starts, may_grow}
use Rattle.grammar.specs.Grammar.{last}
use Rattle.grammar.specs.Names.{Name, locate, word_at, met_at, ends_at, first_unknown}
use Rattle.grammar.proofs.Words.{Each, among}
use Rattle.grammar.proofs.Bytewise.{refuses}
use Rattle.lexing.specs.Codes.{class_code, word_code}
use Rattle.lexing.specs.Common.{common}
use Rattle.lexing.specs.Counted.{place_of}
use Rattle.lexing.proofs.ClassLaws.{is_class}
use Rattle.lexing.proofs.CommonLaws.{starts_common}
use Rattle.spots.specs.Spots.{wanted, owed, due_at, cell, Nested}
use Rattle.spots.specs.Runs.{code_of, blanks, lexeme_from, run_length, run_end, sort_meant, sort_start}
use Rattle.spots.specs.Judgement.{unknown_or, at_end, judge_from, viable_bytes, code_of_run, is_unknown}
use Rattle.spots.specs.Traces.{run_at}
use Rattle.spots.proofs.SpotLaws.{word_to, grows_as, due_opens, due_closes, due_stray, due_word, due_grows}
use Rattle.spots.proofs.SpotLaws.{due_named, due_ends}
use Rattle.spots.proofs.ByteLaws.{state, cut, run_of, past_run, over_blanks, OneLexeme, an_opening, a_closing, a_digit, another, lexeme_goes}
use Rattle.spots.proofs.ByteLaws.{lexeme_stops, begins_run, run_any, run_sort, past_run_lem, run_goes, run_unknown, run_stops}
use Rattle.spots.proofs.RunLaws.{run_parts, run_past, run_ending, run_length_lem}

-- ---- words and names

-- no reserved word has the number of a name
reserved : (w : List ℕ) (rs : List Reserved) → each (λ k. not (eqb k 9)) (map (λ r. word_code r.meaning) rs) ≡ true
    → Each (λ r. same_list w r.spelled ≡ true → word_code r.meaning ≡ 9 → r.meaning ≡ name w) rs
unfolding each
reserved w [] h = tt
reserved w (r ∷ rs) h =
    let k = word_code r.meaning in
    (λ s e. absurd (eqb-false k 9 (not-true (eqb k 9) (and_left (not (eqb k 9)) _ h)) e), reserved w rs (and_right (not (eqb k 9)) _ h))

name_of_lem : (w : List ℕ) → code_of_run w ≡ 9 → word_of w ≡ name w
unfolding word_of word_code twelve each
name_of_lem w = among (λ x. word_code x ≡ 9 → x ≡ name w) w (λ e. refl) twelve (reserved w twelve refl)

no_name : (σ : List Due) (x : Word) → (word_code x ≡ 9 → ⊥) → met_at σ x ≡ []
unfolding met_at word_at word_code
no_name [] x h = refl
no_name (d ∷ σ) (constant v) h = refl
no_name (d ∷ σ) negation h = refl
no_name (d ∷ σ) (connective c) h = refl
no_name (d ∷ σ) (quantifier q) h = refl
no_name (d ∷ σ) letting h = refl
no_name (d ∷ σ) (sort s) h = refl
no_name (d ∷ σ) (name w) h = absurd (h refl)

stray_class : (k : Class) → ltb 2 (class_code k) ≡ true → (class_code k ≡ 3 → ⊥) → (class_code k ≡ 4 → ⊥) → (class_code k ≡ 6 → ⊥) → OneLexeme k stray
unfolding class_code
stray_class space e x y z = absurd (false≢true e)
stray_class lineEnd e x y z = absurd (false≢true e)
stray_class semicolon e x y z = absurd (false≢true e)
stray_class opening e x y z = absurd (x refl)
stray_class closing e x y z = absurd (y refl)
stray_class digit e x y z = a_digit
stray_class symbol e x y z = absurd (z refl)
stray_class other e x y z = another

-- the one sort that a run may become
sort_meant_lem : (c : ℕ) (w : List ℕ) → (starts (c ∷ w) (bytes "Bool") || starts (c ∷ w) (bytes "Item")) ≡ starts (c ∷ w) (sort_meant (c ∷ w))
unfolding starts sort_meant bytes
sort_meant_lem c w = go (eqb c 66) refl
  where
    off : c ≡ 66 → c ≡ 73 → ⊥
    off e f = omega arith

    go : (b : Bool) → eqb c 66 ≡ b
        → (starts (c ∷ w) (bytes "Bool") || starts (c ∷ w) (bytes "Item")) ≡ starts (c ∷ w) (cond b (bytes "Bool") (bytes "Item"))
    go true e = rw (e, ne_eqb c 73 (off (eqb-true c 66 e))) (or-false (starts w (bytes "ool")))
    go false e = rw e

module _ (known : Name → Bool) (text : List ℕ) where
  -- the verdict from byte i on
  abbrev Rest : ℕ → List Due → Fault
  Rest i σ = judge_from known i (drop i text) (state between σ)

  pub over_lexeme : (σ : List Due) (i : ℕ) → Rest i σ ≡ Rest (lexeme_from text i) σ
  unfolding lexeme_from
  over_lexeme σ i =
      over_blanks known σ i (drop i text)
      ∙ ap (λ xs. judge_from known (i + blanks false (drop i text)) xs (state between σ)) (drop-drop (blanks false (drop i text)) i text)

  one_past : (σ : List Due) (i : ℕ) → judge_from known (suc i) (drop (suc i) text) (state between σ) ≡ Rest (lexeme_from text (i + 1)) σ
  one_past σ i = rw (add-one i) (over_lexeme σ (suc i))

  module _ (i s : ℕ) (held : List ℕ) (low : s < 20) (nested : Nested s held) (inside : i < length text) where
    c : ℕ
    c = get_or text i 0

    xs : List ℕ
    xs = drop (suc i) text

    σ : List Due
    σ = due_at s held

    w : List ℕ
    w = run_at text i

    here : Rest i σ ≡ judge_from known i (c ∷ xs) (state between σ)
    unfolding c xs
    here = ap (λ ys. judge_from known i ys (state between σ)) (drop-cons text i 0 inside)

    class_is : (k : Class) → class_code (class_of (get_or text i 0)) ≡ class_code k → class_of c ≡ k
    unfolding c
    class_is k e = is_class (class_of (get_or text i 0)) (class_code k) e ∙ sym (is_class k (class_code k) refl)

    -- ---- brackets

    pub opens_goes : code_of (get_or text i 0) ≡ 3 → cell s 0 < 20 → Rest i (due_at s held) ≡ Rest (lexeme_from text (i + 1)) (due_at (cell s 0) (cell s 10 ∷ held))
    unfolding σ due_at owed class_code xs
    opens_goes e l =
        here
        ∙ lexeme_goes known σ i c xs opens (rw (class_is opening e) an_opening) (due_at (cell s 0) (cell s 10 ∷ held))
        (due_opens s held low nested ∙ rw (lt-ltb (cell s 0) 20 l))
        ∙ one_past (due_at (cell s 0) (cell s 10 ∷ held)) i

    pub opens_stops : code_of (get_or text i 0) ≡ 3 → 20 ≤ cell s 0 → Rest i (due_at s held) ≡ fault 19 i
    unfolding σ class_code
    opens_stops e l = here ∙ lexeme_stops known σ i c xs opens (rw (class_is opening e) an_opening) (due_opens s held low nested ∙ rw (le-ltb (cell s 0) 20 l))

    pub closes_goes : code_of (get_or text i 0) ≡ 4 → (cell s 1 ≡ 99 → ⊥) → (u : ℕ) (rest : List ℕ) → held ≡ u ∷ rest
        → Rest i (due_at s held) ≡ Rest (lexeme_from text (i + 1)) (due_at u rest)
    unfolding σ due_at owed class_code xs
    closes_goes e l u rest h =
        here
        ∙ lexeme_goes known σ i c xs closes (rw (class_is closing e) a_closing) (due_at u rest) (due_closes s held low nested ∙ rw (ne_eqb (cell s 1) 99 l, h))
        ∙ one_past (due_at u rest) i

    pub closes_stops : code_of (get_or text i 0) ≡ 4 → cell s 1 ≡ 99 → Rest i (due_at s held) ≡ fault 19 i
    unfolding σ class_code
    closes_stops e l =
        here ∙ lexeme_stops known σ i c xs closes (rw (class_is closing e) a_closing) (due_closes s held low nested ∙ rw (eq-eqb (cell s 1) 99 l))

    pub stray_stops : ltb 2 (code_of (get_or text i 0)) ≡ true → (code_of (get_or text i 0) ≡ 3 → ⊥) → (code_of (get_or text i 0) ≡ 4 → ⊥)
        → (code_of (get_or text i 0) ≡ 6 → ⊥)
        → Rest i (due_at s held) ≡ fault 19 i
    unfolding σ c
    stray_stops e x y z = here ∙ lexeme_stops known σ i c xs stray (stray_class (class_of (get_or text i 0)) e x y z) (due_stray s held low nested)

    -- ---- runs

    begins : code_of (get_or text i 0) ≡ 6
        → Rest i (due_at s held) ≡ cond (may_grow (c ∷ []) σ) (judge_from known (suc i) xs (state (within (c ∷ [])) σ)) (fault 19 i)
    unfolding σ class_code
    begins e = here ∙ begins_run known σ i c xs (class_is symbol e)

    parts : w ≡ c ∷ run_of xs
    unfolding w c xs
    parts = run_parts text i inside

    past : drop (run_end text (i + 1)) text ≡ past_run xs
    unfolding xs
    past = run_past text i inside

    ending : run_end text (i + 1) ≡ suc i + run_length xs
    unfolding xs
    ending = let e = run_ending text i inside in let l = run_length_lem text i inside in omega (arith, e, l)

    -- the verdict where the run is read whole
    abbrev Whole : Fault
    Whole = judge_from known (run_end text (i + 1)) (drop (run_end text (i + 1)) text) (state (within w) σ)

    whole : judge_from known (suc i + run_length xs) (past_run xs) (state (within (c ∷ run_of xs)) σ) ≡ Whole
    whole = rw (past, ending, parts)

    grows : (v : List ℕ) → may_grow v σ ≡ grows_as (cell s 11) v
    unfolding σ
    grows v = due_grows s held low nested v

    -- what a run may become: nothing, any word, a sort
    not_any : eqb (cell s 11) 0 ≡ true → (v : List ℕ) → may_grow v σ ≡ false
    not_any e v = grows v ∙ rw e

    any : eqb (cell s 11) 0 ≡ false → eqb (cell s 11) 1 ≡ true → (v : List ℕ) → may_grow v σ ≡ true
    any e f v = grows v ∙ rw (e, f)

    t : List ℕ
    t = sort_meant (c ∷ [])

    one_sort : eqb (cell s 11) 0 ≡ false → eqb (cell s 11) 1 ≡ false → (v : List ℕ) → may_grow (c ∷ v) σ ≡ starts (c ∷ v) t
    unfolding t sort_meant
    one_sort e f v = grows (c ∷ v) ∙ rw (e, f) (sort_meant_lem c v)

    -- read whole where it may grow
    reaches : code_of (get_or text i 0) ≡ 6 → may_grow w σ ≡ true → Rest i (due_at s held) ≡ Whole
    unfolding starts
    reaches e m = begins e ∙ go (eqb (cell s 11) 0) (eqb (cell s 11) 1) refl refl
      where
        so : may_grow (c ∷ run_of xs) σ ≡ true
        so = sym (ap (λ v. may_grow v σ) parts) ∙ m

        by_sort : ((v : List ℕ) → may_grow (c ∷ v) σ ≡ starts (c ∷ v) t) → (b : Bool) → starts (c ∷ []) t ≡ b
            → cond b (judge_from known (suc i) xs (state (within (c ∷ [])) σ)) (fault 19 i) ≡ Whole
        by_sort g true q =
            let k : starts (c ∷ run_of xs) t ≡ true = sym (g (run_of xs)) ∙ so in
            run_sort known σ t i c g xs [] (suc i) (omega arith) q ∙ rw k whole
        by_sort g false q = absurd (true≢false (sym so ∙ g (run_of xs) ∙ (cut [] (run_of xs) c t refl q).0))

        go : (a b : Bool) → eqb (cell s 11) 0 ≡ a → eqb (cell s 11) 1 ≡ b
            → cond (may_grow (c ∷ []) σ) (judge_from known (suc i) xs (state (within (c ∷ [])) σ)) (fault 19 i) ≡ Whole
        go true b x y = absurd (true≢false (sym m ∙ not_any x w))
        go false true x y = rw (any x y (c ∷ [])) (run_any known σ (any x y) xs (c ∷ []) (suc i) ∙ whole)
        go false false x y = rw (one_sort x y []) (by_sort (one_sort x y) (starts (c ∷ []) t) refl)

    viable_all : may_grow w σ ≡ true → viable_bytes s w ≡ length w
    unfolding viable_bytes sort_start sort_meant t
    viable_all m = go (eqb (cell s 11) 0) (eqb (cell s 11) 1) refl refl
      where
        meant : sort_meant w ≡ t
        meant = ap sort_meant parts

        go : (a b : Bool) → eqb (cell s 11) 0 ≡ a → eqb (cell s 11) 1 ≡ b → cond a 0 (cond b (length w) (common w (sort_meant w))) ≡ length w
        go true b x y = absurd (true≢false (sym m ∙ not_any x w))
        go false true x y = refl
        go false false x y =
            let q : starts w t ≡ true = ap (λ v. starts v t) parts ∙ sym (one_sort x y (run_of xs)) ∙ sym (ap (λ v. may_grow v σ) parts) ∙ m in
            eqb-true (common w (sort_meant w)) (length w) (starts_common w (sort_meant w) ∙ ap (starts w) meant ∙ q)

    halts : code_of (get_or text i 0) ≡ 6 → may_grow w σ ≡ false → Rest i (due_at s held) ≡ fault 19 (i + viable_bytes s w)
    unfolding viable_bytes sort_start sort_meant t starts
    halts e m = begins e ∙ go (eqb (cell s 11) 0) (eqb (cell s 11) 1) refl refl
      where
        meant : sort_meant w ≡ t
        meant = ap sort_meant parts

        so : may_grow (c ∷ run_of xs) σ ≡ false
        so = sym (ap (λ v. may_grow v σ) parts) ∙ m

        at_once : fault 19 i ≡ fault 19 (i + 0)
        at_once = let z : i ≡ i + 0 = omega arith in ap (fault 19) z

        by_sort : ((v : List ℕ) → may_grow (c ∷ v) σ ≡ starts (c ∷ v) t) → (b : Bool) → starts (c ∷ []) t ≡ b
            → cond b (judge_from known (suc i) xs (state (within (c ∷ [])) σ)) (fault 19 i) ≡ fault 19 (i + common w (sort_meant w))
        by_sort g true q =
            let k : starts (c ∷ run_of xs) t ≡ false = sym (g (run_of xs)) ∙ so in
            run_sort known σ t i c g xs [] (suc i) (omega arith) q ∙ rw (k, meant, parts)
        by_sort g false q =
            let z = (cut [] (run_of xs) c t refl q).1 in
            rw (meant, parts, z) at_once

        go : (a b : Bool) → eqb (cell s 11) 0 ≡ a → eqb (cell s 11) 1 ≡ b
            → cond (may_grow (c ∷ []) σ) (judge_from known (suc i) xs (state (within (c ∷ [])) σ)) (fault 19 i)
            ≡ fault 19 (i + cond a 0 (cond b (length w) (common w (sort_meant w))))
        go true b x y = rw (not_any x (c ∷ [])) at_once
        go false true x y = absurd (true≢false (sym (any x y w) ∙ m))
        go false false x y = rw (one_sort x y []) (by_sort (one_sort x y) (starts (c ∷ []) t) refl)

    -- ---- words

    first : run_end text (i + 1) - length w ≡ i
    unfolding w
    first = let e = run_ending text i inside in omega (arith, e)

    takes_word : takes σ (λ f. tt) (word (word_of w)) ≡ word_to (word_of w) s (owed held)
    unfolding σ
    takes_word = due_word s held low nested (word_of w)

    may : cell s (code_of_run w) < 20 → may_grow w σ ≡ true
    may l = go (may_grow w σ) refl
      where
        go : (b : Bool) → may_grow w σ ≡ b → b ≡ true
        go true e = refl
        go false e =
            absurd (none-ne-some (stack_of (wanted (cell s (code_of_run w)) ++ owed held))
            (sym (refuses w σ (λ f. tt) e) ∙ takes_word ∙ rw (lt-ltb (cell s (code_of_run w)) 20 l)))

    -- the name met is the word, where it is one
    unknown_here : cell s (code_of_run w) < 20
        → first_unknown known (locate (run_end text (i + 1) - length w) (met_at σ (word_of w))) ≡ cond (is_unknown known s w) (some i) none
    unfolding is_unknown first_unknown locate σ
    unknown_here l = rw first (go (eqb (code_of_run w) 9) refl)
      where
        one : (b : Bool) → cond b none (some i) ≡ cond (not b) (some i) none
        one true = refl
        one false = refl

        go : (b : Bool) → eqb (code_of_run w) 9 ≡ b
            → first_unknown known (locate i (met_at σ (word_of w))) ≡ cond (b && not (known (record { place = place_of (cell s 12); spelled = w }))) (some i) none
        go true e =
            let q : code_of_run w ≡ 9 = eqb-true (code_of_run w) 9 e in
            rw (name_of_lem w q, due_named s held low nested w, lt-ltb (cell s 9) 20 (rw q at l))
            (one (known (record { place = place_of (cell s 12); spelled = w })))
        go false e = rw (no_name σ (word_of w) (eqb-false (code_of_run w) 9 e))

    none_here : 20 ≤ cell s (code_of_run w) → first_unknown known (locate (run_end text (i + 1) - length w) (met_at σ (word_of w))) ≡ none
    unfolding first_unknown locate σ
    none_here l = go (eqb (code_of_run w) 9) refl
      where
        go : (b : Bool) → eqb (code_of_run w) 9 ≡ b → first_unknown known (locate (run_end text (i + 1) - length w) (met_at σ (word_of w))) ≡ none
        go true e =
            let q : code_of_run w ≡ 9 = eqb-true (code_of_run w) 9 e in
            rw (name_of_lem w q, due_named s held low nested w, le-ltb (cell s 9) 20 (rw q at l))
        go false e = rw (no_name σ (word_of w) (eqb-false (code_of_run w) 9 e))

    run_ends : Rattle.grammar.specs.Names.EndsRun (drop (run_end text (i + 1)) text)
    run_ends = rw past (past_run_lem xs)

    pub word_goes : code_of (get_or text i 0) ≡ 6 → cell s (code_of_run (run_at text i)) < 20 → is_unknown known s (run_at text i) ≡ false
        → Rest i (due_at s held) ≡ Rest (lexeme_from text (run_end text (i + 1))) (due_at (cell s (code_of_run (run_at text i))) held)
    unfolding w due_at
    word_goes e l u =
        reaches e (may l)
        ∙ run_goes known σ w (run_end text (i + 1)) (drop (run_end text (i + 1)) text) run_ends (unknown_here l ∙ rw u) (due_at (cell s (code_of_run w)) held)
        (takes_word ∙ rw (lt-ltb (cell s (code_of_run w)) 20 l))
        ∙ over_lexeme (due_at (cell s (code_of_run w)) held) (run_end text (i + 1))

    pub word_unknown : code_of (get_or text i 0) ≡ 6 → cell s (code_of_run (run_at text i)) < 20 → is_unknown known s (run_at text i) ≡ true
        → Rest i (due_at s held) ≡ fault 20 i
    unfolding w
    word_unknown e l u =
        reaches e (may l) ∙ run_unknown known σ w (run_end text (i + 1)) (drop (run_end text (i + 1)) text) run_ends i (unknown_here l ∙ rw u)

    pub word_stops : code_of (get_or text i 0) ≡ 6 → 20 ≤ cell s (code_of_run (run_at text i)) → Rest i (due_at s held) ≡ fault 19 (i + viable_bytes s (run_at text i))
    unfolding w
    word_stops e l = go (may_grow w σ) refl
      where
        go : (b : Bool) → may_grow w σ ≡ b → Rest i (due_at s held) ≡ fault 19 (i + viable_bytes s (run_at text i))
        go true m =
            let n = viable_all m in
            let z : run_end text (i + 1) ≡ i + viable_bytes s w = run_ending text i inside ∙ ap (λ k. i + k) (sym n) in
            reaches e m
            ∙ run_stops known σ w (run_end text (i + 1)) (drop (run_end text (i + 1)) text) run_ends (none_here l)
            (takes_word ∙ rw (le-ltb (cell s (code_of_run w)) 20 l))
            ∙ ap (fault 19) z
        go false m = halts e m

  -- ---- the text's end

  pub judged_end : (i s : ℕ) (held : List ℕ) → s < 20 → Nested s held → length text ≤ i → Rest i (due_at s held) ≡ cond (eqb s 0) (fault 0 0) (fault 19 i)
  unfolding judge_from ends_at first_unknown unknown_or finish run last feed and_then at_end
  judged_end i s held l n e = rw (lib.ListN.drop_of_length-le text e, due_ends s held l n) (go (eqb s 0))
    where
      go : (b : Bool) → at_end i (cond b (some tt) none) ≡ cond b (fault 0 0) (fault 19 i)
      go true = refl
      go false = refl
