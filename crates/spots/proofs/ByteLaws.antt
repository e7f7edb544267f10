-- Laws of the verdict byte by byte.
--     over_blanks            white space and comments change nothing
--     at-bracket             a bracket or a stray byte
--     begins_run, run_any, run_sort, ends_run     a run of symbol characters
use Prim.Native.Nat.{ℕ, suc, ◌+◌, ◌-◌}
use native.Mathlib.Omega.{arith}
use mathlib.Core.Path.{◌≡◌, refl, sym, ap, ◌∙◌}
use mathlib.Core.Bool.{Bool, true, false, cond, not, ◌&&◌, ◌||◌, true≢false, false≢true}
use mathlib.Core.List.{List, [], ◌∷◌, ◌++◌, append_assoc, append-nil}
use mathlib.Core.Option.{none, some}
use lib.ListN.{length, take, drop, length-append}
use lib.Dec.{eqb, ltb}
use Rattle.logic.specs.Tests.{Fault, fault}
use Rattle.grammar.specs.Bytes.{Class, space, lineEnd, semicolon, opening, closing, digit, symbol, other, class_of, word_of}
use Rattle.grammar.specs.Grammar.{Lexeme, opens, closes, word, stray, Mode, between, comment, within, bracket, ends, outside, onwards, last}
use Rattle.grammar.specs.Parser.{Due, stack_of, State, takes, and_then, feed, run, starts, may_grow, viable, enter, step, finish}
use Rattle.grammar.specs.Names.{Name, Located, locate, met_at, ends_at, ended_by, in_run, EndsRun, first_unknown}
use Rattle.lexing.specs.Codes.{class_code}
use Rattle.lexing.specs.Common.{common}
use Rattle.spots.specs.Runs.{code_of, blanks, run_length}
use Rattle.spots.specs.Judgement.{unknown_or, go_on, at_end, judge_from}

abbrev pub state : Mode → List Due → State (Unit {0})
state m σ = record { mode = m; stack = stack_of σ }

-- a run that leaves a word at c
pub cut : (u v : List ℕ) (c : ℕ) (t : List ℕ) → starts u t ≡ true → starts (u ++ (c ∷ [])) t ≡ false
    → (starts (u ++ (c ∷ v)) t ≡ false) × (common (u ++ (c ∷ v)) t ≡ length u)
unfolding starts common
cut [] v c [] p q = (refl, refl)
cut [] v c (y ∷ t) p q = go (eqb c y) q
  where
    go : (b : Bool) → (b && true) ≡ false → ((b && starts v t) ≡ false) × (cond b (suc (common v t)) 0 ≡ 0)
    go true q = absurd (true≢false q)
    go false q = (refl, refl)
cut (x ∷ u) v c [] p q = absurd (false≢true p)
cut (x ∷ u) v c (y ∷ t) p q = go (eqb x y) p q (cut u v c t)
  where
    go : (b : Bool) → (b && starts u t) ≡ true → (b && starts (u ++ (c ∷ [])) t) ≡ false
        → (starts u t ≡ true → starts (u ++ (c ∷ [])) t ≡ false → (starts (u ++ (c ∷ v)) t ≡ false) × (common (u ++ (c ∷ v)) t ≡ length u))
        → ((b && starts (u ++ (c ∷ v)) t) ≡ false) × (cond b (suc (common (u ++ (c ∷ v)) t)) 0 ≡ suc (length u))
    go true p q h = ((h p q).0, ap suc (h p q).1)
    go false p q h = absurd (false≢true p)

-- the run xs starts with, and what follows it
abbrev pub run_of : List ℕ → List ℕ
run_of xs = take (run_length xs) xs

abbrev pub past_run : List ℕ → List ℕ
past_run xs = drop (run_length xs) xs

-- a byte that is a lexeme
pub data OneLexeme : Class → Lexeme → Type 0 where
  an_opening : OneLexeme opening opens
  a_closing : OneLexeme closing closes
  a_digit : OneLexeme digit stray
  another : OneLexeme other stray

module _ (known : Name → Bool) (σ : List Due) where
  -- one byte by its class
  abbrev ByClass : Mode → ℕ → ℕ → Class → (State (Unit {0}) → Fault) → Fault
  ByClass m n c k f = unknown_or (first_unknown known (ended_by k n m σ)) (go_on n (and_then (feed (ends m k) (stack_of σ)) (enter (onwards m c k))) f)

  by_class : (m : Mode) (n c : ℕ) (cs : List ℕ) → judge_from known n (c ∷ cs) (state m σ) ≡ ByClass m n c (class_of c) (judge_from known (suc n) cs)
  unfolding judge_from step
  by_class m n c cs = refl

  -- ---- white space and comments

  abbrev inside : Bool → Mode
  inside true = comment
  inside false = between

  in_comment : (n c : ℕ) (k : Class) (f : State (Unit {0}) → Fault) → ByClass comment n c k f ≡ f (state (inside (not (eqb (class_code k) 1))) σ)
  unfolding unknown_or first_unknown ended_by ends_at go_on and_then feed ends enter onwards viable class_code
  in_comment n c space f = refl
  in_comment n c lineEnd f = refl
  in_comment n c semicolon f = refl
  in_comment n c opening f = refl
  in_comment n c closing f = refl
  in_comment n c digit f = refl
  in_comment n c symbol f = refl
  in_comment n c other f = refl

  blank : (n c : ℕ) (k : Class) (f : State (Unit {0}) → Fault) → ltb 2 (class_code k) ≡ false
      → ByClass between n c k f ≡ f (state (inside (eqb (class_code k) 2)) σ)
  unfolding unknown_or first_unknown ended_by ends_at go_on and_then feed ends enter onwards viable class_code bracket outside
  blank n c space f e = refl
  blank n c lineEnd f e = refl
  blank n c semicolon f e = refl
  blank n c opening f e = absurd (true≢false e)
  blank n c closing f e = absurd (true≢false e)
  blank n c digit f e = absurd (true≢false e)
  blank n c symbol f e = absurd (true≢false e)
  blank n c other f e = absurd (true≢false e)

  abbrev Over : Bool → List ℕ → Type 0
  Over m cs = (n : ℕ) → judge_from known n cs (state (inside m) σ) ≡ judge_from known (n + blanks m cs) (drop (blanks m cs) cs) (state between σ)

  one_on : (n b : ℕ) (cs : List ℕ) (c : ℕ) → judge_from known (suc n + b) (drop b cs) (state between σ)
      ≡ judge_from known (n + suc b) (drop (suc b) (c ∷ cs)) (state between σ)
  one_on n b cs c = let e : suc n + b ≡ n + suc b = omega arith in ap (λ i. judge_from known i (drop b cs) (state between σ)) e

  none_on : (n : ℕ) (cs : List ℕ) → judge_from known n cs (state between σ) ≡ judge_from known (n + 0) cs (state between σ)
  none_on n cs = let e : n ≡ n + 0 = omega arith in ap (λ i. judge_from known i cs (state between σ)) e

  over : (cs : List ℕ) (m : Bool) → Over m cs
  unfolding blanks judge_from ends_at finish run last
  over [] true n = none_on n []
  over [] false n = none_on n []
  over (c ∷ cs) true n =
      by_class comment n c cs ∙ in_comment n c (class_of c) (judge_from known (suc n) cs)
      ∙ over cs (not (eqb (code_of c) 1)) (suc n) ∙ one_on n (blanks (not (eqb (code_of c) 1)) cs) cs c
  over (c ∷ cs) false n = go (ltb 2 (code_of c)) refl (over cs (eqb (code_of c) 2) (suc n))
    where
      go : (b : Bool) → ltb 2 (code_of c) ≡ b
          → judge_from known (suc n) cs (state (inside (eqb (code_of c) 2)) σ)
          ≡ judge_from known (suc n + blanks (eqb (code_of c) 2) cs) (drop (blanks (eqb (code_of c) 2) cs) cs) (state between σ)
          → judge_from known n (c ∷ cs) (state between σ)
          ≡ judge_from known (n + cond b 0 (suc (blanks (eqb (code_of c) 2) cs))) (drop (cond b 0 (suc (blanks (eqb (code_of c) 2) cs))) (c ∷ cs))
          (state between σ)
      go true e h = none_on n (c ∷ cs)
      go false e h =
          by_class between n c cs ∙ blank n c (class_of c) (judge_from known (suc n) cs) e ∙ h ∙ one_on n (blanks (eqb (code_of c) 2) cs) cs c

  pub over_blanks : (n : ℕ) (cs : List ℕ) → judge_from known n cs (state between σ)
      ≡ judge_from known (n + blanks false cs) (drop (blanks false cs) cs) (state between σ)
  over_blanks n cs = over cs false n

  -- ---- brackets and stray bytes

  one_lexeme : (n c : ℕ) (k : Class) (l : Lexeme) → OneLexeme k l → (f : State (Unit {0}) → Fault)
      → ByClass between n c k f ≡ go_on n (and_then (and_then (takes σ (λ f. tt) l) (feed [])) (enter between)) f
  unfolding unknown_or first_unknown ended_by ends_at feed ends onwards bracket outside
  one_lexeme n c k l an_opening f = refl
  one_lexeme n c k l a_closing f = refl
  one_lexeme n c k l a_digit f = refl
  one_lexeme n c k l another f = refl

  pub lexeme_goes : (n c : ℕ) (cs : List ℕ) (l : Lexeme) → OneLexeme (class_of c) l → (τ : List Due) → takes σ (λ f. tt) l ≡ some (stack_of τ)
      → judge_from known n (c ∷ cs) (state between σ) ≡ judge_from known (suc n) cs (state between τ)
  unfolding go_on and_then feed enter viable
  lexeme_goes n c cs l o τ e = by_class between n c cs ∙ one_lexeme n c (class_of c) l o (judge_from known (suc n) cs) ∙ rw e

  pub lexeme_stops : (n c : ℕ) (cs : List ℕ) (l : Lexeme) → OneLexeme (class_of c) l → takes {A = Unit {0}} σ (λ f. tt) l ≡ none
      → judge_from known n (c ∷ cs) (state between σ) ≡ fault 19 n
  unfolding go_on and_then
  lexeme_stops n c cs l o e = by_class between n c cs ∙ one_lexeme n c (class_of c) l o (judge_from known (suc n) cs) ∙ rw e

  -- ---- runs

  starts_run : (n c : ℕ) (f : State (Unit {0}) → Fault) → ByClass between n c symbol f
      ≡ cond (may_grow (c ∷ []) σ) (f (state (within (c ∷ [])) σ)) (fault 19 n)
  unfolding unknown_or first_unknown ended_by ends_at go_on and_then feed ends enter onwards viable bracket outside
  starts_run n c f = go (may_grow (c ∷ []) σ)
    where
      go : (b : Bool) → go_on n (cond b (some (state (within (c ∷ [])) σ)) none) f ≡ cond b (f (state (within (c ∷ [])) σ)) (fault 19 n)
      go true = refl
      go false = refl

  pub begins_run : (n c : ℕ) (cs : List ℕ) → class_of c ≡ symbol
      → judge_from known n (c ∷ cs) (state between σ) ≡ cond (may_grow (c ∷ []) σ) (judge_from known (suc n) cs (state (within (c ∷ [])) σ)) (fault 19 n)
  begins_run n c cs e = by_class between n c cs ∙ ap (λ k. ByClass between n c k (judge_from known (suc n) cs)) e ∙ starts_run n c (judge_from known (suc n) cs)

  grown : (n c : ℕ) (w : List ℕ) (k : Class) (f : State (Unit {0}) → Fault) → (eqb (class_code k) 5 || eqb (class_code k) 6) ≡ true
      → ByClass (within w) n c k f ≡ cond (may_grow (w ++ (c ∷ [])) σ) (f (state (within (w ++ (c ∷ []))) σ)) (fault 19 n)
  unfolding unknown_or first_unknown ended_by ends_at go_on and_then feed ends enter onwards viable class_code
  grown n c w k f e = by k e
    where
      go : (b : Bool) → go_on n (cond b (some (state (within (w ++ (c ∷ []))) σ)) none) f ≡ cond b (f (state (within (w ++ (c ∷ []))) σ)) (fault 19 n)
      go true = refl
      go false = refl

      by : (k : Class) → (eqb (class_code k) 5 || eqb (class_code k) 6) ≡ true
          → ByClass (within w) n c k f ≡ cond (may_grow (w ++ (c ∷ [])) σ) (f (state (within (w ++ (c ∷ []))) σ)) (fault 19 n)
      by space e = absurd (false≢true e)
      by lineEnd e = absurd (false≢true e)
      by semicolon e = absurd (false≢true e)
      by opening e = absurd (false≢true e)
      by closing e = absurd (false≢true e)
      by digit e = go (may_grow (w ++ (c ∷ [])) σ)
      by symbol e = go (may_grow (w ++ (c ∷ [])) σ)
      by other e = absurd (false≢true e)

  grows_run : (n c : ℕ) (cs w : List ℕ) → (eqb (code_of c) 5 || eqb (code_of c) 6) ≡ true
      → judge_from known n (c ∷ cs) (state (within w) σ) ≡ cond (may_grow (w ++ (c ∷ [])) σ) (judge_from known (suc n) cs (state (within (w ++ (c ∷ []))) σ))
      (fault 19 n)
  grows_run n c cs w e = by_class (within w) n c cs ∙ grown n c w (class_of c) (judge_from known (suc n) cs) e

  within_same : (n m : ℕ) (cs u v : List ℕ) → n ≡ m → u ≡ v → judge_from known n cs (state (within u) σ) ≡ judge_from known m cs (state (within v) σ)
  within_same n m cs u v e f = rw (e, f)

  -- where any run may become a word that is due
  pub run_any : ((w : List ℕ) → may_grow w σ ≡ true) → (xs u : List ℕ) (n : ℕ)
      → judge_from known n xs (state (within u) σ) ≡ judge_from known (n + run_length xs) (past_run xs) (state (within (u ++ run_of xs)) σ)
  unfolding run_length
  run_any g [] u n = within_same n (n + 0) [] u (u ++ []) (omega arith) (sym (append-nil u))
  run_any g (c ∷ xs) u n = go (eqb (code_of c) 5 || eqb (code_of c) 6) refl (run_any g xs (u ++ (c ∷ [])) (suc n))
    where
      go : (b : Bool) → (eqb (code_of c) 5 || eqb (code_of c) 6) ≡ b
          → judge_from known (suc n) xs (state (within (u ++ (c ∷ []))) σ)
          ≡ judge_from known (suc n + run_length xs) (past_run xs) (state (within ((u ++ (c ∷ [])) ++ run_of xs)) σ)
          → judge_from known n (c ∷ xs) (state (within u) σ)
          ≡ judge_from known (n + cond b (suc (run_length xs)) 0) (drop (cond b (suc (run_length xs)) 0) (c ∷ xs))
          (state (within (u ++ take (cond b (suc (run_length xs)) 0) (c ∷ xs))) σ)
      go true e h =
          grows_run n c xs u e ∙ rw (g (u ++ (c ∷ [])))
          (h ∙ within_same (suc n + run_length xs) (n + suc (run_length xs)) (past_run xs) ((u ++ (c ∷ [])) ++ run_of xs) (u ++ (c ∷ run_of xs)) (omega arith)
          (append_assoc u (c ∷ []) (run_of xs)))
      go false e h = within_same n (n + 0) (c ∷ xs) u (u ++ []) (omega arith) (sym (append-nil u))

  -- where only one word may be meant
  module _ (t : List ℕ) where
    -- a run from byte i on, of which w is read when byte m comes
    abbrev SortRun : ℕ → List ℕ → ℕ → List ℕ → Fault
    SortRun i w m ys = cond (starts w t) (judge_from known m ys (state (within w) σ)) (fault 19 (i + common w t))

    sort_same : (i : ℕ) (u v : List ℕ) (m n : ℕ) (ys : List ℕ) → u ≡ v → m ≡ n → SortRun i u m ys ≡ SortRun i v n ys
    sort_same i u v m n ys e f = rw (e, f)

    sort_so_far : (i : ℕ) (u : List ℕ) (n : ℕ) (ys : List ℕ) → starts u t ≡ true → judge_from known n ys (state (within u) σ) ≡ SortRun i (u ++ []) (n + 0) ys
    sort_so_far i u n ys s = rw (append-nil u, s) (within_same n (n + 0) ys u u (omega arith) refl)

    module _ (i c₀ : ℕ) (g : (w : List ℕ) → may_grow (c₀ ∷ w) σ ≡ starts (c₀ ∷ w) t) where
      abbrev Sorted : List ℕ → List ℕ → ℕ → Type 0
      Sorted xs u n = judge_from known n xs (state (within (c₀ ∷ u)) σ) ≡ SortRun i (c₀ ∷ (u ++ run_of xs)) (n + run_length xs) (past_run xs)

      sort_grow : (c : ℕ) (xs u : List ℕ) (n : ℕ) → (eqb (code_of c) 5 || eqb (code_of c) 6) ≡ true → n ≡ i + suc (length u) → starts (c₀ ∷ u) t ≡ true
          → (b : Bool) → starts (c₀ ∷ (u ++ (c ∷ []))) t ≡ b → (b ≡ true → Sorted xs (u ++ (c ∷ [])) (suc n))
          → judge_from known n (c ∷ xs) (state (within (c₀ ∷ u)) σ) ≡ SortRun i (c₀ ∷ (u ++ (c ∷ run_of xs))) (n + suc (run_length xs)) (past_run xs)
      sort_grow c xs u n e p s true q h =
          grows_run n c xs (c₀ ∷ u) e ∙ rw (g (u ++ (c ∷ [])), q)
          (h refl
          ∙ sort_same i (c₀ ∷ ((u ++ (c ∷ [])) ++ run_of xs)) (c₀ ∷ (u ++ (c ∷ run_of xs))) (suc n + run_length xs) (n + suc (run_length xs)) (past_run xs)
          (ap (c₀ ∷◌) (append_assoc u (c ∷ []) (run_of xs))) (omega arith))
      sort_grow c xs u n e p s false q h =
          let k = cut (c₀ ∷ u) (run_of xs) c t s q in
          let z : n ≡ i + common (c₀ ∷ (u ++ (c ∷ run_of xs))) t = omega (arith, k.1, p) in
          grows_run n c xs (c₀ ∷ u) e ∙ rw (g (u ++ (c ∷ [])), q, k.0) (ap (fault 19) z)

      pub run_sort : (xs u : List ℕ) (n : ℕ) → n ≡ i + suc (length u) → starts (c₀ ∷ u) t ≡ true → Sorted xs u n
      unfolding run_length
      run_sort [] u n p s = sort_so_far i (c₀ ∷ u) n [] s
      run_sort (c ∷ xs) u n p s =
          go (eqb (code_of c) 5 || eqb (code_of c) 6) refl
          (run_sort xs (u ++ (c ∷ [])) (suc n) (let l = length-append u (c ∷ []) in omega (arith, l, p)))
        where
          go : (b : Bool) → (eqb (code_of c) 5 || eqb (code_of c) 6) ≡ b → (starts (c₀ ∷ (u ++ (c ∷ []))) t ≡ true → Sorted xs (u ++ (c ∷ [])) (suc n))
              → judge_from known n (c ∷ xs) (state (within (c₀ ∷ u)) σ)
              ≡ SortRun i (c₀ ∷ (u ++ take (cond b (suc (run_length xs)) 0) (c ∷ xs))) (n + cond b (suc (run_length xs)) 0)
              (drop (cond b (suc (run_length xs)) 0) (c ∷ xs))
          go true e h = sort_grow c xs u n e p s (starts (c₀ ∷ (u ++ (c ∷ []))) t) refl h
          go false e h = sort_so_far i (c₀ ∷ u) n (c ∷ xs) s

  -- ---- the run's end

  ends_run_by : (w : List ℕ) (n c : ℕ) (k : Class) (f : State (Unit {0}) → Fault) → in_run k ≡ false
      → ByClass (within w) n c k f
      ≡ unknown_or (first_unknown known (locate (n - length w) (met_at σ (word_of w))))
      (go_on n (and_then (and_then (takes σ (λ f. tt) (word (word_of w))) (feed (bracket k))) (enter (outside c k))) f)
  unfolding ended_by ends_at ends onwards feed in_run
  ends_run_by w n c space f e = refl
  ends_run_by w n c lineEnd f e = refl
  ends_run_by w n c semicolon f e = refl
  ends_run_by w n c opening f e = refl
  ends_run_by w n c closing f e = refl
  ends_run_by w n c digit f e = absurd (true≢false e)
  ends_run_by w n c symbol f e = absurd (true≢false e)
  ends_run_by w n c other f e = refl

  -- the name that a run is, as it is met
  abbrev name_met : ℕ → List ℕ → List Located
  name_met n w = locate (n - length w) (met_at σ (word_of w))

  between_by : (n c : ℕ) (k : Class) (τ : List Due) (f : State (Unit {0}) → Fault)
      → unknown_or (first_unknown known (ended_by k n between τ)) (go_on n (and_then (feed (ends between k) (stack_of τ)) (enter (onwards between c k))) f)
      ≡ go_on n (and_then (feed (bracket k) (stack_of τ)) (enter (outside c k))) f
  unfolding ended_by ends_at ends onwards first_unknown unknown_or
  between_by n c space τ f = refl
  between_by n c lineEnd τ f = refl
  between_by n c semicolon τ f = refl
  between_by n c opening τ f = refl
  between_by n c closing τ f = refl
  between_by n c digit τ f = refl
  between_by n c symbol τ f = refl
  between_by n c other τ f = refl

  pub run_goes : (w : List ℕ) (n : ℕ) (cs : List ℕ) → EndsRun cs → first_unknown known (name_met n w) ≡ none → (τ : List Due)
      → takes σ (λ f. tt) (word (word_of w)) ≡ some (stack_of τ) → judge_from known n cs (state (within w) σ) ≡ judge_from known n cs (state between τ)
  unfolding judge_from ends_at finish run last feed unknown_or and_then first_unknown step
  run_goes w n [] r u τ e = rw (u, e)
  run_goes w n (c ∷ cs) r u τ e =
      ends_run_by w n c (class_of c) (judge_from known (suc n) cs) r ∙ rw (u, e) (sym (between_by n c (class_of c) τ (judge_from known (suc n) cs)))

  pub run_unknown : (w : List ℕ) (n : ℕ) (cs : List ℕ) → EndsRun cs → (m : ℕ) → first_unknown known (name_met n w) ≡ some m
      → judge_from known n cs (state (within w) σ) ≡ fault 20 m
  unfolding judge_from ends_at unknown_or step
  run_unknown w n [] r m u = rw u
  run_unknown w n (c ∷ cs) r m u = ends_run_by w n c (class_of c) (judge_from known (suc n) cs) r ∙ rw u

  pub run_stops : (w : List ℕ) (n : ℕ) (cs : List ℕ) → EndsRun cs → first_unknown known (name_met n w) ≡ none
      → takes {A = Unit {0}} σ (λ f. tt) (word (word_of w)) ≡ none → judge_from known n cs (state (within w) σ) ≡ fault 19 n
  unfolding judge_from ends_at finish run last feed unknown_or and_then go_on at_end step
  run_stops w n [] r u e = rw (u, e)
  run_stops w n (c ∷ cs) r u e = ends_run_by w n c (class_of c) (judge_from known (suc n) cs) r ∙ rw (u, e)

pub past_run_lem : (xs : List ℕ) → EndsRun (past_run xs)
unfolding run_length in_run class_code
past_run_lem [] = tt
past_run_lem (c ∷ xs) = by (class_of c) refl (past_run_lem xs)
  where
    by : (k : Class) → class_of c ≡ k → EndsRun (past_run xs) → EndsRun (drop (cond (eqb (class_code k) 5 || eqb (class_code k) 6) (suc (run_length xs)) 0) (c ∷ xs))
    by space e h = rw e
    by lineEnd e h = rw e
    by semicolon e h = rw e
    by opening e h = rw e
    by closing e h = rw e
    by digit e h = h
    by symbol e h = h
    by other e h = rw e
