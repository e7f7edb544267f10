-- Laws of runs of symbol characters.
--     goes-high, .., goes_low         which bytes go on a run, by ranges, as `words::goes_on_lem` tests them
--     stops_past, stops_byte, ..      where a run ends
--     run_stands                      a run that stands in a text, and ends there
--     part_cons                       a part of a text, by its first byte
--     Matching                        a part of a text that is a word, as `words::word_stands` compares them
use Prim.Native.Nat.{ℕ, suc, ◌+◌, ◌-◌, ◌≤◌, ◌<◌}
use native.Mathlib.Omega.{arith}
use mathlib.Core.Path.{◌≡◌, refl, sym, ap, ◌∙◌}
use mathlib.Core.Bool.{Bool, true, false, cond, not, ◌&&◌, ◌||◌, false≢true}
use mathlib.Core.Logic.{◌⊎◌, inl, inr}
use mathlib.Core.List.{List, [], ◌∷◌, ◌++◌, append-nil, append_assoc}
use lib.ListN.{length, get_or, drop, take-append-drop}
use lib.Seq.{drop-cons, drop-drop}
use lib.Dec.{eqb, ltb}
use borrow.Author.Tests.{eqb-true, eqb-false, lt-ltb, le-ltb, ltb-true, ltb-false, not-true}
use Rattle.std.proofs.lemmas.Bool.{or_cases, or_parts}
use Rattle.bundle.specs.Lists.{each}
use Rattle.logic.specs.Tests.{up_to}
use Rattle.logic.proofs.Tests.{up_to_lem, and_left, and_right}
use Rattle.grammar.specs.Bytes.{Class, symbol, class_of, word_of}
use Rattle.grammar.specs.Grammar.{word, between, within, bracket, ends, outside, onwards, last, lexemes_from}
use Rattle.lexing.specs.Codes.{class_code}
use Rattle.lexing.specs.Lexes.{part, lexemes_at}
use Rattle.lexing.proofs.ClassLaws.{class_small, is_class}
use Rattle.lexing.proofs.SkipLaws.{step, past, grows, stops}
use Rattle.pass_tokens.specs.Tokens.{goes_on, RunStops}

-- ---- which bytes go on a run

abbrev ranges : ℕ → Bool
ranges x =
    cond (ltb 96 x) (ltb x 123 || eqb x 126)
    (cond (ltb 59 x) ((ltb x 91 || eqb x 94) || eqb x 95)
    (cond (ltb 47 x) (ltb x 58)
    (cond (ltb 41 x) (not (eqb x 44)) (eqb x 33 || (ltb 35 x && ltb x 39)))))

abbrev same : Bool → Bool → Bool
same p q = cond p q (not q)

same_true : (p q : Bool) → same p q ≡ true → p ≡ q
same_true true q e = sym e
same_true false q e = sym (not-true q e)

range_table : up_to 256 (λ b. same (ranges (b - 1)) (goes_on (b - 1))) ≡ true
unfolding up_to class_code class_of
range_table = refl

module _ (x : ℕ) (l : x < 256) where
  in_ranges : ranges x ≡ goes_on x
  in_ranges =
      let h = up_to_lem 256 (λ b. same (ranges (b - 1)) (goes_on (b - 1))) range_table (suc x) (omega arith) (omega arith) in
      let q : suc x - 1 ≡ x = omega arith in
      same_true (ranges x) (goes_on x) (rw q at h)

  pub goes_letter : 96 < x → (ltb x 123 || eqb x 126) ≡ goes_on x
  goes_letter a = rw (lt-ltb 96 x a) at in_ranges

  pub goes_capital : x ≤ 96 → 59 < x → ((ltb x 91 || eqb x 94) || eqb x 95) ≡ goes_on x
  goes_capital a b = rw (le-ltb 96 x a, lt-ltb 59 x b) at in_ranges

  pub goes_digit : x ≤ 96 → x ≤ 59 → 47 < x → ltb x 58 ≡ goes_on x
  goes_digit a b c = rw (le-ltb 96 x a, le-ltb 59 x b, lt-ltb 47 x c) at in_ranges

  pub goes_sign : x ≤ 96 → x ≤ 59 → x ≤ 47 → 41 < x → not (eqb x 44) ≡ goes_on x
  goes_sign a b c d = rw (le-ltb 96 x a, le-ltb 59 x b, le-ltb 47 x c, lt-ltb 41 x d) at in_ranges

  pub goes_low : x ≤ 96 → x ≤ 59 → x ≤ 47 → x ≤ 41 → (eqb x 33 || (ltb 35 x && ltb x 39)) ≡ goes_on x
  goes_low a b c d = rw (le-ltb 96 x a, le-ltb 59 x b, le-ltb 47 x c, le-ltb 41 x d) at in_ranges

-- ---- where a run ends

ends_run : (n : ℕ) → n < 8 → (eqb n 5 || eqb n 6) ≡ false → (n < 5) ⊎ (n ≡ 7)
ends_run n l e = go (ltb n 5) refl
  where
    go : (b : Bool) → ltb n 5 ≡ b → (n < 5) ⊎ (n ≡ 7)
    go true t = inl (ltb-true n 5 t)
    go false t =
        let a = eqb-false n 5 (or_parts (eqb n 5) (eqb n 6) e).0 in
        let b = eqb-false n 6 (or_parts (eqb n 5) (eqb n 6) e).1 in
        inr (omega (arith, ltb-false n 5 t))

module _ (text : List ℕ) (j : ℕ) where
  pub stops_past : length text ≤ j → RunStops text j
  unfolding last
  stops_past l w h = past text j l (within w) ∙ ap (λ xs. word (word_of w) ∷ xs) (sym (past text j l between))

  module _ (l : j < length text) where
    pub stops_byte : goes_on (get_or text j 0) ≡ false → RunStops text j
    stops_byte e w h =
        let k = class_of (get_or text j 0) in
        step text j l (within w) ∙ stops w (get_or text j 0) k (drop (suc j) text) (ends_run (class_code k) (class_small k) e)
        ∙ ap (λ xs. word (word_of w) ∷ xs) (sym (step text j l between))

    pub stops_closing : get_or text j 0 ≡ 41 → RunStops text j
    unfolding class_code class_of
    stops_closing e = stops_byte (rw e)

    pub stops_space : get_or text j 0 ≡ 32 → RunStops text j
    unfolding class_code class_of
    stops_space e = stops_byte (rw e)

-- ---- a run that stands in a text

run_list : (w v cs : List ℕ) → each goes_on v ≡ true → lexemes_from (within w) (v ++ cs) ≡ lexemes_from (within (w ++ v)) cs
unfolding lexemes_from each
run_list w [] cs h = rw append-nil
run_list w (c ∷ v) cs h =
    let k = class_of c in
    let f = or_cases (eqb (class_code k) 5) (eqb (class_code k) 6) (and_left (goes_on c) (each goes_on v) h) in
    grows w c k (v ++ cs) (low k f) (high k f) ∙ run_list (w ++ (c ∷ [])) v cs (and_right (goes_on c) (each goes_on v) h)
    ∙ ap (λ u. lexemes_from (within u) cs) (append_assoc w (c ∷ []) v)
  where
    low : (k : Class) → (eqb (class_code k) 5 ≡ true) ⊎ (eqb (class_code k) 6 ≡ true) → 5 ≤ class_code k
    low k (inl e) = omega (arith, eqb-true (class_code k) 5 e)
    low k (inr e) = omega (arith, eqb-true (class_code k) 6 e)

    high : (k : Class) → (eqb (class_code k) 5 ≡ true) ⊎ (eqb (class_code k) 6 ≡ true) → class_code k ≡ 7 → ⊥
    high k (inl e) f = omega (arith, eqb-true (class_code k) 5 e)
    high k (inr e) f = omega (arith, eqb-true (class_code k) 6 e)

-- a symbol character that is no digit, and bytes that go on
abbrev pub is_run : List ℕ → Bool
is_run [] = false
is_run (c ∷ cs) = eqb (class_code (class_of c)) 6 && each goes_on cs

run_whole : (w cs : List ℕ) → is_run w ≡ true → lexemes_from between (w ++ cs) ≡ lexemes_from (within w) cs
unfolding lexemes_from ends onwards bracket outside
run_whole [] cs h = absurd (false≢true h)
run_whole (c ∷ w) cs h =
    first (class_of c) (is_class (class_of c) 6 (eqb-true (class_code (class_of c)) 6 (and_left (eqb (class_code (class_of c)) 6) (each goes_on w) h)))
    ∙ run_list (c ∷ []) w cs (and_right (eqb (class_code (class_of c)) 6) (each goes_on w) h)
  where
    first : (k : Class) → k ≡ symbol → ends between k ++ lexemes_from (onwards between c k) (w ++ cs) ≡ lexemes_from (within (c ∷ [])) (w ++ cs)
    first k e = rw e

part_rest : (text : List ℕ) (s e : ℕ) → s ≤ e → drop s text ≡ part text s e ++ drop e text
part_rest text s e l =
    let q : s + (e - s) ≡ e = omega arith in
    sym (take-append-drop (e - s) (drop s text)) ∙ ap (λ xs. part text s e ++ xs) (drop-drop (e - s) s text ∙ ap (λ n. drop n text) q)

pub run_stands : (text : List ℕ) (s e : ℕ) (w : List ℕ) → s ≤ e → e ≤ length text → part text s e ≡ w → is_run w ≡ true → RunStops text e
    → lexemes_at text s ≡ word (word_of w) ∷ lexemes_at text e
run_stands text s e w l i p r h =
    ap (λ xs. lexemes_from between xs) (part_rest text s e l ∙ ap (λ xs. xs ++ drop e text) p) ∙ run_whole w (drop e text) r ∙ h w i

-- ---- parts of a text

pub part_cons : (text : List ℕ) (s e : ℕ) → s < e → s < length text → part text s e ≡ get_or text s 0 ∷ part text (suc s) e
part_cons text s e l i =
    let q : e - s ≡ suc (e - suc s) = omega arith in
    rw (q, drop-cons text s 0 i)

-- the first k bytes of a word stand at s
pub record Matching (text : List ℕ) (s : ℕ) (w : List ℕ) (k : ℕ) : Type 0 where
  pub fits : s + length w ≤ length text
  pub inside : k ≤ length w
  pub same : (m : ℕ) → m < k → get_or text (s + m) 0 ≡ get_or w m 0
