-- Laws of blanks and runs by their lengths.
--     blanks_within, lexeme_within, run_within     no more bytes than there are
--     lexeme_first                                 what follows blanks is none
--     run_parts, run_past, run_ending              a run, what follows it and where it ends
--     Skipping, Running                            the loops of `runs`
use Prim.Native.Nat.{ℕ, suc, ◌+◌, ◌-◌, ◌≤◌, ◌<◌}
use native.Mathlib.Omega.{arith}
use native.Mathlib.Numerals.{add-one}
use native.Mathlib.Decide.{ℕ_discrete}
use mathlib.Core.Path.{◌≡◌, refl, sym, ap, ◌∙◌}
use mathlib.Core.Bool.{Bool, true, false, cond, not, ◌&&◌, ◌||◌}
use mathlib.Core.List.{List, [], ◌∷◌}
use lib.ListN.{length, get_or, drop, length-drop, drop_of_length-le}
use lib.Seq.{drop-cons, drop-drop, length-take-le, get_or-drop}
use lib.Dec.{eqb, ltb}
use borrow.Author.Tests.{eq-eqb, ne_eqb, le-ltb, ltb-true, ltb-false}
use Rattle.std.proofs.lemmas.Bool.{or_parts}
use Rattle.grammar.specs.Bytes.{bytes}
use Rattle.lexing.specs.Common.{common}
use Rattle.spots.specs.Runs.{code_of, blanks, lexeme_from, run_length, run_end, sort_meant, sort_start}
use Rattle.spots.specs.Traces.{run_at}
use Rattle.spots.proofs.ByteLaws.{run_of, past_run}

pub blanks_within : (m : Bool) (cs : List ℕ) → blanks m cs ≤ length cs
unfolding blanks
blanks_within m [] = omega arith
blanks_within true (c ∷ cs) = let h = blanks_within (not (eqb (code_of c) 1)) cs in omega (arith, h)
blanks_within false (c ∷ cs) = go (ltb 2 (code_of c)) (blanks_within (eqb (code_of c) 2) cs)
  where
    go : (b : Bool) → blanks (eqb (code_of c) 2) cs ≤ length cs → cond b 0 (suc (blanks (eqb (code_of c) 2) cs)) ≤ suc (length cs)
    go true h = omega arith
    go false h = omega arith

pub run_within : (cs : List ℕ) → run_length cs ≤ length cs
unfolding run_length
run_within [] = omega arith
run_within (c ∷ cs) = go (eqb (code_of c) 5 || eqb (code_of c) 6) (run_within cs)
  where
    go : (b : Bool) → run_length cs ≤ length cs → cond b (suc (run_length cs)) 0 ≤ suc (length cs)
    go true h = omega arith
    go false h = omega arith

pub lexeme_within : (text : List ℕ) (i : ℕ) → i ≤ length text → (i ≤ lexeme_from text i) × (lexeme_from text i ≤ length text)
unfolding lexeme_from
lexeme_within text i l = let h = blanks_within false (drop i text) in let d = length-drop i text in (omega arith, omega (arith, h, d))

pub end_within : (text : List ℕ) (i : ℕ) → i ≤ length text → (i ≤ run_end text i) × (run_end text i ≤ length text)
unfolding run_end
end_within text i l = let h = run_within (drop i text) in let d = length-drop i text in (omega arith, omega (arith, h, d))

-- the end of a run that is not empty
pub run_fits : (text : List ℕ) (i e : ℕ) → i < length text → e ≡ run_end text (i + 1) → (i ≤ e) × (e ≤ length text)
run_fits text i e l q = let w = end_within text (i + 1) (omega arith) in (omega (arith, w.0, q), omega (arith, w.1, q))

-- a byte that comes after blanks is none
first_past : (m : Bool) (cs : List ℕ) → blanks m cs < length cs → ltb 2 (code_of (get_or cs (blanks m cs) 0)) ≡ true
unfolding blanks
first_past m [] l = absurd (none l)
  where
    none : blanks m [] < 0 → ⊥
    none l = omega arith
first_past true (c ∷ cs) l = first_past (not (eqb (code_of c) 1)) cs (omega arith)
first_past false (c ∷ cs) l = go (ltb 2 (code_of c)) refl l (first_past (eqb (code_of c) 2) cs)
  where
    go : (b : Bool) → ltb 2 (code_of c) ≡ b → cond b 0 (suc (blanks (eqb (code_of c) 2) cs)) < suc (length cs)
        → (blanks (eqb (code_of c) 2) cs < length cs → ltb 2 (code_of (get_or cs (blanks (eqb (code_of c) 2) cs) 0)) ≡ true)
        → ltb 2 (code_of (get_or (c ∷ cs) (cond b 0 (suc (blanks (eqb (code_of c) 2) cs))) 0)) ≡ true
    go true e l h = e
    go false e l h = h (omega arith)

pub lexeme_first : (text : List ℕ) (i : ℕ) → i ≤ length text → lexeme_from text i < length text → ltb 2 (code_of (get_or text (lexeme_from text i) 0)) ≡ true
unfolding lexeme_from
lexeme_first text i k l =
    let d = length-drop i text in
    rw (← (get_or-drop i text (blanks false (drop i text)) 0)) (first_past false (drop i text) (omega (arith, d, l)))

-- ---- a run from byte i on

module _ (text : List ℕ) (i : ℕ) (l : i < length text) where
  pub run_parts : run_at text i ≡ get_or text i 0 ∷ run_of (drop (suc i) text)
  unfolding run_end
  run_parts =
      let n : i + 1 + run_length (drop (i + 1) text) - i ≡ suc (run_length (drop (suc i) text)) = rw (add-one i) (omega arith) in
      rw (n, drop-cons text i 0 l)

  pub run_past : drop (run_end text (i + 1)) text ≡ past_run (drop (suc i) text)
  unfolding run_end
  run_past = rw (add-one i) (sym (drop-drop (run_length (drop (suc i) text)) (suc i) text))

  pub run_length_lem : length (run_at text i) ≡ suc (run_length (drop (suc i) text))
  run_length_lem = ap length run_parts ∙ ap suc (length-take-le (run_length (drop (suc i) text)) (drop (suc i) text) (run_within (drop (suc i) text)))

  pub run_ending : run_end text (i + 1) ≡ i + length (run_at text i)
  unfolding run_end
  run_ending =
      let n = run_length_lem in
      let e : i + 1 + run_length (drop (i + 1) text) ≡ i + suc (run_length (drop (suc i) text)) = rw (add-one i) (omega arith) in
      e ∙ ap (λ k. i + k) (sym n)

-- ---- the loop of `runs::lexeme_from`

-- so far there are blanks alone
pub record Skipping (text : List ℕ) (from j : ℕ) (m : Bool) : Type 0 where
  pub inside : j ≤ length text
  pub rest : lexeme_from text from ≡ j + blanks m (drop j text)

pub skipping_start : (text : List ℕ) (from : ℕ) → from ≤ length text → Skipping text from from false
unfolding lexeme_from
skipping_start text from l = record { inside = l; rest = refl }

module _ (text : List ℕ) (from j : ℕ) (m : Bool) (h : Skipping text from j m) where
  pub skipping_end : length text ≤ j → j ≡ lexeme_from text from
  unfolding blanks
  skipping_end l = let z : blanks m (drop j text) ≡ 0 = rw (drop_of_length-le text l) in omega (arith, h.rest, z)

  module _ (l : j < length text) (k : ℕ) (e : k ≡ code_of (get_or text j 0)) where
    pub skipping_found : (m || ltb k 3) ≡ false → j ≡ lexeme_from text from
    unfolding blanks
    skipping_found q =
        let z : blanks m (drop j text) ≡ 0 = rw (drop-cons text j 0 l, (or_parts m (ltb k 3) q).0) (stops (ltb 2 (code_of (get_or text j 0))) refl) in omega
        (arith, h.rest, z)
      where
        stops : (b : Bool) → ltb 2 (code_of (get_or text j 0)) ≡ b → cond b 0 (suc (blanks (eqb (code_of (get_or text j 0)) 2) (drop (suc j) text))) ≡ 0
        stops true x = refl
        stops false x = absurd (off (ltb-false k 3 (or_parts m (ltb k 3) q).1) (ltb-false 2 (code_of (get_or text j 0)) x))
          where
            off : 3 ≤ k → code_of (get_or text j 0) ≤ 2 → ⊥
            off x y = omega (arith, e)

    goes_on_lem : (m : Bool) → (m || ltb k 3) ≡ true → blanks m (drop j text) ≡ suc (blanks ((m && not (eqb k 1)) || eqb k 2) (drop (suc j) text))
    unfolding blanks
    goes_on_lem true q = rw (drop-cons text j 0 l, ← e) (ap (λ b. suc (blanks b (drop (suc j) text))) (in_comment (ℕ_discrete k 1)))
      where
        in_comment : Dec (k ≡ 1) → not (eqb k 1) ≡ (not (eqb k 1) || eqb k 2)
        in_comment (yes x) = rw x
        in_comment (no x) = rw (ne_eqb k 1 x)
    goes_on_lem false q = rw (drop-cons text j 0 l, ← e, le-ltb 2 k (omega (arith, ltb-true k 3 q)))

    pub skipping_on : (m || ltb k 3) ≡ true → Skipping text from (j + 1) ((m && not (eqb k 1)) || eqb k 2)
    skipping_on q = let g = goes_on_lem m q in rw (add-one j) (record { inside = l; rest = omega (arith, h.rest, g) })

-- ---- the loop of `runs::run_end`

pub record Running (text : List ℕ) (from j : ℕ) : Type 0 where
  pub inside : j ≤ length text
  pub rest : run_end text from ≡ j + run_length (drop j text)

pub running_start : (text : List ℕ) (from : ℕ) → from ≤ length text → Running text from from
unfolding run_end
running_start text from l = record { inside = l; rest = refl }

module _ (text : List ℕ) (from j : ℕ) (h : Running text from j) where
  pub running_end : length text ≤ j → j ≡ run_end text from
  unfolding run_length
  running_end l = let z : run_length (drop j text) ≡ 0 = rw (drop_of_length-le text l) in omega (arith, h.rest, z)

  module _ (l : j < length text) (k : ℕ) (e : k ≡ code_of (get_or text j 0)) where
    pub running_found : (eqb k 5 || eqb k 6) ≡ false → j ≡ run_end text from
    unfolding run_length
    running_found q = let z : run_length (drop j text) ≡ 0 = rw (drop-cons text j 0 l, ← e, q) in omega (arith, h.rest, z)

    pub running_on : (eqb k 5 || eqb k 6) ≡ true → Running text from (j + 1)
    unfolding run_length
    running_on q =
        let z : run_length (drop j text) ≡ suc (run_length (drop (suc j) text)) = rw (drop-cons text j 0 l, ← e, q) in
        rw (add-one j) (record { inside = l; rest = omega (arith, h.rest, z) })

-- ---- how much of a run may start a sort

pub common_within : (u v : List ℕ) → common u v ≤ length u
unfolding common
common_within [] v = omega arith
common_within (x ∷ u) [] = omega arith
common_within (x ∷ u) (y ∷ v) = go (eqb x y) (common_within u v)
  where
    go : (b : Bool) → common u v ≤ length u → cond b (suc (common u v)) 0 ≤ suc (length u)
    go true h = omega arith
    go false h = omega arith

pub sort_none : (w : List ℕ) → length w ≡ 0 → 0 ≡ sort_start w
unfolding sort_start common
sort_none [] e = refl
sort_none (c ∷ w) e = absurd (omega (arith, e))

pub sort_bool : (w : List ℕ) (r : ℕ) → (length w ≡ 0 → ⊥) → get_or w 0 0 ≡ 66 → r ≡ common w (66 ∷ 111 ∷ 111 ∷ 108 ∷ []) → r ≡ sort_start w
unfolding sort_start sort_meant bytes
sort_bool [] r z e q = absurd (z refl)
sort_bool (c ∷ w) r z e q = q ∙ ap (λ b. common (c ∷ w) (cond b (bytes "Bool") (bytes "Item"))) (sym (eq-eqb c 66 e))

pub sort_item : (w : List ℕ) (r : ℕ) → (length w ≡ 0 → ⊥) → (get_or w 0 0 ≡ 66 → ⊥) → r ≡ common w (73 ∷ 116 ∷ 101 ∷ 109 ∷ []) → r ≡ sort_start w
unfolding sort_start sort_meant bytes
sort_item [] r z e q = absurd (z refl)
sort_item (c ∷ w) r z e q = q ∙ ap (λ b. common (c ∷ w) (cond b (bytes "Bool") (bytes "Item"))) (sym (ne_eqb c 66 e))

pub sort_within : (w : List ℕ) → sort_start w ≤ length w
unfolding sort_start
sort_within w = common_within w (sort_meant w)
