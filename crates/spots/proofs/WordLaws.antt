-- Laws of a word at a spot, as `words::viable_bytes` and `words::word` return; the number of a word, by what the word is.
use Prim.Native.Nat.{ℕ, ◌+◌, ◌-◌, ◌≤◌, ◌<◌}
use native.Mathlib.Omega.{arith}
use mathlib.Core.Path.{◌≡◌, refl, sym, ap, ◌∙◌}
use mathlib.Core.Bool.{Bool, true, false}
use mathlib.Core.List.{List}
use lib.ListN.{length}
use borrow.Author.Tests.{lt-ltb, le-ltb, eq-eqb, ne_eqb}
use Rattle.std.specs.Prelude.{Ok, Err}
use Rattle.lexing.specs.Codes.{word_code}
use Rattle.lexing.specs.Words.{word_in}
use Rattle.lexing.specs.declared.words.SortWord.{SortWord}
use Rattle.lexing.specs.declared.words.Word.{Word}
use Rattle.lexing.specs.Counted.{place_of, known_among}
use Rattle.spots.specs.Spots.{cell}
use Rattle.spots.specs.Runs.{sort_start}
use Rattle.spots.specs.Judgement.{declared_by, unread_text, unknown_name, code_of_run, is_unknown, viable_bytes, word_met}
use Rattle.spots.proofs.RunLaws.{sort_within}

-- ---- the number of a word, by what the word is

pub sort_code : {w : Word} {s : SortWord} → w ≡ Word.Sort s → word_code (word_in w) ≡ 8
unfolding word_code
sort_code e = ap (λ w. word_code (word_in w)) e

pub name_code : {w : Word} {u : _} → w ≡ Word.Name u → word_code (word_in w) ≡ 9
unfolding word_code
name_code e = ap (λ w. word_code (word_in w)) e

pub no_sort_code : (w : Word) → ((s : SortWord) → w ≡ Word.Sort s → ⊥) → word_code (word_in w) ≡ 8 → ⊥
unfolding word_code
no_sort_code (Word.Constant v) ne e = absurd (omega arith)
no_sort_code Word.Negation ne e = absurd (omega arith)
no_sort_code (Word.Connective c) ne e = absurd (omega arith)
no_sort_code (Word.Quantifier q) ne e = absurd (omega arith)
no_sort_code Word.Let ne e = absurd (omega arith)
no_sort_code (Word.Sort s) ne e = ne s refl
no_sort_code (Word.Name u) ne e = absurd (omega arith)

pub no_name_code : (w : Word) → ((u : _) → w ≡ Word.Name u → ⊥) → word_code (word_in w) ≡ 9 → ⊥
unfolding word_code
no_name_code (Word.Constant v) ne e = absurd (omega arith)
no_name_code Word.Negation ne e = absurd (omega arith)
no_name_code (Word.Connective c) ne e = absurd (omega arith)
no_name_code (Word.Quantifier q) ne e = absurd (omega arith)
no_name_code Word.Let ne e = absurd (omega arith)
no_name_code (Word.Sort s) ne e = absurd (omega arith)
no_name_code (Word.Name u) ne e = ne u refl

-- ---- a word at a spot

module _ (w : List ℕ) (s g : ℕ) (is : g ≡ cell s 11) where
  pub viable_none : g ≡ 0 → (0 ≡ viable_bytes s w) × (0 ≤ length w)
  unfolding viable_bytes
  viable_none e = let q : cell s 11 ≡ 0 = sym is ∙ e in (rw (eq-eqb (cell s 11) 0 q), omega arith)

  pub viable_any : (g ≡ 0 → ⊥) → g ≡ 1 → (length w ≡ viable_bytes s w) × (length w ≤ length w)
  unfolding viable_bytes
  viable_any z e =
      let q : cell s 11 ≡ 1 = sym is ∙ e in
      (rw (ne_eqb (cell s 11) 0 (λ x. z (is ∙ x)), eq-eqb (cell s 11) 1 q), omega arith)

  pub viable_sort : (g ≡ 0 → ⊥) → (g ≡ 1 → ⊥) → (r : ℕ) → r ≡ sort_start w → (r ≡ viable_bytes s w) × (r ≤ length w)
  unfolding viable_bytes
  viable_sort z o r e =
      (rw (ne_eqb (cell s 11) 0 (λ x. z (is ∙ x)), ne_eqb (cell s 11) 1 (λ x. o (is ∙ x))) e, omega (arith, sort_within w, e))

module _ (symbols variables s i : ℕ) (w : List ℕ) (code : ℕ) (is : code ≡ code_of_run w) (next : ℕ) (goes : next ≡ cell s code) where
  there : next ≡ cell s (code_of_run w)
  there = goes ∙ ap (cell s) is

  pub met_word : next < 20 → (code ≡ 9 → ⊥) → Ok next ≡ word_met (declared_by symbols variables) s i w
  unfolding word_met is_unknown
  met_word l n =
      rw (lt-ltb (cell s (code_of_run w)) 20 (omega (arith, there)), ne_eqb (code_of_run w) 9 (λ e. n (is ∙ e))) (ap (λ (k : ℕ). Ok k) there)

  module _ (kind : ℕ) (due : kind ≡ cell s 12) (known : Bool) (test : known ≡ known_among symbols variables (place_of kind) w) where
    so : known_among symbols variables (place_of (cell s 12)) w ≡ known
    so = ap (λ k. known_among symbols variables (place_of k) w) (sym due) ∙ sym test

    pub met_name : next < 20 → code ≡ 9 → known ≡ true → Ok next ≡ word_met (declared_by symbols variables) s i w
    unfolding word_met is_unknown declared_by
    met_name l n k =
        rw (lt-ltb (cell s (code_of_run w)) 20 (omega (arith, there)), eq-eqb (code_of_run w) 9 (sym is ∙ n), so, k) (ap (λ (k : ℕ). Ok k) there)

    pub met_unknown : next < 20 → code ≡ 9 → known ≡ false → Err (unknown_name i) ≡ word_met (declared_by symbols variables) s i w
    unfolding word_met is_unknown declared_by
    met_unknown l n k = rw (lt-ltb (cell s (code_of_run w)) 20 (omega (arith, there)), eq-eqb (code_of_run w) 9 (sym is ∙ n), so, k)

  pub met_refused : 20 ≤ next → (v : ℕ) → v ≡ viable_bytes s w → Err (unread_text (i + v)) ≡ word_met (declared_by symbols variables) s i w
  unfolding word_met
  met_refused l v e = rw (le-ltb (cell s (code_of_run w)) 20 (omega (arith, there))) (ap (λ (k : ℕ). Err (unread_text (i + k))) e)
