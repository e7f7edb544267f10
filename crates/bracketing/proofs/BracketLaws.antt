-- Brackets of a spelling, counted.
--     skip_whole      what follows a formula
--     skip_in         within open brackets a formula is skipped
--     skip_variable_list, skip_binding_list    what follows the list of a quantifier and of a let
--     parts_on        one part, and then the rest
--     parts_formula   a formula is a part
--     parts_binding   a binding is a part
use Prim.Native.Nat.{ℕ, zero, suc}
use mathlib.Core.Path.{◌≡◌, refl, ap, ◌∙◌}
use mathlib.Core.Bool.{false, true≢false}
use mathlib.Core.List.{List, [], ◌∷◌}
use Rattle.grammar.specs.Bytes.{name}
use Rattle.grammar.specs.Grammar.{SortedVariable, declares, Formula, called, truth, bracketed, Bracketed, denies, connects, applies, quantifies, lets}
use Rattle.grammar.specs.Grammar.{Formulas, no_formula, and_formula, Bindings, no_binding, and_binding, Lexeme, opens, closes, word, stray, spell}
use Rattle.grammar.specs.Grammar.{spell_variable, spell_variables, spell_bracketed, spell_formulas, spell_bindings}
use Rattle.bracketing.specs.Brackets.{is_closing, skip, after_formula, parts, parts_from}

-- ---- what is skipped

skip_variable : (x : SortedVariable) (n : ℕ) (rest : List Lexeme) → skip (suc n) (spell_variable x rest) ≡ skip (suc n) rest
unfolding skip spell_variable
skip_variable (declares x s) n rest = refl

-- up to the closing bracket of the list
skip_variables : (xs : List SortedVariable) (n : ℕ) (rest : List Lexeme) → skip (suc (suc n)) (spell_variables xs rest) ≡ skip (suc n) rest
unfolding skip spell_variables
skip_variables [] n rest = refl
skip_variables (x ∷ xs) n rest = skip_variable x (suc n) (spell_variables xs rest) ∙ skip_variables xs n rest

mutual
  unfolding skip spell

  pub skip_in : (φ : Formula) (n : ℕ) (rest : List Lexeme) → skip (suc n) (spell φ rest) ≡ skip (suc n) rest
  skip_in (called w) n rest = refl
  skip_in (truth v) n rest = refl
  skip_in (bracketed φ) n rest = skip_inside φ (suc n) rest

  skip_inside : (φ : Bracketed) (n : ℕ) (rest : List Lexeme) → skip (suc n) (spell_bracketed φ rest) ≡ skip (suc n) (closes ∷ rest)
  skip_inside (denies φ) n rest = skip_in φ n (closes ∷ rest)
  skip_inside (connects c φ ψ) n rest = skip_in φ n (spell ψ (closes ∷ rest)) ∙ skip_in ψ n (closes ∷ rest)
  skip_inside (applies f φ φs) n rest = skip_in φ n (spell_formulas φs rest) ∙ skip_formulas φs n rest
  skip_inside (quantifies q x xs φ) n rest =
      skip_variable x (suc n) (spell_variables xs (spell φ (closes ∷ rest))) ∙ (skip_variables xs n (spell φ (closes ∷ rest)) ∙ skip_in φ n (closes ∷ rest))
  skip_inside (lets x φ xs ψ) n rest =
      skip_in φ (suc (suc n)) (closes ∷ spell_bindings xs (spell ψ (closes ∷ rest)))
      ∙ (skip_bindings xs n (spell ψ (closes ∷ rest)) ∙ skip_in ψ n (closes ∷ rest))

  skip_formulas : (φs : Formulas) (n : ℕ) (rest : List Lexeme) → skip (suc n) (spell_formulas φs rest) ≡ skip (suc n) (closes ∷ rest)
  skip_formulas no_formula n rest = refl
  skip_formulas (and_formula φ φs) n rest = skip_in φ n (spell_formulas φs rest) ∙ skip_formulas φs n rest

  skip_bindings : (xs : Bindings) (n : ℕ) (rest : List Lexeme) → skip (suc (suc n)) (spell_bindings xs rest) ≡ skip (suc n) rest
  skip_bindings no_binding n rest = refl
  skip_bindings (and_binding x φ xs) n rest = skip_in φ (suc (suc n)) (closes ∷ spell_bindings xs rest) ∙ skip_bindings xs n rest

pub skip_whole : (φ : Formula) (rest : List Lexeme) → after_formula (spell φ rest) ≡ rest
unfolding skip spell
skip_whole (called w) rest = refl
skip_whole (truth v) rest = refl
skip_whole (bracketed φ) rest = skip_inside φ 0 rest

-- the lists of a quantifier and of a let
pub skip_variable_list : (xs : List SortedVariable) (rest : List Lexeme) → after_formula (opens ∷ spell_variables xs rest) ≡ rest
unfolding skip spell_variables
skip_variable_list [] rest = refl
skip_variable_list (x ∷ xs) rest = skip_variable x 0 (spell_variables xs rest) ∙ skip_variable_list xs rest

pub skip_binding_list : (xs : Bindings) (rest : List Lexeme) → after_formula (opens ∷ spell_bindings xs rest) ≡ rest
unfolding skip spell
skip_binding_list no_binding rest = refl
skip_binding_list (and_binding x φ xs) rest = skip_in φ 1 (closes ∷ spell_bindings xs rest) ∙ skip_binding_list xs rest

-- ---- parts

module _ {A : Type 0} (f : List Lexeme → A) where
  parts_skip : (n : ℕ) (ls : List Lexeme) → parts f (suc n) ls ≡ parts_from f (skip (suc n) ls)
  unfolding parts skip
  parts_skip n [] = refl
  parts_skip n (opens ∷ ls) = parts_skip (suc n) ls
  parts_skip zero (closes ∷ ls) = refl
  parts_skip (suc n) (closes ∷ ls) = parts_skip n ls
  parts_skip n (word w ∷ ls) = parts_skip n ls
  parts_skip n (stray ∷ ls) = parts_skip n ls

  pub parts_on : (l : Lexeme) (ls : List Lexeme) → is_closing l ≡ false → parts_from f (l ∷ ls) ≡ f (l ∷ ls) ∷ parts_from f (after_formula (l ∷ ls))
  unfolding parts skip is_closing
  parts_on opens ls e = ap (λ (xs : List A). f (opens ∷ ls) ∷ xs) (parts_skip 0 ls)
  parts_on closes ls e = absurd (true≢false e)
  parts_on (word w) ls e = refl
  parts_on stray ls e = refl

  pub parts_formula : (φ : Formula) (rest : List Lexeme) → parts_from f (spell φ rest) ≡ f (spell φ rest) ∷ parts_from f rest
  unfolding spell is_closing parts
  parts_formula (called w) rest = refl
  parts_formula (truth v) rest = refl
  parts_formula (bracketed φ) rest =
      parts_on opens (spell_bracketed φ rest) refl
      ∙ ap (λ (ls : List Lexeme). f (opens ∷ spell_bracketed φ rest) ∷ parts_from f ls) (skip_whole (bracketed φ) rest)

  pub parts_binding : (x : List ℕ) (φ : Formula) (rest : List Lexeme)
      → parts_from f (opens ∷ word (name x) ∷ spell φ (closes ∷ rest)) ≡ f (opens ∷ word (name x) ∷ spell φ (closes ∷ rest)) ∷ parts_from f rest
  unfolding is_closing skip
  parts_binding x φ rest =
      parts_on opens (word (name x) ∷ spell φ (closes ∷ rest)) refl
      ∙ ap (λ (ls : List Lexeme). f (opens ∷ word (name x) ∷ spell φ (closes ∷ rest)) ∷ parts_from f ls) (skip_in φ 0 (closes ∷ rest))
