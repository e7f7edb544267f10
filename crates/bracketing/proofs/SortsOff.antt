-- The sort of a formula, read off its spelling.
--     sort_past_lem   a let's sort is that of what follows its list
--     sort_off    THE LAW: the sort at the front of a spelling is the formula's, by its head
use Prim.Native.Nat.{ℕ, zero, suc}
use mathlib.Core.Path.{◌≡◌, refl, sym, ap, ◌∙◌}
use mathlib.Core.List.{List, [], ◌∷◌}
use Rattle.bundle.specs.Bundle.{Bundle}
use Rattle.logic.specs.Symbols.{signature_of}
use Rattle.grammar.specs.Grammar.{Formula, called, truth, bracketed, Bracketed, denies, connects, applies, quantifies, lets, and_binding}
use Rattle.grammar.specs.Grammar.{Lexeme, opens, closes, spell, spell_bracketed, spell_bindings}
use Rattle.reading.specs.Called.{number_after, variable_called, symbol_called}
use Rattle.reading.specs.Local.{alone_sort, head_sort, inside_sort}
use Rattle.reading.proofs.TypingExactly.{join_result}
use Rattle.bracketing.specs.Brackets.{open_after, if_none, skip}
use Rattle.bracketing.specs.Nodes.{word_sort, result_of, sort_from, sort_inside, sort_past}
use Rattle.bracketing.proofs.BracketLaws.{skip_binding_list}

module _ (b : Bundle) where
  past_on : (n : ℕ) (l : Lexeme) (ls : List Lexeme) → sort_past b (open_after l n) ls ≡ sort_from b (skip (open_after l n) ls)
      → sort_past b n (l ∷ ls) ≡ sort_from b (skip n (l ∷ ls))
  unfolding sort_past skip
  past_on n l ls e = go (open_after l n) e
    where
      go : (m : ℕ) → sort_past b m ls ≡ sort_from b (skip m ls) → if_none m (sort_from b ls) (sort_past b m ls) ≡ sort_from b (if_none m ls (skip m ls))
      go zero e = refl
      go (suc m) e = e

  pub sort_past_lem : (n : ℕ) (ls : List Lexeme) → sort_past b n ls ≡ sort_from b (skip n ls)
  unfolding sort_from skip
  sort_past_lem n [] = refl
  sort_past_lem n (l ∷ ls) = past_on n l ls (sort_past_lem (open_after l n) ls)

  mutual
    unfolding sort_from head_sort spell word_sort result_of number_after variable_called symbol_called alone_sort signature_of

    pub sort_off : (φ : Formula) (rest : List Lexeme) → sort_from b (spell φ rest) ≡ head_sort b φ
    sort_off (called w) rest = refl
    sort_off (truth v) rest = refl
    sort_off (bracketed φ) rest = sort_inside_lem φ rest

    sort_inside_lem : (φ : Bracketed) (rest : List Lexeme) → sort_inside b (spell_bracketed φ rest) ≡ inside_sort b φ
    sort_inside_lem (denies φ) rest = refl
    sort_inside_lem (connects c φ ψ) rest = sym (join_result b c (head_sort b φ))
    sort_inside_lem (applies f φ φs) rest = refl
    sort_inside_lem (quantifies q x xs φ) rest = refl
    sort_inside_lem (lets x φ xs ψ) rest =
        sort_past_lem 0 (opens ∷ spell_bindings (and_binding x φ xs) (spell ψ (closes ∷ rest)))
        ∙ (ap (sort_from b) (skip_binding_list (and_binding x φ xs) (spell ψ (closes ∷ rest))) ∙ sort_off ψ (closes ∷ rest))
