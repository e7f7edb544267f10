-- The parts of a bracket, as loops go over them.
--     part_none, part_some     no part more; one part, and then the rest
--     part_further             a part takes room
use Prim.Native.Nat.{ℕ, ◌<◌}
use mathlib.Core.Path.{◌≡◌, refl, sym, ap, ◌∙◌}
use mathlib.Core.Bool.{Bool, true, false, not, true≢false, false≢true}
use mathlib.Core.List.{List, [], ◌∷◌}
use lib.ListN.{length}
use Rattle.grammar.specs.Grammar.{Lexeme, opens, closes, word, stray}
use Rattle.lexing.specs.Lexes.{lexemes_of, Leaves}
use Rattle.bracketing.specs.Brackets.{is_closing, after_formula, starts_part, parts, parts_from}
use Rattle.bracketing.proofs.BracketLaws.{parts_on}

module _ {A : Type 0} (f : List Lexeme → A) where
  pub part_none : (ls : List Lexeme) → starts_part ls ≡ false → parts_from f ls ≡ []
  unfolding parts starts_part
  part_none [] e = refl
  part_none (opens ∷ ls) e = absurd (true≢false e)
  part_none (closes ∷ ls) e = refl
  part_none (word w ∷ ls) e = absurd (true≢false e)
  part_none (stray ∷ ls) e = absurd (true≢false e)

  pub part_some : (ls : List Lexeme) → starts_part ls ≡ true → parts_from f ls ≡ f ls ∷ parts_from f (after_formula ls)
  unfolding starts_part
  part_some [] e = absurd (false≢true e)
  part_some (l ∷ ls) e = parts_on f l ls (flip (is_closing l) e)
    where
      flip : (p : Bool) → not p ≡ true → p ≡ false
      flip true e = sym e
      flip false e = refl

-- a part takes room
pub part_further : {text rest : List ℕ} {ls : List Lexeme} → Leaves text ls rest → starts_part (lexemes_of text) ≡ true → length rest < length text
unfolding starts_part
part_further there e = there.moves (λ z. false≢true (ap starts_part (sym z) ∙ e))
