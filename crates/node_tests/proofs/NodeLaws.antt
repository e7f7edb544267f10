-- Brackets by their heads, every node, and the whole text.
--     inside_over, inside_head, inside_none    the answers of `nodes::bracket_fine`
--     AllFine, fine_over, fine_fails, fine_on   all nodes, as `nodes::all_fine` goes over them
--     judges_not, judges                       the answers of `nodes::text_fine`
use Prim.Native.Nat.{ℕ}
use mathlib.Core.Path.{◌≡◌, refl, sym, ap, ◌∙◌}
use mathlib.Core.Logic.{◌⊎◌, inl, inr}
use mathlib.Core.Bool.{Bool, true, false, ◌&&◌, and-false}
use mathlib.Core.List.{List, [], ◌∷◌}
use borrow.Author.Tests.{ne_eqb}
use Rattle.bundle.specs.Bundle.{Bundle}
use Rattle.grammar.specs.Grammar.{Formula, spell, spelling, lexemes, Reads}
use Rattle.lexing.specs.Lexes.{lexemes_of, Found}
use Rattle.lexing.specs.Words.{word_in, lexeme_in}
use Rattle.lexing.specs.declared.lexemes.Lexed.{Lexed}
use Rattle.lexing.specs.declared.lexemes.Lexeme.{Lexeme}
use Rattle.lexing.specs.declared.words.Word.{Word}
use Rattle.reading.specs.Local.{head_sort, fine}
use Rattle.bracketing.specs.Brackets.{is_opening}
use Rattle.bracketing.specs.Nodes.{sort_from, head_fine, inside_fine, node_fine, fine_from}
use Rattle.bracketing.proofs.NodesOff.{bracket_by_bracket}
use Rattle.node_tests.specs.Tests.{Judges}

-- ---- brackets

module _ (b : Bundle) (text : List ℕ) where
  pub inside_over : lexemes_of text ≡ [] → true ≡ inside_fine b (lexemes_of text)
  unfolding inside_fine
  inside_over e = sym (ap (inside_fine b) e)

  module _ {h : Lexed} (f : Found text h) where
    front : {x : Lexeme} → h.lexeme ≡ x → inside_fine b (lexeme_in x ∷ lexemes_of h.rest.now) ≡ inside_fine b (lexemes_of text)
    front e = sym (ap (inside_fine b) (f.next ∙ ap (λ x. lexeme_in x ∷ lexemes_of h.rest.now) e))

    pub inside_head : {w : Word} → h.lexeme ≡ Lexeme.Word w → {r : Bool} → r ≡ head_fine b (word_in w) (lexemes_of h.rest.now)
        → r ≡ inside_fine b (lexemes_of text)
    unfolding inside_fine
    inside_head e q = q ∙ front e

    pub inside_none : (h.lexeme ≡ Lexeme.Opens) ⊎ ((h.lexeme ≡ Lexeme.Closes) ⊎ (h.lexeme ≡ Lexeme.Stray)) → true ≡ inside_fine b (lexemes_of text)
    unfolding inside_fine
    inside_none is = elim is [ inl e ↦ front e | inr other ↦ elim other [ inl e ↦ front e | inr e ↦ front e ] ]

-- ---- every node

pub opening : (x : Lexeme) → (x ≡ Lexeme.Opens → ⊥) → is_opening (lexeme_in x) ≡ false
unfolding is_opening
opening Lexeme.Opens ne = absurd (ne refl)
opening Lexeme.Closes ne = refl
opening Lexeme.Stray ne = refl
opening (Lexeme.Word w) ne = refl

-- all nodes of the text pass where those that are left do
pub record AllFine (b : Bundle) (text : List ℕ) (head : Bool) (rest : List ℕ) : Type 0 where
  pub same : fine_from b false (lexemes_of text) ≡ fine_from b head (lexemes_of rest)

module _ {b : Bundle} {text : List ℕ} {head : Bool} {rest : List ℕ} (w : AllFine b text head rest) where
  pub fine_over : lexemes_of rest ≡ [] → true ≡ fine_from b false (lexemes_of text)
  unfolding fine_from
  fine_over e = sym (w.same ∙ ap (fine_from b head) e)

  module _ {l : Lexed} (f : Found rest l) where
    turn : fine_from b false (lexemes_of text)
        ≡ (node_fine b head (lexeme_in l.lexeme ∷ lexemes_of l.rest.now) && fine_from b (is_opening (lexeme_in l.lexeme)) (lexemes_of l.rest.now))
    unfolding fine_from
    turn = w.same ∙ ap (fine_from b head) f.next

    pub fine_fails : node_fine b head (lexeme_in l.lexeme ∷ lexemes_of l.rest.now) ≡ false → false ≡ fine_from b false (lexemes_of text)
    fine_fails e = sym (turn ∙ rw e)

    pub fine_on : node_fine b head (lexeme_in l.lexeme ∷ lexemes_of l.rest.now) ≡ true → {p : Bool} → p ≡ is_opening (lexeme_in l.lexeme)
        → AllFine b text p l.rest.now
    fine_on e is = record { same = turn ∙ rw (e, is) }

-- ---- the whole text

module _ (b : Bundle) (text : List ℕ) where
  read_off : (φ : Formula) → Reads text φ → lexemes_of text ≡ spell φ []
  unfolding lexemes spelling
  read_off φ e = e

  pub judges_not : (s : ℕ) → s ≡ sort_from b (lexemes_of text) → (s ≡ 0 → ⊥) → Judges b text false
  judges_not s e nz φ is known =
      let sort : s ≡ head_sort b φ = e ∙ (ap (sort_from b) (read_off φ is) ∙ (bracket_by_bracket b φ [] known).sort) in
      sym (rw (← sort, ne_eqb s 0 nz) (and-false (fine b φ)))

  pub judges : (s : ℕ) → s ≡ sort_from b (lexemes_of text) → s ≡ 0 → (r : Bool) → r ≡ fine_from b false (lexemes_of text) → Judges b text r
  unfolding fine_from
  judges s e z r f φ is known =
      let sort : head_sort b φ ≡ 0 = sym (bracket_by_bracket b φ [] known).sort ∙ (ap (sort_from b) (sym (read_off φ is)) ∙ (sym e ∙ z)) in
      f ∙ (ap (fine_from b false) (read_off φ is) ∙ ((bracket_by_bracket b φ [] known).nodes ∙ rw sort))
