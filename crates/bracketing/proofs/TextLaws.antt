-- What is left of a text: what follows a formula.
--     starts_not, starts_next                                whether a part starts here
--     Skipping, skip_start, skip_over, skip_here, skip_next  a formula skipped, as `brackets::after_formula` goes over it
use Prim.Native.Nat.{ℕ, zero, suc, ◌+◌, ◌-◌, ◌≤◌, ◌<◌}
use native.Mathlib.Omega.{arith}
use mathlib.Core.Path.{◌≡◌, refl, sym, ap, ◌∙◌}
use mathlib.Core.Bool.{true, false}
use mathlib.Core.List.{List, [], ◌∷◌}
use lib.ListN.{length}
use Rattle.grammar.specs.Grammar.{Lexeme, opens, closes, word, stray}
use Rattle.lexing.specs.Lexes.{lexemes_of, Found, Tail, Leaves}
use Rattle.lexing.specs.Words.{lexeme_in}
use Rattle.lexing.specs.declared.lexemes.Lexed.{Lexed}
use Rattle.lexing.specs.declared.lexemes.Lexeme as code
use Rattle.lexing.proofs.Tails.{tail_self, tail_after}
use Rattle.bracketing.specs.Brackets.{one_less, open_after, if_none, skip, after_formula, starts_part}

-- ---- parts

starts_one : (x : code.Lexeme) (ls : List Lexeme) → (x ≡ code.Lexeme.Closes → ⊥) → starts_part (lexeme_in x ∷ ls) ≡ true
unfolding starts_part
starts_one code.Lexeme.Opens ls ne = refl
starts_one code.Lexeme.Closes ls ne = absurd (ne refl)
starts_one code.Lexeme.Stray ls ne = refl
starts_one (code.Lexeme.Word w) ls ne = refl

module _ {text : List ℕ} {l : Lexed} (f : Found text l) where
  pub starts_not : l.lexeme ≡ code.Lexeme.Closes → starts_part (lexemes_of text) ≡ false
  unfolding starts_part
  starts_not e = rw (f.next, e) refl

  pub starts_next : (l.lexeme ≡ code.Lexeme.Closes → ⊥) → starts_part (lexemes_of text) ≡ true
  starts_next ne = rw f.next (starts_one l.lexeme (lexemes_of l.rest.now) ne)

-- ---- after a formula

pub less_one : (n : ℕ) → n - 1 ≡ one_less n
unfolding one_less
less_one zero = refl
less_one (suc n) = omega arith

open_few : (l : Lexeme) (n : ℕ) → open_after l n ≤ n + 1
unfolding open_after
open_few opens n = omega arith
open_few closes n = omega (arith, less_one n)
open_few (word w) n = omega arith
open_few stray n = omega arith

-- what is left of the text once its first formula is skipped up to where n of its brackets are open
pub record Skipping (text : List ℕ) (n : ℕ) (rest : List ℕ) : Type 0 where
  pub few : n + length rest ≤ length text
  pub tail : Tail text rest
  pub start : n ≡ 0 → rest ≡ text
  pub same : skip n (lexemes_of rest) ≡ after_formula (lexemes_of text)

pub skip_start : (text : List ℕ) → Skipping text 0 text
skip_start text = record { few = omega arith; tail = tail_self text; start = λ z. refl; same = refl }

module _ {text : List ℕ} {n : ℕ} {rest : List ℕ} (s : Skipping text n rest) where
  pub skip_over : lexemes_of rest ≡ [] → Leaves text (after_formula (lexemes_of text)) rest
  unfolding skip
  skip_over e = record {
    lexemes = e ∙ (sym (ap (skip n) e) ∙ s.same);
    tail = s.tail;
    fewer = omega (arith, s.few);
    moves = λ some. go n refl some;
  }
    where
      go : (m : ℕ) → n ≡ m → (lexemes_of text ≡ [] → ⊥) → length rest < length text
      go zero z some = absurd (some (ap lexemes_of (sym (s.start z)) ∙ e))
      go (suc m) z some = omega (arith, s.few, z)

  module _ {l : Lexed} (f : Found rest l) {m : ℕ} (e : m ≡ open_after (lexeme_in l.lexeme) n) where
    turned : if_none m (lexemes_of l.rest.now) (skip m (lexemes_of l.rest.now)) ≡ after_formula (lexemes_of text)
    unfolding skip
    turned = rw e (sym (ap (skip n) f.next) ∙ s.same)

    pub skip_here : m ≡ 0 → Leaves text (after_formula (lexemes_of text)) l.rest.now
    unfolding if_none
    skip_here z = record {
      lexemes = sym (ap (λ k. if_none k (lexemes_of l.rest.now) (skip k (lexemes_of l.rest.now))) z) ∙ turned;
      tail = tail_after s.tail f.tail;
      fewer = omega (arith, s.few, f.fewer);
      moves = λ some. omega (arith, s.few, f.fewer);
    }

    pub skip_next : (m ≡ 0 → ⊥) → Skipping text m l.rest.now
    unfolding if_none
    skip_next nz = record {
      few = omega (arith, s.few, f.fewer, e, open_few (lexeme_in l.lexeme) n);
      tail = tail_after s.tail f.tail;
      start = λ z. absurd (nz z);
      same = sym (go m nz) ∙ turned;
    }
      where
        go : (m : ℕ) → (m ≡ 0 → ⊥) → if_none m (lexemes_of l.rest.now) (skip m (lexemes_of l.rest.now)) ≡ skip m (lexemes_of l.rest.now)
        go zero nz = absurd (nz refl)
        go (suc m) nz = refl
