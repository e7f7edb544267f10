-- The numbers that words stand for.
--     no_variable     no word but a name stands for a variable
--     variable_le     none is higher than there are variables
use Prim.Native.Nat.{ℕ, ◌≤◌}
use native.Mathlib.Omega.{arith}
use mathlib.Core.Path.{◌≡◌, refl}
use Rattle.std.specs.Borrow.{Bor}
use mathlib.Core.List.{List}
use Rattle.grammar.specs.Bytes as bytes
use Rattle.lexing.specs.declared.words.Word.{Word}
use Rattle.lexing.specs.Words.{word_in}
use Rattle.lexing.proofs.NumeralLaws.{within_le}
use Rattle.heads.specs.HeadSymbols.{variable_for}

pub no_variable : (n : ℕ) (w : Word) → ((run : Bor (List ℕ)) → w ≡ Word.Name run → ⊥) → variable_for n (word_in w) ≡ 0
unfolding variable_for
no_variable n (Word.Constant v) other = refl
no_variable n Word.Negation other = refl
no_variable n (Word.Connective c) other = refl
no_variable n (Word.Quantifier q) other = refl
no_variable n Word.Let other = refl
no_variable n (Word.Sort s) other = refl
no_variable n (Word.Name run) other = absurd (other run refl)

pub variable_le : (n : ℕ) (w : bytes.Word) → variable_for n w ≤ n
unfolding variable_for
variable_le n (bytes.constant v) = omega arith
variable_le n bytes.negation = omega arith
variable_le n (bytes.connective c) = omega arith
variable_le n (bytes.quantifier q) = omega arith
variable_le n bytes.letting = omega arith
variable_le n (bytes.sort s) = omega arith
variable_le n (bytes.name w) = within_le 118 1 n w
