-- EXAMPLES of bytes and texts: which bytes are of each class, what texts are made of, and which are in the grammar.
--     ExamplesRight     THE STATEMENT: every row is right; proofs/ has it under the name `examples_right`
use Rattle.std.specs.Prelude.{ℕ, zero, suc, ◌≡◌, true, cond, List, [], ◌∷◌, ◌++◌, eqb}
use Rattle.logic.specs.Lists.{All}
use Rattle.grammar.specs.Bytes.{bytes, Class, space, lineEnd, semicolon, opening, closing, digit, symbol, other, class_of, constant, name}
use Rattle.grammar.specs.Grammar.{Lexeme, opens, closes, word, stray, lexemes}
use Rattle.grammar.specs.Parser.{Outcome, read, unread, judged}

-- ---- classes of bytes

-- a number for each class
abbrev class_number : Class → ℕ
class_number space = 0
class_number lineEnd = 1
class_number semicolon = 2
class_number opening = 3
class_number closing = 4
class_number digit = 5
class_number symbol = 6
class_number other = 7

-- the bytes below n that are of a class
unfoldable pub of_class : Class → ℕ → List ℕ
unfolding class_of
of_class k zero = []
of_class k (suc n) = of_class k n ++ cond (eqb (class_number (class_of n)) (class_number k)) (n ∷ []) []

pub record ClassesRight : Type 0 where
  pub spaces : of_class space 256 ≡ 9 ∷ 32 ∷ []
  pub ends : of_class lineEnd 256 ≡ 10 ∷ 13 ∷ []
  pub semicolons : of_class semicolon 256 ≡ bytes ";"
  pub openings : of_class opening 256 ≡ bytes "("
  pub closings : of_class closing 256 ≡ bytes ")"
  pub digits : of_class digit 256 ≡ bytes "0123456789"
  pub symbols : of_class symbol 256 ≡ bytes "!$%&*+-./<=>?@ABCDEFGHIJKLMNOPQRSTUVWXYZ^_abcdefghijklmnopqrstuvwxyz~"

-- ---- what texts are made of

pub record Spelled : Type 0 where
  pub text : List ℕ
  pub made : List Lexeme

abbrev spelled : List ℕ → List Lexeme → Spelled
spelled t ls = record { text = t; made = ls }

unfoldable pub spelled_rows : List Spelled
unfolding bytes
spelled_rows =
    spelled (bytes "true") (word (constant true) ∷ [])
    ∷ spelled (bytes "truex") (word (name (bytes "truex")) ∷ [])
    ∷ spelled (bytes "\t(\r)\n") (opens ∷ closes ∷ [])
    -- a comment ends at 10, at 13 and with the text, and holds any other byte
    ∷ spelled (bytes "a;(|\nb") (word (name (bytes "a")) ∷ word (name (bytes "b")) ∷ [])
    ∷ spelled (bytes "a;(|\rb") (word (name (bytes "a")) ∷ word (name (bytes "b")) ∷ [])
    ∷ spelled (bytes "a;(|") (word (name (bytes "a")) ∷ [])
    -- a run that starts with no digit is a word; a digit starts nothing
    ∷ spelled (bytes "v1") (word (name (bytes "v1")) ∷ [])
    ∷ spelled (bytes "1v") (stray ∷ word (name (bytes "v")) ∷ [])
    ∷ []

-- ---- which texts are in the grammar, and the byte where another cannot continue

pub record Judged : Type 0 where
  pub text : List ℕ
  pub outcome : Outcome (Unit {0})

abbrev judged_as : List ℕ → Outcome (Unit {0}) → Judged
judged_as t o = record { text = t; outcome = o }

unfoldable pub judged_rows : List Judged
unfolding bytes
judged_rows =
    judged_as (bytes "any-name") (read tt)
    ∷ judged_as (bytes "(let ((a true) (b (f c))) (=> a (forall ((x Item) (y Bool)) (= x y))))") (read tt)
    ∷ judged_as (bytes "(exists ((x Bool)) (or x (and false (not x))))") (read tt)
    -- nothing, too little, too much
    ∷ judged_as [] (unread 0)
    ∷ judged_as (bytes "(not true") (unread 9)
    ∷ judged_as (bytes "true true") (unread 5)
    -- one of the twelve words in a name's place could still grow: the byte after it
    ∷ judged_as (bytes "let ") (unread 3)
    ∷ judged_as (bytes "(true x)") (unread 5)
    -- a sort word: the first byte that leaves both Bool and Item
    ∷ judged_as (bytes "(forall ((x Iten)) true)") (unread 15)
    -- two arguments, one or more variables, one or more bindings, one or more arguments
    ∷ judged_as (bytes "(and true)") (unread 9)
    ∷ judged_as (bytes "(and true true true)") (unread 15)
    ∷ judged_as (bytes "(forall () true)") (unread 9)
    ∷ judged_as (bytes "(let () true)") (unread 6)
    ∷ judged_as (bytes "(f)") (unread 2)
    ∷ []

-- ---- the statement

pub record ExamplesRight : Type 0 where
  pub classes : ClassesRight
  pub spelled : All (λ r. lexemes r.text ≡ r.made) spelled_rows
  pub judged : All (λ r. judged r.text ≡ r.outcome) judged_rows
