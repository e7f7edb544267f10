-- The numbers by which code knows words and classes of bytes.
use Rattle.std.specs.Prelude.{ℕ}
use Rattle.grammar.specs.Bytes.{Class, space, lineEnd, semicolon, opening, closing, digit, symbol, other, Word, constant, negation, connective}
use Rattle.grammar.specs.Bytes.{quantifier, letting, sort, name}

-- the number of a word, by what may stand where it does
unfoldable pub word_code : Word → ℕ
word_code (constant v) = 3
word_code negation = 4
word_code (connective c) = 5
word_code (quantifier q) = 6
word_code letting = 7
word_code (sort s) = 8
word_code (name w) = 9

-- the number of a class of bytes
unfoldable pub class_code : Class → ℕ
class_code space = 0
class_code lineEnd = 1
class_code semicolon = 2
class_code opening = 3
class_code closing = 4
class_code digit = 5
class_code symbol = 6
class_code other = 7
