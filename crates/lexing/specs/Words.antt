-- Words, lexemes and classes of bytes as the code names them.
use Rattle.logic.specs.Named.{binder_in}
use Rattle.grammar.specs.Bytes as bytes
use Rattle.grammar.specs.Grammar as grammar
use Rattle.lexing.specs.declared.runs.Class.{Class}
use Rattle.lexing.specs.declared.words.Connective.{Connective}
use Rattle.lexing.specs.declared.words.SortWord.{SortWord}
use Rattle.lexing.specs.declared.words.Word.{Word}
use Rattle.lexing.specs.declared.lexemes.Lexeme.{Lexeme}

abbrev pub connective_in : Connective → bytes.Connective
connective_in Connective.And = bytes.conjunction
connective_in Connective.Or = bytes.disjunction
connective_in Connective.Implies = bytes.implication
connective_in Connective.Equal = bytes.equality

abbrev pub sort_in : SortWord → bytes.SortWord
sort_in SortWord.Bool = bytes.bool
sort_in SortWord.Item = bytes.item

abbrev pub word_in : Word → bytes.Word
word_in (Word.Constant v) = bytes.constant v
word_in Word.Negation = bytes.negation
word_in (Word.Connective c) = bytes.connective (connective_in c)
word_in (Word.Quantifier q) = bytes.quantifier (binder_in q)
word_in Word.Let = bytes.letting
word_in (Word.Sort s) = bytes.sort (sort_in s)
word_in (Word.Name w) = bytes.name w.now

abbrev pub class_in : Class → bytes.Class
class_in Class.Space = bytes.space
class_in Class.LineEnd = bytes.lineEnd
class_in Class.Semicolon = bytes.semicolon
class_in Class.Opening = bytes.opening
class_in Class.Closing = bytes.closing
class_in Class.Digit = bytes.digit
class_in Class.Symbol = bytes.symbol
class_in Class.Other = bytes.other

abbrev pub lexeme_in : Lexeme → grammar.Lexeme
lexeme_in Lexeme.Opens = grammar.opens
lexeme_in Lexeme.Closes = grammar.closes
lexeme_in Lexeme.Stray = grammar.stray
lexeme_in (Lexeme.Word w) = grammar.word (word_in w)
