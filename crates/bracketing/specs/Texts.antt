-- What code finds at the front of a text: a word, a word for a sort.
use Rattle.std.specs.Prelude.{Option, None, Some, ◌≡◌}
use Rattle.grammar.specs.Bytes as bytes
use Rattle.grammar.specs.Grammar.{Lexeme, word}
use Rattle.lexing.specs.Words.{sort_in, word_in}
use Rattle.lexing.specs.declared.words.SortWord.{SortWord}
use Rattle.lexing.specs.declared.words.Word.{Word}

-- the word that a lexeme is, as code has it
abbrev pub Worded : Lexeme → Option Word → Type 0
Worded l None = (w : bytes.Word) → l ≡ word w → ⊥
Worded l (Some w) = l ≡ word (word_in w)

-- the word for a sort that a lexeme is, as code has it
abbrev pub Says : Lexeme → Option SortWord → Type 0
Says l None = (s : bytes.SortWord) → l ≡ word (bytes.sort s) → ⊥
Says l (Some s) = l ≡ word (bytes.sort (sort_in s))
