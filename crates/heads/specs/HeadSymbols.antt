-- The variable and the symbol that a word stands for.
use Rattle.std.specs.Prelude.{ℕ, cond}
use Rattle.grammar.specs.Bytes.{Word, constant, negation, connective, quantifier, letting, sort, name}
use Rattle.reading.specs.Typing.{connective_symbol}
use Rattle.lexing.specs.Counted.{number_within, variable_among, symbol_among}

-- the variable, where so many are declared; 0 for a word that stands for none
unfoldable pub variable_for : ℕ → Word → ℕ
unfolding number_within
variable_for variables (constant v) = 0
variable_for variables negation = 0
variable_for variables (connective c) = 0
variable_for variables (quantifier q) = 0
variable_for variables letting = 0
variable_for variables (sort o) = 0
variable_for variables (name w) = variable_among variables w

-- the symbol, where so many are declared and the first argument has the sort s; 0 for a word that stands for none
unfoldable pub symbol_for : ℕ → Word → ℕ → ℕ
unfolding connective_symbol number_within
symbol_for symbols (constant v) s = cond v 1 2
symbol_for symbols negation s = 3
symbol_for symbols (connective c) s = connective_symbol c s
symbol_for symbols (quantifier q) s = 0
symbol_for symbols letting s = 0
symbol_for symbols (sort o) s = 0
symbol_for symbols (name w) s = symbol_among symbols w
