-- `words::Word::code` meets its contract.
use Rattle.lexing.specs.Codes.{word_code}
use Rattle.lexing.proofs.words.Word.code.Goals as goal

pub returns-in-Constant : goal.returns-in-Constant
unfolding word_code
returns-in-Constant c = rw c.in-Constant.is

pub returns-in-Negation : goal.returns-in-Negation
unfolding word_code
returns-in-Negation c = rw c.in-Negation.is

pub returns-in-Connective : goal.returns-in-Connective
unfolding word_code
returns-in-Connective c = rw c.in-Connective.is

pub returns-in-Quantifier : goal.returns-in-Quantifier
unfolding word_code
returns-in-Quantifier c = rw c.in-Quantifier.is

pub returns-in-Let : goal.returns-in-Let
unfolding word_code
returns-in-Let c = rw c.in-Let.is

pub returns-in-Sort : goal.returns-in-Sort
unfolding word_code
returns-in-Sort c = rw c.in-Sort.is

pub returns-in-Name : goal.returns-in-Name
unfolding word_code
returns-in-Name c = rw c.in-Name.is
