-- `words::SortWord::number` meets its contract.
use Rattle.reading.specs.Typing.{sort_number}
use Rattle.lexing.proofs.words.SortWord.number.Goals as goal

pub returns-in-Bool : goal.returns-in-Bool
unfolding sort_number
returns-in-Bool c = rw c.in-Bool.is

pub returns-in-Item : goal.returns-in-Item
unfolding sort_number
returns-in-Item c = rw c.in-Item.is
