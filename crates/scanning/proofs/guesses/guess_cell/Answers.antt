-- `guesses::guess_cell` meets its contract.
use Rattle.spots.proofs.GuessLaws.{guess_out}
use Rattle.scanning.proofs.guesses.guess_cell.Goals as goal

pub returns : goal.returns
returns c = guess_out _ _ _ c.from.ensures c.if-at-lt294.false
