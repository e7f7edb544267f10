-- `guesses::guess_behind` meets its contract.
use Rattle.spots.proofs.GuessLaws.{if_below, if_inside, if_above}
use Rattle.scanning.proofs.guesses.guess_behind.Goals as goal

pub returns-then-depth-low : goal.returns-then-depth-low
returns-then-depth-low c = if_below _ _ _ _ _ c.if-depth-low.true

pub returns-then-depth-top : goal.returns-then-depth-top
returns-then-depth-top c = if_inside _ _ _ _ _ c.if-depth-low.false c.if-depth-top.true

pub returns : goal.returns
returns c = if_above _ _ _ _ _ c.if-depth-low.false c.if-depth-top.false
