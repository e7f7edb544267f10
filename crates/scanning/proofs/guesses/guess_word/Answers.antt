-- `guesses::guess_word` meets its contract.
use mathlib.Core.Path.{ap, ◌∙◌}
use Rattle.spots.specs.Spots.{cell}
use Rattle.spots.proofs.GuessLaws.{if_below, if_inside, if_above}
use Rattle.scanning.proofs.guesses.guess_word.Goals as goal

pub returns-then-depth-low : goal.returns-then-depth-low
returns-then-depth-low c = if_below _ _ _ _ _ c.if-depth-low.true

pub returns-then-depth-top : goal.returns-then-depth-top
returns-then-depth-top c =
    c.guess_cell.ensures ∙ ap (cell c.args.spot) c.guess_column-column.ensures.0
    ∙ if_inside c.args.low c.args.top c.args.depth _ c.args.spot c.if-depth-low.false
    c.if-depth-top.true

pub returns : goal.returns
returns c = if_above _ _ _ _ _ c.if-depth-low.false c.if-depth-top.false
