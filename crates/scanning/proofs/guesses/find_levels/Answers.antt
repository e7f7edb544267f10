-- `guesses::find_levels` meets its contract. The invariant: on the way to the stand at byte `stop`, all is taken for what it was.
use borrow.Author.Rules.{rules}
use mathlib.Core.Path.{refl}
use Rattle.spots.proofs.GuessLaws.{seeking_start, seeking_on, seeking_end}
use Rattle.scanning.proofs.guesses.find_levels.Goals as goal

pub loop-i-init : goal.loop-i-init
loop-i-init c = (seeking_start _ _ _ _ _ _ c.lexeme_from-i.ensures, refl)

pub loop-i-preserved : goal.loop-i-preserved
loop-i-preserved c = (
  seeking_on _ _ _ _ _ _ _ _ c.loop-i.invariant.0 c.loop-i-test.true _ c.loop-i.g _ refl refl
      c.guess_turn-g.ensures,
  search rules,
)

pub returns : goal.returns
returns c = seeking_end _ _ _ _ _ _ _ _ c.loop-i.invariant.0 c.loop-i-test.false
