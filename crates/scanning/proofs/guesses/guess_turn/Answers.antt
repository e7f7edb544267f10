-- `guesses::guess_turn` meets its contract.
use native.Mathlib.Omega.{arith}
use Rattle.lexing.specs.Codes.{class_code}
use Rattle.lexing.specs.declared.runs.Class.{Class}
use Rattle.lexing.proofs.ClassLaws.{coded, not_coded}
use Rattle.spots.proofs.RunLaws.{run_fits}
use Rattle.spots.proofs.GuessLaws.{turned_word, turned_open, turned_empty, turned_close}
use Rattle.scanning.proofs.guesses.guess_turn.Goals as goal

pub slice_bounds-guess_word-count : goal.slice_bounds-guess_word-count
slice_bounds-guess_word-count c = let f = run_fits _ _ _ c.requires.0 c.run_end-end.ensures in omega (arith, f.0, f.1)

pub slice_bounds-guess_word-start : goal.slice_bounds-guess_word-start
slice_bounds-guess_word-start c = let f = run_fits _ _ _ c.requires.0 c.run_end-end.ensures in omega (arith, f.0, f.1)

pub slice_bounds-guess_word-end : goal.slice_bounds-guess_word-end
slice_bounds-guess_word-end c = let f = run_fits _ _ _ c.requires.0 c.run_end-end.ensures in omega (arith, f.0, f.1)

pub returns-in-Symbol : goal.returns-in-Symbol
unfolding class_code
returns-in-Symbol c =
    turned_word _ _ _ _ c.args.g _ c.requires.0 _ c.requires.2 (coded _ Class.Symbol c.class_of-class.ensures c.in-Symbol.is) _ c.run_end-end.ensures c.lexeme_from-next.ensures _
    c.guess_word-after.ensures

pub returns-in-Opening : goal.returns-in-Opening
unfolding class_code
returns-in-Opening c =
    turned_open _ _ _ _ c.args.g _ c.requires.0 _ c.lexeme_from-next-2.ensures c.requires.2
    (coded _ Class.Opening c.class_of-class.ensures c.in-Opening.is) c.requires.1 _
    c.guess_inside-inside.ensures.stored _ c.guess_inside-inside.ensures.spot

pub returns-then-depth-eq0 : goal.returns-then-depth-eq0
unfolding class_code
returns-then-depth-eq0 c =
    turned_empty _ _ _ _ c.args.g _ c.requires.0 _ c.lexeme_from-next-2.ensures (not_coded _ Class.Symbol c.class_of-class.ensures c.in_default.not-Symbol)
    (not_coded _ Class.Opening c.class_of-class.ensures c.in_default-class.not-Opening) c.if-depth-eq0.true

pub returns : goal.returns
unfolding class_code
returns c =
    turned_close _ _ _ _ c.args.g _ c.requires.0 _ c.lexeme_from-next-2.ensures (not_coded _ Class.Symbol c.class_of-class.ensures c.in_default.not-Symbol)
    (not_coded _ Class.Opening c.class_of-class.ensures c.in_default-class.not-Opening) c.requires.2 _ c.guess_behind-behind.ensures
