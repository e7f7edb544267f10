-- `scan::turn` meets its contract.
use native.Mathlib.Omega.{arith}
use mathlib.Core.Path.{refl, sym, ◌∙◌}
use Rattle.std.specs.Prelude.{Ok, Err}
use Rattle.std.proofs.lemmas.Result.{err_from_is_err_and}
use Rattle.lexing.specs.Codes.{class_code}
use Rattle.lexing.specs.declared.runs.Class.{Class}
use Rattle.lexing.proofs.ClassLaws.{coded, not_coded}
use Rattle.spots.specs.Judgement.{declared_by}
use Rattle.spots.proofs.RunLaws.{run_fits}
use Rattle.spots.proofs.ScanLaws.{lettered, turned_run, turned_inside, turned_closed, turned_not_inside, turned_not_closed, turned_stray}
use Rattle.spots.proofs.ScanLaws.{first_cell, turning_low, turning_fits, turning_some}
use Rattle.scanning.proofs.scan.turn.Goals as goal

pub word-requires : goal.word-requires
word-requires c =
    let f = run_fits _ _ _ c.requires.inside c.run_end-end.ensures in
    (turning_low c.requires, f.0, f.1, c.requires.symbols, c.requires.variables)

pub lexeme_from-next-requires : goal.lexeme_from-next-requires
lexeme_from-next-requires c = (run_fits _ _ _ c.requires.inside c.run_end-end.ensures).1

pub returns-in_err-after : goal.returns-in_err-after
unfolding class_code
returns-in_err-after c = λ held st.
    let p = err_from_is_err_and c.from_residual.result c.from_residual.ensures.1 in
    rw (p.1, p.2)
    (turned_run (declared_by c.args.symbols c.args.variables) _ _ c.args.p _ c.requires.inside held st
    (coded _ Class.Symbol c.class_of-class.ensures c.in-Symbol.is) _ c.run_end-end.ensures _ refl (Err _) (sym c.in_err-after.was ∙ c.word.ensures))

pub returns-in-Symbol : goal.returns-in-Symbol
unfolding class_code
returns-in-Symbol c = λ held st.
    turned_run (declared_by c.args.symbols c.args.variables) _ _ c.args.p _ c.requires.inside held st
    (coded _ Class.Symbol c.class_of-class.ensures c.in-Symbol.is) _ c.run_end-end.ensures _
    c.lexeme_from-next.ensures (Ok _) (sym c.in_ok-after.was ∙ c.word.ensures)

pub overflow_mul-spot : goal.overflow_mul-spot
overflow_mul-spot c = omega (arith, turning_low c.requires)

pub cell-requires : goal.cell-requires
cell-requires c = omega (arith, turning_low c.requires)

pub push-place-requires : goal.push-place-requires
push-place-requires c =
    let f = turning_fits c.requires in (
      turning_low c.requires,
      f.0,
      omega (arith, c.requires.room),
      omega
          (arith, f.1, c.requires.inside),
    )

pub returns-then-inside-lt20 : goal.returns-then-inside-lt20
unfolding class_code
returns-then-inside-lt20 c = λ held st.
    turned_inside (declared_by c.args.symbols c.args.variables) _ _ c.args.p _ c.requires.inside held st
    (coded _ Class.Opening c.class_of-class.ensures c.in-Opening.is) _
    (first_cell c.args.p.spot _ (c.from-inside.ensures
    ∙ c.cell.ensures)) c.if-inside-lt20.true
    (omega (arith, c.requires.room)) _
    c.lexeme_from-next-then-inside-lt20.ensures _ c.push-place.ensures.placed _ c.push-place.ensures.stored

pub returns-in-Opening : goal.returns-in-Opening
unfolding class_code
returns-in-Opening c = λ held st.
    turned_not_inside (declared_by c.args.symbols c.args.variables) _ _ c.args.p _ c.requires.inside held st
    (coded _ Class.Opening c.class_of-class.ensures c.in-Opening.is) _
    (first_cell c.args.p.spot _ (c.from-inside.ensures ∙ c.cell.ensures)) c.if-inside-lt20.false

pub overflow_mul-spot-in-Closing : goal.overflow_mul-spot-in-Closing
overflow_mul-spot-in-Closing c = omega (arith, turning_low c.requires)

pub overflow_add-spot : goal.overflow_add-spot
overflow_add-spot c = omega (arith, turning_low c.requires)

pub cell-requires-in-Closing : goal.cell-requires-in-Closing
cell-requires-in-Closing c = omega (arith, turning_low c.requires)

pub pop-place-requires : goal.pop-place-requires
pop-place-requires c =
    let f = turning_fits c.requires in
    let b = c.from-back.ensures ∙ c.cell-in-Closing.ensures in
    record {
      spot = turning_low c.requires;
      fits = f.0;
      room = c.requires.room;
      inside = omega (arith, c.requires.inside);
      some = turning_some c.requires b c.if-back-lt99.true;
      behind = b;
      taken = c.if-back-lt99.true;
    }

pub returns-then-back-lt99 : goal.returns-then-back-lt99
unfolding class_code
returns-then-back-lt99 c = λ held st.
    turned_closed (declared_by c.args.symbols c.args.variables) _ _ c.args.p _ c.requires.inside held st
    (coded _ Class.Closing c.class_of-class.ensures c.in-Closing.is) (lettered c.args.symbols c.args.variables) _
    (c.from-back.ensures ∙ c.cell-in-Closing.ensures)
    c.if-back-lt99.true _
    c.lexeme_from-next-then-back-lt99.ensures _ _ c.pop-place.ensures

pub returns-in-Closing : goal.returns-in-Closing
unfolding class_code
returns-in-Closing c = λ held st.
    turned_not_closed (declared_by c.args.symbols c.args.variables) _ _ c.args.p _ c.requires.inside held st
    (coded _ Class.Closing c.class_of-class.ensures c.in-Closing.is) _
    (c.from-back.ensures ∙ c.cell-in-Closing.ensures) c.if-back-lt99.false

pub returns : goal.returns
unfolding class_code
returns c = λ held st.
    let k = c.class_of-class.ensures in
    turned_stray (declared_by c.args.symbols c.args.variables) _ _ c.args.p _ c.requires.inside held st (not_coded _ Class.Symbol k c.in_default.not-Symbol)
    (not_coded _ Class.Opening k c.in_default-class.not-Opening) (not_coded _ Class.Closing k c.in_default-class-2.not-Closing)
