-- `place_word` meets its contract: a variable, or a symbol with no arguments.
use native.Mathlib.Omega.{arith}
use mathlib.Core.Path.{refl}
use Rattle.lexing.specs.Words.{word_in}
use Rattle.heads.proofs.WordNumbers.{variable_le}
use Rattle.placing.proofs.Placings.{variable_asks}
use Rattle.endings.proofs.EndingLaws.{ended, ended_none, variable_alone, symbol_alone}
use Rattle.endings.proofs.place_word.Goals as goal

pub place_variable-requires : goal.place_variable-requires
place_variable-requires c =
    omega (arith, c.in-Some.ensures.0, variable_le c.variables.result (word_in c.args.word), c.variables.ensures.1)

pub returns-in_err-term : goal.returns-in_err-term
returns-in_err-term c =
    let x = rw c.variables.ensures.0 at c.in-Some.ensures.0 in
    rw (c.from_residual.ensures, ← x)
    (variable_alone _ _ _ _ (omega (arith, c.in-Some.ensures)) c.variable_sort-sort.ensures (ended_none c.place_variable.ensures c.in_err-term.was), tt)

pub returns-in-Some : goal.returns-in-Some
returns-in-Some c =
    let x = rw c.variables.ensures.0 at c.in-Some.ensures.0 in
    let p = c.place_variable.ensures in
    let d = c.in_ok-term.was in
    rw (← x) (
      variable_alone _ _ _ _ (omega (arith, c.in-Some.ensures)) c.variable_sort-sort.ensures
          (ended p d (record { term = refl; sort = refl; rest = refl })),
      variable_asks _ _ p d,
    )

pub returns : goal.returns
returns c =
    let x = rw c.variables.ensures.0 at c.in_default.ensures in
    (symbol_alone _ _ _ _ x refl c.apply_parts.ensures.0, c.apply_parts.ensures.1)
