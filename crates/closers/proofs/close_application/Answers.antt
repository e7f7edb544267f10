-- `close_application` meets its contract: the term is a word, and the step is that of the term that was placed.
use mathlib.Core.Bool.{true}
use native.Mathlib.Omega.{arith}
use Rattle.scratch.specs.Stack.{halves_of}
use Rattle.placing.proofs.Placings.{application_asks}
use Rattle.closers.proofs.close_application.Goals as goal

pub conclude-requires : goal.conclude-requires
conclude-requires c =
    let a = c.args in
    let t = application_asks a.filed.now a.symbol (halves_of true a.pairs.now) c.place_application.ensures c.in_ok-right.was in
    (omega (arith, c.number.ensures), c.requires.0, c.requires.1, t)
