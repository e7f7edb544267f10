-- `store_read` meets its contract: the checks of the declarations, the pass over the text, and every check of the text where it is given up.
use mathlib.Core.Path.{◌≡◌, refl}
use mathlib.Core.List.{List}
use Prim.Native.Nat.{ℕ}
use lib.ListN.{length}
use Rattle.bundle.specs.Bundle.{Bundle}
use Rattle.bundle.specs.File.{bundle_of}
use Rattle.std.proofs.lemmas.Result.{err_from_is_err_and}
use Rattle.logic.specs.Tests.{fault}
use Rattle.logic.specs.Failures.{check_number}
use Rattle.logic.proofs.CheckNumbers.{number_some}
use Rattle.expansion.proofs.AreasAfter.{stored_refused}
use Rattle.reading.specs.Reading.{declarations_fault}
use Rattle.reader.specs.Storing.{Declared}
use Rattle.reader.proofs.Answering.{refused_declared}
use Rattle.reader.proofs.Passed.{stored_again}
use Rattle.reader.proofs.store_read.Goals as goal

-- the checks of the declarations find nothing: they are opened as b
declared : (f : List ℕ) (out words sets : ℕ) → fault 0 0 ≡ declarations_fault f out words sets → {b : Bundle} → b ≡ bundle_of f
    → Declared f out words sets b
declared f out words sets checked opened = record { none = rw (← checked); bundle = opened }

pub returns-in_err-bundle : goal.returns-in_err-bundle
returns-in_err-bundle c =
    let a = c.args in
    let p = err_from_is_err_and c.from_residual.result c.from_residual.ensures.1 in
    let k = c.in_err-bundle.field-0.0 in
    rw (p.1, p.2)
    (stored_refused refl refl refl
    (refused_declared a.declarations.now a.text.now (length a.out.now) (length a.words.now) (length a.sets.now)
    (fault (check_number k.check) k.«record») c.in_err-bundle.ensures.fault (number_some k.check)))

pub returns-in-None : goal.returns-in-None
returns-in-None c =
    let a = c.args in
    let t = c.in_ok-bundle.ensures in
    let d = declared a.declarations.now (length a.out.now) (length a.words.now) (length a.sets.now) t.fault t.bundle in
    stored_again a.text.now c.store_passed.ensures.0 c.store_passed.ensures.1 d c.store_checked.ensures
