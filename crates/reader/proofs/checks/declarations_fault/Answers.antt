-- `checks::declarations_fault` meets its contract: each test is that of `declarations_fault`, in its order.
use mathlib.Core.Path.{◌≡◌, refl, sym}
use mathlib.Core.List.{List}
use Prim.Native.Nat.{ℕ}
use Rattle.std.proofs.lemmas.Result.{err_from_is_err_and}
use Rattle.logic.specs.Checks.{header_fault}
use Rattle.logic.proofs.CheckNumbers.{number_some}
use Rattle.expansion.specs.Expansion.{long_enough}
use Rattle.reader.proofs.DeclarationTests.{header_here, section_here, not_bare, all_hold}
use Rattle.reader.proofs.checks.declarations_fault.Goals as goal

-- what the header's tests find, where k says whether the areas are long enough
header : (f : List ℕ) (out words sets : ℕ) {k n : ℕ} → k ≡ long_enough out words sets → n ≡ header_fault f k 3
    → n ≡ header_fault f (long_enough out words sets) 3
header f out words sets enough tested = rw (← enough) tested

pub returns-in_err-bundle-clause-fault : goal.returns-in_err-bundle-clause-fault
returns-in_err-bundle-clause-fault c =
    let a = c.args in
    let p = err_from_is_err_and c.from_residual.result c.from_residual.ensures.1 in
    rw (p.1, p.2)
    (header_here a.file.now a.out a.words a.sets _
    (header a.file.now a.out a.words a.sets c.long_enough-enough.ensures c.in_err-bundle.ensures.number) (number_some c.in_err-bundle.field-0.0))

pub returns-in_err-sections_fault-clause-fault : goal.returns-in_err-sections_fault-clause-fault
returns-in_err-sections_fault-clause-fault c =
    let a = c.args in
    let r = c.from_residual-in_err-sections_fault in
    let p = err_from_is_err_and r.result r.ensures.1 in
    let b = c.in_ok-bundle.ensures in
    let none = sym (header a.file.now a.out a.words a.sets c.long_enough-enough.ensures b.number) in
    rw (p.1, p.2) (section_here a.file.now a.out a.words a.sets none b.bundle _ c.in_err-sections_fault.ensures (number_some _))

pub returns-then-not-is_declarations-clause-fault : goal.returns-then-not-is_declarations-clause-fault
returns-then-not-is_declarations-clause-fault c =
    let a = c.args in
    let b = c.in_ok-bundle.ensures in
    let none = sym (header a.file.now a.out a.words a.sets c.long_enough-enough.ensures b.number) in
    rw c.into.ensures
    (not_bare a.file.now a.out a.words a.sets none b.bundle _ c.in_ok-sections_fault.ensures refl c.is_declarations.result c.is_declarations.ensures
    c.if-not-is_declarations.true)

pub returns-clause-fault : goal.returns-clause-fault
returns-clause-fault c =
    let a = c.args in
    let b = c.in_ok-bundle.ensures in
    let none = sym (header a.file.now a.out a.words a.sets c.long_enough-enough.ensures b.number) in
    all_hold a.file.now a.out a.words a.sets none b.bundle _ c.in_ok-sections_fault.ensures refl c.is_declarations.result c.is_declarations.ensures
    c.if-not-is_declarations.false
