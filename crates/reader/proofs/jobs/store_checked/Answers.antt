-- `store_checked` meets its contract: what refuses the text, the formula's records, and the job.
use mathlib.Core.Path.{◌≡◌, refl, ◌∙◌}
use native.Mathlib.Omega.{arith}
use Rattle.std.specs.Prelude.{Some, None}
use Rattle.std.proofs.lemmas.Result.{err_from_is_err_and}
use Rattle.logic.specs.Tests.{fault}
use Rattle.logic.specs.declared.checks.Check.{Check}
use Rattle.logic.specs.Failures.{check_number}
use Rattle.logic.proofs.CheckNumbers.{number_some}
use Rattle.expansion.proofs.AreasAfter.{stored_refused}
use Rattle.reader.proofs.Answering.{areas_long, declared_version, copied_formed, refused_text, settled, refused_records, held_done, held_version, stored_read}
use Rattle.reader.proofs.jobs.store_checked.Goals as goal

pub text_fault-requires : goal.text_fault-requires
text_fault-requires c = let d = c.requires.2 in omega (arith, (areas_long d).output)

pub returns-in_err-text_fault : goal.returns-in_err-text_fault
returns-in_err-text_fault c =
    λ f sets d.
    let p = err_from_is_err_and c.from_residual.result c.from_residual.ensures.1 in
    let k = c.in_err-text_fault.field-0.0 in
    rw (p.1, p.2)
    (stored_refused c.text_fault.auto.area refl refl
    (refused_text d c.args.text.now (fault (check_number k.check) k.«record») c.in_err-text_fault.ensures (number_some k.check)))

pub copy_job-requires : goal.copy_job-requires
copy_job-requires c = let d = c.requires.2 in (areas_long d).scratch

pub of-filed-requires : goal.of-filed-requires
of-filed-requires c = copied_formed c.requires.2 c.copy_job.ensures

pub store_file-requires : goal.store_file-requires
store_file-requires c =
    let some : c.read_records.result ≡ Some c.in_ok-read.read = grind arith in
    let word = rw some at c.read_records.ensures.1 in
    let reads = settled c.args.bundle.now c.args.text.now (fault 0 0) c.in_ok-text_fault.ensures refl in
    let held = held_done reads.1 (c.of-filed.ensures ∙ c.copy_job.ensures) c.read_records.ensures some in (
      word,
      omega arith,
      omega (arith, (areas_long c.requires.2).output, c.text_fault.auto.area),
      rw (c.view.ensures ∙ c.scratch.ensures) (held_version held (declared_version c.requires.2)),
    )

-- `reads` is the formula of the text, which nothing refuses
pub returns-in_err-read : goal.returns-in_err-read
returns-in_err-read c =
    λ f sets d.
    let r = c.from_residual-in_err-read in
    let p = err_from_is_err_and r.result r.ensures.1 in
    let none : c.read_records.result ≡ None = grind arith in
    let room : c.in_err-read.field-0.0 ≡ Check.Room = grind arith in
    let reads = settled c.args.bundle.now c.args.text.now (fault 0 0) c.in_ok-text_fault.ensures refl in
    rw (p.1, p.2, room)
    (stored_refused c.text_fault.auto.area (omega arith) refl
    (refused_records reads.1 (c.of-filed.ensures ∙ c.copy_job.ensures) c.read_records.ensures d none))

pub returns : goal.returns
returns c =
    λ f sets d.
    let some : c.read_records.result ≡ Some c.in_ok-read.read = grind arith in
    let reads = settled c.args.bundle.now c.args.text.now (fault 0 0) c.in_ok-text_fault.ensures refl in
    let held = held_done reads.1 (c.of-filed.ensures ∙ c.copy_job.ensures) c.read_records.ensures some in
    let s = c.store_file.ensures in
    stored_read held reads.1 (c.view.ensures ∙ c.scratch.ensures) d (s.0 ∙ c.text_fault.auto.area) (omega arith) refl s.1 s.2 s.3
