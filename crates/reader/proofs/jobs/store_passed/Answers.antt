-- `store_passed` meets its contract: the declarations copied, the pass over the text, and the job.
use mathlib.Core.Path.{refl, ◌∙◌}
use native.Mathlib.Omega.{arith}
use Rattle.reader.proofs.Answering.{areas_long, declared_version, copied_formed, held_version, stored_read}
use Rattle.reader.proofs.Passed.{passed_settled, passed_held}
use Rattle.reader.proofs.jobs.store_passed.Goals as goal

pub copy_job-requires : goal.copy_job-requires
copy_job-requires c = let d = c.requires.2 in (areas_long d).scratch

pub of-filed-requires : goal.of-filed-requires
of-filed-requires c = copied_formed c.requires.2 c.copy_job.ensures

-- `text` is what the pass, which was not given up, has read
pub store_file-requires : goal.store_file-requires
store_file-requires c =
    let text = rw c.in_ok-term.was at c.pass_text.ensures in
    let copied = c.of-filed.ensures ∙ c.copy_job.ensures in (
      text.word,
      omega arith,
      (areas_long c.requires.2).output,
      rw (c.view.ensures ∙ c.scratch.ensures) (held_version (passed_held copied text) (declared_version c.requires.2)),
    )

pub returns : goal.returns
returns c =
    let text = rw c.in_ok-term.was at c.pass_text.ensures in
    let copied = c.of-filed.ensures ∙ c.copy_job.ensures in
    let s = c.store_file.ensures in (
      s.0,
      omega arith,
      λ f sets d. stored_read (passed_held copied text) (passed_settled copied text) (c.view.ensures ∙ c.scratch.ensures) d s.0 (omega arith) refl s.1 s.2 s.3,
    )
