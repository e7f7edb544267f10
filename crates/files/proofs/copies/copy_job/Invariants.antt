-- `copies::copy_job` meets its contract. The invariant: the header and the first s sections are copied, and the next one starts at `from` in the file
-- and at `to` in the scratch.
use mathlib.Core.Path.{◌≡◌}
use Rattle.bundle.specs.Limits.{limits, place_of}
use Rattle.files.proofs.JobCopied.{Holds}
use Rattle.files.proofs.copies.copy_job.Given as goal

abbrev pub invariant-loop-s : goal.invariant-loop-s
invariant-loop-s l = (l.from ≡ place_of l.counts l.s) × (l.to ≡ place_of limits l.s) × Holds l.file l.counts l.s l.words
