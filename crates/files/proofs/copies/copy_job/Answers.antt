-- `copies::copy_job` meets its contract. The invariant: the header and the first s sections are copied, and the next one starts at `from` in the file
-- and at `to` in the scratch.
use mathlib.Core.Path.{◌≡◌, ap, ◌∙◌}
use Prim.Native.Nat.{◌≤◌}
use native.Mathlib.Numerals.{add-one}
use native.Mathlib.Omega.{arith}
use lib.ListN.{length}
use Rattle.bundle.specs.Limits.{limits, header_words, symbols_at, sections, place_of}
use Rattle.bundle.specs.File.{Whole, bundle_at}
use Rattle.bundle.proofs.Limits.{within_words, section_fits}
use Rattle.files.proofs.JobCopied.{holds_header, holds_on, bundle_same}
use Rattle.files.proofs.copies.copy_job.Goals as goal

pub copy_section-requires : goal.copy_section-requires
unfolding header_words
copy_section-requires c = (omega (arith, c.file-file.ensures.0.exact), omega (arith, c.requires))

pub loop-s-init : goal.loop-s-init
unfolding place_of
loop-s-init c =
    let a = c.args in (
      c.symbols_at-from.ensures.0,
      c.symbols_at-to.ensures.0 ∙ ap symbols_at c.largest-room.ensures,
      rw c.copy_section.ensures (holds_header c.file-file.result.now c.counts-counts.result a.words.now),
    )

pub copy_section-requires-in-loop-s : goal.copy_section-requires-in-loop-s
copy_section-requires-in-loop-s c =
    let l = c.loop-s in
    let n = c.extent-count.ensures in
    let whole : Whole c.file-file.result.now c.counts-counts.result = rw c.counts-counts.ensures.0 c.file-file.ensures.0 in
    let fits = section_fits c.counts-counts.result whole.within l.s (omega arith) in (
      rw (l.invariant.0, n) (omega (arith, fits.0, whole.exact)),
      rw (l.invariant.1, n) (omega (arith, fits.1, fits.2, c.requires, c.copy_section.auto.words, l.auto.words)),
    )

pub overflow_add-from : goal.overflow_add-from
unfolding header_words
overflow_add-from c =
    let l = c.loop-s in
    let k = c.counts-counts in
    rw (l.invariant.0, c.extent-count.ensures)
    (omega (arith, (section_fits k.result k.ensures.1 l.s (omega arith)).0, within_words k.result k.ensures.1))

pub overflow_add-to : goal.overflow_add-to
unfolding header_words
overflow_add-to c =
    let l = c.loop-s in
    let k = c.counts-counts in
    rw (l.invariant.1, c.extent-most.ensures, c.largest-room.ensures) (omega (arith, (section_fits k.result k.ensures.1 l.s (omega arith)).2))

pub loop-s-preserved : goal.loop-s-preserved
unfolding place_of
loop-s-preserved c =
    let l = c.loop-s in
    let k = c.counts-counts in
    let n = c.extent-count.ensures in
    let fits = section_fits k.result k.ensures.1 l.s (omega arith) in
    let room : place_of limits l.s ≤ length l.words = omega (arith, fits.2, c.requires, c.copy_section.auto.words, l.auto.words) in (
      rw (l.invariant.0, n, add-one l.s),
      rw (l.invariant.1, c.extent-most.ensures, c.largest-room.ensures, add-one l.s),
      rw (c.copy_section-in-loop-s.ensures, l.invariant.0, l.invariant.1, n, add-one l.s)
          (holds_on c.file-file.result.now k.result k.ensures.1 l.s l.words room l.invariant.2),
    )

pub returns : goal.returns
returns c =
    let l = c.loop-s in
    let k = c.counts-counts in
    let past : l.s ≡ sections = omega arith in
    c.of.ensures
    ∙ bundle_same c.file-file.result.now l.words k.result (rw past at l.invariant.2)
    ∙ ap (bundle_at c.file-file.result.now) k.ensures.0
    ∙ c.file-file.ensures.1
