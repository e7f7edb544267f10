-- `stores::store_file` meets its contract. The invariant: the header and the first s sections are stored, and the next one starts at `from` in the
-- scratch and at `place` in the file.
use mathlib.Core.Path.{◌≡◌, ap, subst, ◌∙◌}
use mathlib.Core.List.{List}
use Prim.Native.Nat.{ℕ}
use native.Mathlib.Numerals.{add-one}
use native.Mathlib.Omega.{arith}
use lib.ListN.{take}
use Rattle.bundle.specs.declared.Counts.{Counts}
use Rattle.bundle.specs.Bundle.{Bundle}
use Rattle.bundle.specs.Limits.{header_words, symbols_at, bytes_of, sections, place_of, Within}
use Rattle.bundle.specs.File.{own_counts}
use Rattle.bundle.proofs.Limits.{within_words, section_fits}
use Rattle.scratch.specs.Scratch.{bundle_in, Roomy}
use Rattle.expansion.specs.Visit.{claiming}
use Rattle.expansion.specs.File.{file_of}
use Rattle.files.proofs.FileStored.{header_stored, section_stored, file_stored}
use Rattle.files.proofs.stores.store_file.Goals as goal

-- the counts k are those of the bundle b, and the words w have room by those
ready_by : (b : Bundle) {w : List ℕ} {k : Counts} → k ≡ own_counts b → Roomy w (own_counts b) → Roomy w k
ready_by b counted ready = rw counted ready

pub loop-s-init : goal.loop-s-init
unfolding place_of
loop-s-init c = (
  c.symbols_at-from.ensures.0 ∙ ap symbols_at c.largest-room.ensures,
  c.symbols_at-place.ensures.0,
  header_stored c.words-words.result.now c.counts-counts.result c.args.left c.args.right c.header.ensures c.store_section.ensures,
)

pub store_section-requires-in-loop-s : goal.store_section-requires-in-loop-s
store_section-requires-in-loop-s c =
    let l = c.loop-s in
    let k = c.counts-counts in
    let n = c.extent-count.ensures in
    let ready = ready_by c.args.scratch.now k.ensures.0 c.words-words.ensures.0 in
    let long = l.invariant.2.long ∙ c.store_section.auto.out in
    let fits = section_fits k.result k.ensures.1 l.s (omega arith) in (
      rw (l.invariant.0, n) (omega (arith, fits.1, fits.2, ready.long)),
      rw (l.invariant.1, n) (omega (arith, fits.0, within_words k.result k.ensures.1, c.requires.2, long)),
    )

pub overflow_add-from : goal.overflow_add-from
unfolding header_words
overflow_add-from c =
    let l = c.loop-s in
    let k = c.counts-counts in
    rw (l.invariant.0, c.extent-most.ensures, c.largest-room.ensures) (omega (arith, (section_fits k.result k.ensures.1 l.s (omega arith)).2))

pub overflow_add-place : goal.overflow_add-place
unfolding header_words
overflow_add-place c =
    let l = c.loop-s in
    let k = c.counts-counts in
    rw (l.invariant.1, c.extent-count.ensures)
    (omega (arith, (section_fits k.result k.ensures.1 l.s (omega arith)).0, within_words k.result k.ensures.1))

pub loop-s-preserved : goal.loop-s-preserved
unfolding place_of
loop-s-preserved c =
    let l = c.loop-s in
    let k = c.counts-counts in
    let n = c.extent-count.ensures in
    let ready = ready_by c.args.scratch.now k.ensures.0 c.words-words.ensures.0 in (
      rw (l.invariant.0, c.extent-most.ensures, c.largest-room.ensures, add-one l.s),
      rw (l.invariant.1, n, add-one l.s),
      rw (add-one l.s) (section_stored c.words-words.result.now k.result c.args.left c.args.right ready l.s l.invariant.2
          (rw (l.invariant.0, l.invariant.1, n) at c.store_section-in-loop-s.ensures)),
    )

-- the counts k are those of the bundle b, which the words w hold by those, and n is the length that they give
stored_by : (b : Bundle) (w o : List ℕ) (left right : ℕ) {k : Counts} {n : ℕ} → k ≡ own_counts b → bundle_in w (own_counts b) ≡ b → n ≡ bytes_of k
    → take (bytes_of k) o ≡ file_of (claiming (bundle_in w k) left right) → take n o ≡ file_of (claiming b left right)
stored_by b w o left right counted held sized stored =
    ap (λ (m : ℕ). take m o) sized ∙ stored ∙ ap (λ (b : Bundle). file_of (claiming b left right)) (ap (bundle_in w) counted ∙ held)

pub returns : goal.returns
returns c =
    let a = c.args in
    let l = c.loop-s in
    let k = c.counts-counts in
    let w = c.words-words in
    let past : l.s ≡ sections = omega arith in (
      l.invariant.2.long ∙ c.store_section.auto.out,
      subst Within k.ensures.0 k.ensures.1,
      c.bytes.ensures ∙ ap bytes_of k.ensures.0,
      stored_by a.scratch.now w.result.now l.out a.left a.right k.ensures.0 w.ensures.1 c.bytes.ensures
          (file_stored w.result.now k.result a.left a.right (rw past at l.invariant.2)),
    )
