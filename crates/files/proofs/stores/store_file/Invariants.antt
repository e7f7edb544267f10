-- `stores::store_file` meets its contract. The invariant: the header and the first s sections are stored, and the next one starts at `from` in the
-- scratch and at `place` in the file.
use mathlib.Core.Path.{◌≡◌}
use Rattle.bundle.specs.Limits.{limits, place_of}
use Rattle.scratch.specs.Scratch.{bundle_in}
use Rattle.expansion.specs.Visit.{claiming}
use Rattle.files.specs.Stores.{WordsStored}
use Rattle.files.proofs.FileStored.{words_to}
use Rattle.files.proofs.stores.store_file.Given as goal

abbrev pub invariant-loop-s : goal.invariant-loop-s
invariant-loop-s l =
    (l.from ≡ place_of limits l.s) × (l.place ≡ place_of l.counts l.s)
    × WordsStored l.initial.out 0 (place_of l.counts l.s) (words_to (claiming (bundle_in l.words l.counts) l.left l.right) l.s) l.out
