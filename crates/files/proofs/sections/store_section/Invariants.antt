-- `sections::store_section` meets its contract. The invariant: the first i words are stored.
use Prim.Native.Nat.{◌+◌}
use lib.ListN.{take, drop}
use Rattle.files.specs.Stores.{WordsStored}
use Rattle.files.proofs.sections.store_section.Given as goal

abbrev pub invariant-loop-i : goal.invariant-loop-i
invariant-loop-i l = WordsStored l.initial.out l.place (l.place + l.i) (take l.i (drop l.from l.words)) l.out
