-- `sections::copy_section` meets its contract. The invariant: the words are those of the start with the first i words of the section copied in.
use mathlib.Core.Path.{◌≡◌}
use Rattle.files.specs.Copies.{copied}
use Rattle.files.proofs.sections.copy_section.Given as goal

abbrev pub invariant-loop-i : goal.invariant-loop-i
invariant-loop-i l = l.words ≡ copied l.initial.words l.to l.file l.from l.i
