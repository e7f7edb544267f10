-- `sections::copy_section` meets its contract. The invariant: the words are those of the start with the first i words of the section copied in.
use native.Mathlib.Omega.{arith}
use Rattle.files.proofs.Copied.{copied_none, copied_more}
use Rattle.files.proofs.sections.copy_section.Goals as goal

pub loop-i-init : goal.loop-i-init
loop-i-init c = let a = c.args in copied_none a.words.now a.to a.file.now a.from

pub loop-i-preserved : goal.loop-i-preserved
loop-i-preserved c =
    let a = c.args in
    let l = c.loop-i in
    rw (l.invariant, c.as_word.ensures, c.word_at.ensures.0) (copied_more a.words.now a.to a.file.now a.from l.i (omega arith))
