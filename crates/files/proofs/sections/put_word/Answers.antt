-- `sections::put_word` meets its contract: the word's four bytes.
use native.Mathlib.Omega.{arith}
use mathlib.Core.Path.{◌∙◌}
use Rattle.files.proofs.Encoded.{four_bytes, word_stored}
use Rattle.files.proofs.sections.put_word.Goals as goal

pub returns : goal.returns
returns c =
    let a = c.args in
    word_stored a.out.now _ a.place a.x (omega arith)
    (c.copy_from_slice.ensures.after ∙ c.to_le_bytes.ensures ∙ four_bytes a.x)
