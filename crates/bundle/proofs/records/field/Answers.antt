-- `records::field` meets its contract: a record in range ends within its section, and every other number reads 0.
use Prim.Native.Nat.{◌+◌, ◌*◌}
use mathlib.Core.Path.{sym, ◌∙◌}
use Rattle.bundle.specs.Words.{word_at}
use Rattle.bundle.proofs.Tab.{at_tab, tab_none}
use Rattle.bundle.proofs.records.field.Goals as goal

pub returns-then-i-count : goal.returns-then-i-count
returns-then-i-count c =
    let a = c.args in
    sym (tab_none 0 (λ j. word_at a.section.now (a.size * j + a.k)) a.count a.i c.if-i-count.true)

pub returns : goal.returns
returns c =
    let a = c.args in
    c.word_at.ensures.0
    ∙ sym (at_tab (λ j. word_at a.section.now (a.size * j + a.k)) a.count a.i 0 c.if-i-eq0.false
    c.if-i-count.false)
