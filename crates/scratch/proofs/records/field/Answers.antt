-- `records::field` meets its contract: a record in range ends within its section, and every other number reads 0.
use native.Mathlib.Omega.{arith}
use mathlib.Core.Path.{sym, ◌∙◌}
use Rattle.bundle.proofs.Tab.{at_tab, tab_none}
use Rattle.bundle.specs.File.{record_by}
use Rattle.scratch.specs.Scratch.{word_in}
use Rattle.scratch.proofs.records.field.Goals as goal

pub returns-then-i-count : goal.returns-then-i-count
returns-then-i-count c =
    let a = c.args in
    (sym (tab_none 0 (λ j. record_by (word_in a.words.now) a.start a.size j a.k) a.count a.i c.if-i-count.true), omega arith)

pub returns : goal.returns
returns c =
    let a = c.args in (
      c.wide.ensures.0
          ∙ sym (at_tab (λ j. record_by (word_in a.words.now) a.start a.size j a.k) a.count a.i 0 c.if-i-eq0.false
          c.if-i-count.false),
      c.wide.ensures.1,
    )
