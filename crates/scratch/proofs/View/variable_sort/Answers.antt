-- `View::variable_sort` meets its contract: `variable_is`, with the section's start as `variables_at` gives it.
use Rattle.bundle.specs.Limits.{limits}
use Rattle.scratch.specs.Scratch.{word_in}
use Rattle.bundle.proofs.Fields.{variable_is}
use Rattle.scratch.proofs.View.variable_sort.Goals as goal

pub returns : goal.returns
returns c =
    let s = c.self.inside in (
      rw (
        ← c.self.view_is,
        variable_is (word_in s.words.now) limits s.counts c.args.i,
        c.field.ensures.0,
        c.variables_at.ensures.0,
        c.largest.ensures,
      ),
      c.field.ensures.1,
    )
