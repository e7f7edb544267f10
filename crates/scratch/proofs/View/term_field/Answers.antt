-- `View::term_field` meets its contract: `term_is`, with the section's start as `terms_at` gives it.
use Rattle.bundle.specs.Limits.{limits}
use Rattle.scratch.specs.Scratch.{word_in}
use Rattle.bundle.proofs.Fields.{term_is}
use Rattle.scratch.proofs.View.term_field.Goals as goal

pub returns : goal.returns
returns c =
    let s = c.self.inside in (
      rw (
        ← c.self.view_is,
        term_is (word_in s.words.now) limits s.counts c.args.i c.args.k c.requires,
        c.field.ensures.0,
        c.terms_at.ensures.0,
        c.largest.ensures,
      ),
      c.field.ensures.1,
    )
