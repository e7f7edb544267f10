-- `View::context_field` meets its contract: `context_is`, with the section's start as `contexts_at` gives it.
use Rattle.bundle.specs.Limits.{limits}
use Rattle.scratch.specs.Scratch.{word_in}
use Rattle.bundle.proofs.Fields.{context_is}
use Rattle.scratch.proofs.View.context_field.Goals as goal

pub returns : goal.returns
returns c =
    let s = c.self.inside in (
      rw (
        ← c.self.view_is,
        context_is (word_in s.words.now) limits s.counts c.args.i c.args.k c.requires,
        c.field.ensures.0,
        c.contexts_at.ensures.0,
        c.largest.ensures,
      ),
      c.field.ensures.1,
    )
