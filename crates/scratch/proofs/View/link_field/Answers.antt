-- `View::link_field` meets its contract: `link_is`, with the section's start as `links_at` gives it.
use Rattle.bundle.specs.Limits.{limits}
use Rattle.scratch.specs.Scratch.{word_in}
use Rattle.bundle.proofs.Fields.{link_is}
use Rattle.scratch.proofs.View.link_field.Goals as goal

pub returns : goal.returns
returns c =
    let s = c.self.inside in (
      rw (
        ← c.self.view_is,
        link_is (word_in s.words.now) limits s.counts c.args.i c.args.k c.requires,
        c.field.ensures.0,
        c.links_at.ensures.0,
        c.largest.ensures,
      ),
      c.field.ensures.1,
    )
