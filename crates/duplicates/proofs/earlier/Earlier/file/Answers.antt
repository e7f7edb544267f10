-- `Earlier::file` meets its contract.
use mathlib.Core.Path.{◌∙◌}
use lib.ListN.{length-set}
use borrow.Author.Rules.{rules}
use Rattle.duplicates.proofs.Digests.{term_filed}
use Rattle.duplicates.proofs.earlier.Earlier.file.Goals as goal

pub returns : goal.returns
returns c =
    let p = c.place-place in
    let asked = rw (← c.self.view_is) at c.requires in
    rw (← c.self.view_is) (λ b filed own. term_filed b c.self.inside.heads c.self.inside.next.now c.args.i p.result asked.0 filed (p.ensures.0 ∙ own) (search rules) asked.2, length-set c.self.inside.next.now c.args.i _)
