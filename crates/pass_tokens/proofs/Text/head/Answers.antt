-- `Text::head` meets its contract.
use mathlib.Core.Path.{sym, ◌∙◌}
use Rattle.pass_tokens.proofs.PlaceLaws.{head_list}
use Rattle.pass_tokens.proofs.Text.head.Goals as goal

pub returns-else-first-ne40 : goal.returns-else-first-ne40
returns-else-first-ne40 c =
    head_list c.args.symbols c.args.variables c.skip_blanks.ensures c.in_ok-head.ensures c.skip_blanks-in-Binder.ensures
    c.in_ok-open-in-Binder.ensures (sym c.first.ensures ∙ c.if-first-ne40.false) c.in-Binder.is
