-- `texts::pass_text` meets its contract: by the formula at the text's first lexeme.
use mathlib.Core.Path.{sym, ◌∙◌}
use Rattle.pass_formulas.proofs.PassTurns.{text_read}
use Rattle.pass_formulas.proofs.texts.pass_text.Goals as goal

pub returns : goal.returns
returns c =
    text_read c.args.bundle.now c.of-rest.ensures c.skip_blanks.ensures c.in_ok-formula.ensures.gives c.skip_blanks-2.ensures
    (sym c.is_empty.ensures ∙ c.if-not-is_empty.false) c.in_ok-formula-2.ensures (sym c.half.ensures.0 ∙ c.if-half-ne0.false) c.half-2.ensures.0 c.half-2.ensures.1
