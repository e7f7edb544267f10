-- `Text::open` meets its contract.
use native.Mathlib.Omega.{arith}
use mathlib.Core.Path.{refl, sym, ap, ◌∙◌}
use mathlib.Core.List.{List, ◌∷◌}
use Rattle.grammar.specs.Grammar.{Lexeme, opens}
use Rattle.lexing.proofs.Tails.{tail_after}
use Rattle.pass_tokens.proofs.BlankLaws.{opens_next}
use Rattle.pass_tokens.proofs.Text.open.Goals as goal

pub returns : goal.returns
returns c =
    let o = opens_next c.args.self.now (sym c.first.ensures ∙ c.if-first-ne40.false) in
    let b = rw c.skip.ensures at c.skip_blanks.ensures in
    record { tail = tail_after (1, o.some, refl) b.tail; fewer = omega (arith, o.fewer, b.fewer); opened = o.next ∙ ap (λ (l : List Lexeme). opens ∷ l) b.same }
