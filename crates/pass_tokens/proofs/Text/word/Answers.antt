-- `Text::word` meets its contract.
use mathlib.Core.Path.{subst}
use mathlib.Core.List.{List}
use Prim.Native.Nat.{ℕ}
use lib.ListN.{drop}
use Rattle.pass_tokens.specs.Tokens.{WordTo}
use Rattle.pass_tokens.proofs.WordLaws.{word_next}
use Rattle.pass_tokens.proofs.Text.word.Goals as goal

pub returns : goal.returns
returns c =
    let t = c.in_ok-token.token in
    subst (λ (l : List ℕ). WordTo c.args.symbols c.args.variables l (drop t.end c.self.inside.bytes.now) t.meaning) c.self.view_is
    (word_next c.in_ok-token.ensures)
