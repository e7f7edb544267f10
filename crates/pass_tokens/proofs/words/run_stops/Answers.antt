-- `words::run_stops` meets its contract.
use mathlib.Core.Path.{sym, ◌∙◌}
use borrow.Author.Tests.{not-true}
use Rattle.pass_tokens.proofs.RunLaws.{stops_past, stops_byte, stops_closing, stops_space}
use Rattle.pass_tokens.proofs.words.run_stops.Goals as goal

pub returns-then-j-text : goal.returns-then-j-text
returns-then-j-text c = λ x. stops_past c.args.text.now c.args.j c.if-j-text.true

pub returns-then-c-eq41 : goal.returns-then-c-eq41
returns-then-c-eq41 c =
    λ x. stops_closing c.args.text.now c.args.j c.if-j-text.false c.if-c-eq41.true

pub returns-then-c-eq32 : goal.returns-then-c-eq32
returns-then-c-eq32 c =
    λ x. stops_space c.args.text.now c.args.j c.if-j-text.false c.if-c-eq32.true

pub returns : goal.returns
returns c =
    λ x. stops_byte c.args.text.now c.args.j c.if-j-text.false
    (sym c.goes_on.ensures ∙ not-true c.goes_on.result x)
