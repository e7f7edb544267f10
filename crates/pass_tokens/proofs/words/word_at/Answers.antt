-- `words::word_at` meets its contract: a letter and a numeral, or one of the twelve words.
use mathlib.Core.Bool.{not}
use lib.Dec.{leb}
use borrow.Author.Tests.{not-false, leb-false}
use Rattle.std.proofs.lemmas.Bool.{or_parts}
use Rattle.pass_tokens.proofs.WordLaws as W
use Rattle.pass_tokens.proofs.words.word_at.Goals as goal

pub returns-then-c-eq118 : goal.returns-then-c-eq118
returns-then-c-eq118 c =
    W.word_variable c.args.symbols c.args.variables c.args.text.now c.args.start c.in_ok-n.n c.if-start-text.false
    (c.run_stops.ensures c.if-not-run_stops.false) c.if-c-eq118.true c.in_ok-n.ensures c.requires.2

pub returns-in-Some : goal.returns-in-Some
returns-in-Some c =
    let n = c.in-Some.n in
    let s = or_parts (leb n.value 32) (not c.run_stops-in-Some.result) c.if-n-run_stops.false in
    W.word_name c.args.symbols c.args.variables c.args.text.now c.args.start n c.if-start-text.false
    (c.run_stops-in-Some.ensures (not-false c.run_stops-in-Some.result s.1)) c.if-c-eq102.true c.in-Some.ensures c.requires.1
    (leb-false n.value 32 s.0)
