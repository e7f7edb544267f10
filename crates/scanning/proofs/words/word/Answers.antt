-- `words::word` meets its contract.
use native.Mathlib.Omega.{arith}
use mathlib.Core.Path.{◌∙◌, sym, ap}
use Rattle.grammar.specs.Bytes.{word_of}
use Rattle.lexing.specs.Codes.{word_code}
use Rattle.lexing.proofs.LexemeLaws.{word_small}
use Rattle.spots.specs.Runs.{part}
use Rattle.spots.proofs.WordLaws.{name_code, no_name_code, met_word, met_name, met_unknown, met_refused}
use Rattle.scanning.proofs.words.word.Goals as goal

pub overflow_add-row : goal.overflow_add-row
overflow_add-row c =
    let r = word_small (word_of (part c.args.text.now c.args.start c.args.end)) in
    omega (arith, c.code.ensures ∙ ap word_code c.word_of-word.ensures, r.1, c.requires.0)

pub cell-requires : goal.cell-requires
cell-requires c =
    let r = word_small (word_of (part c.args.text.now c.args.start c.args.end)) in
    omega (arith, c.code.ensures ∙ ap word_code c.word_of-word.ensures, r.1, c.requires.0)

pub returns-then-next-ge20 : goal.returns-then-next-ge20
returns-then-next-ge20 c =
    met_refused _ _ _ _ _ c.code.result (c.code.ensures ∙ ap word_code c.word_of-word.ensures) _ (c.from-next.ensures ∙ c.cell.ensures)
    c.if-next-ge20.true _ c.viable_bytes-viable.ensures.0

pub returns-then-not-known : goal.returns-then-not-known
returns-then-not-known c =
    met_unknown _ _ _ _ _ c.code.result (c.code.ensures ∙ ap word_code c.word_of-word.ensures) _ (c.from-next.ensures ∙ c.cell.ensures) _
    (c.from-kind.ensures ∙ c.cell-in-Name.ensures) _ c.known_as-known.ensures c.if-next-ge20.false
    (c.code.ensures ∙ name_code c.in-Name.is) c.if-not-known.true

pub returns-else-not-known : goal.returns-else-not-known
returns-else-not-known c =
    met_name _ _ _ _ _ c.code.result (c.code.ensures ∙ ap word_code c.word_of-word.ensures) _ (c.from-next.ensures ∙ c.cell.ensures) _
    (c.from-kind.ensures ∙ c.cell-in-Name.ensures) _ c.known_as-known.ensures c.if-next-ge20.false
    (c.code.ensures ∙ name_code c.in-Name.is) c.if-not-known.false

pub returns-in_default : goal.returns-in_default
returns-in_default c =
    met_word _ _ _ _ _ c.code.result (c.code.ensures ∙ ap word_code c.word_of-word.ensures) _ (c.from-next.ensures ∙ c.cell.ensures)
    c.if-next-ge20.false (λ e. no_name_code _ c.in_default.not-Name (sym c.code.ensures ∙ e))
