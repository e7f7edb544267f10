-- `lexemes::next_lexeme` meets its contract: an answer for each class of byte.
use native.Mathlib.Omega.{arith}
use mathlib.Core.Path.{◌≡◌, refl, sym, ap, ◌∙◌}
use mathlib.Core.List.{◌∷◌}
use lib.ListN.{drop}
use Rattle.lexing.specs.Codes.{class_code}
use Rattle.lexing.specs.Words.{class_in, lexeme_in}
use Rattle.lexing.specs.Lexes.{lexemes_of}
use Rattle.lexing.specs.declared.runs.Class.{Class}
use Rattle.lexing.proofs.ClassLaws.{coded, not_coded}
use Rattle.lexing.proofs.LexemeLaws as X
use Rattle.lexing.proofs.lexemes.next_lexeme.Goals.{in-Opening, in-Closing, in_default-class}
use Rattle.lexing.proofs.lexemes.next_lexeme.Goals as goal

pub returns-then-start-eq0 : goal.returns-then-start-eq0
returns-then-start-eq0 c = X.over c.args.text.now c.skipped-start.result.now c.skipped-start.ensures c.if-start-eq0.true

pub run_end-end-requires : goal.run_end-end-requires
unfolding class_code
run_end-end-requires c = (omega arith, coded _ Class.Symbol c.class_of-class.ensures c.in-Symbol.is)

pub returns : goal.returns
unfolding class_code
returns c =
    let k = class_code (class_in c.class_of-class.result) in
    let is : lexeme_in c.match-class-2.lexeme ≡ X.one_lexeme k =
    elim c.match-class-2.branch [
      | in-Opening w ↦ rw (w.lexeme-is, w.in-Opening.is)
      | in-Closing w ↦ rw (w.lexeme-is, w.in-Closing.is)
      | in_default-class w ↦ rw w.lexeme-is (X.one_other _ w.in_default-class.not-Opening w.in_default-class.not-Closing)
    ] in
    let t = c.args.text.now in
    let r = c.skipped-start.result.now in
    let h = c.skipped-start.ensures in
    let other = not_coded _ Class.Symbol refl c.in_default.not-Symbol in
    let one = X.found_one t r h (omega arith) k (ap class_code c.class_of-class.ensures) other in
    X.found t r h _ 1 (omega arith) (omega arith) refl (one ∙ ap (λ l. l ∷ lexemes_of (drop 1 r)) (sym is))
    (λ w e. absurd (X.no_word k w (sym is ∙ e)))
