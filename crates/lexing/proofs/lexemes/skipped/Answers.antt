-- `lexemes::skipped` meets its contract. The invariant: what the text spells is what stands from j on, between lexemes or in a comment.
use native.Mathlib.Omega.{arith}
use mathlib.Core.Path.{◌≡◌, ◌∙◌}
use mathlib.Core.List.{[]}
use lib.ListN.{length, drop, drop_of_length-le}
use Rattle.std.proofs.lemmas.List.{take_rest}
use Rattle.lexing.proofs.SkipLaws.{skip_on, skip_here, skip_end, skip_index}
use Rattle.lexing.proofs.lexemes.skipped.Goals as goal

pub overflow_add-mode : goal.overflow_add-mode
overflow_add-mode c =
    let a = c.args in
    let h = skip_index a.text.now c.loop-j.mode c.loop-j.j c.loop-j.invariant c.class_code-class.result c.class_code-class.ensures in
    omega (arith, h)

pub skip_mode-requires : goal.skip_mode-requires
skip_mode-requires c =
    let a = c.args in
    skip_index a.text.now c.loop-j.mode c.loop-j.j c.loop-j.invariant c.class_code-class.result c.class_code-class.ensures

pub returns-then-mode-eq2 : goal.returns-then-mode-eq2
returns-then-mode-eq2 c =
    let a = c.args in
    rw (take_rest a.text.now c.loop-j.j) (skip_here a.text.now c.loop-j.mode c.loop-j.j c.loop-j.invariant (omega arith) c.class_code-class.result
    c.from-mode.result c.class_code-class.ensures (c.from-mode.ensures ∙ c.skip_mode.ensures) c.if-mode-eq2.true)

pub loop-j-preserved : goal.loop-j-preserved
loop-j-preserved c =
    let a = c.args in
    skip_on a.text.now c.loop-j.mode c.loop-j.j c.loop-j.invariant (omega arith) c.class_code-class.result
    c.from-mode.result c.class_code-class.ensures (c.from-mode.ensures ∙ c.skip_mode.ensures) c.if-mode-eq2.false

pub returns : goal.returns
returns c =
    let t = c.args.text.now in
    let none : drop (length t) t ≡ [] = drop_of_length-le t (omega arith) in
    rw (take_rest t (length t), none) (skip_end t c.loop-j.mode c.loop-j.j c.loop-j.invariant (omega arith))
