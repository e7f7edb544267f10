-- `heads::joined_fine` meets its contract.
use Rattle.node_tests.proofs.HeadLaws.{joins_items, joins_truths}
use Rattle.node_tests.proofs.heads.joined_fine.Goals as goal

pub returns-then-equal-s : goal.returns-then-equal-s
returns-then-equal-s c =
    rw (← c.after_formula.ensures.lexemes, ← c.sort_at-s.ensures, ← c.sort_at-t.ensures) (joins_items c.args.equal _ _ c.if-equal-s.true)

pub returns : goal.returns
returns c =
    rw (← c.after_formula.ensures.lexemes, ← c.sort_at-s.ensures, ← c.sort_at-t.ensures) (joins_truths c.args.equal _ _ c.if-equal-s.false)
