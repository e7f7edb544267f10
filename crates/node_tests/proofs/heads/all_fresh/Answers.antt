-- `heads::all_fresh` meets its contract.
use mathlib.Core.Path.{◌∙◌, sym}
use Rattle.node_tests.proofs.PartLaws.{part_further}
use Rattle.node_tests.proofs.HeadLaws.{fresh_end, fresh_zero, fresh_seen, fresh_on}
use Rattle.node_tests.proofs.heads.all_fresh.Goals as goal

pub returns-in_default : goal.returns-in_default
returns-in_default c = fresh_zero c.loop-rest.invariant (sym c.part_at.ensures ∙ c.loop-rest-test.true) c.in_default.ensures.bound

pub returns-then-member : goal.returns-then-member
returns-then-member c =
    let x = c.in-Some.ensures.bound in
    fresh_seen c.loop-rest.invariant (sym c.part_at.ensures ∙ c.loop-rest-test.true) x.0 x.1
    (sym c.member.ensures ∙ c.if-member.true)

pub loop-rest-smaller : goal.loop-rest-smaller
loop-rest-smaller c = part_further c.after_formula-rest.ensures (sym c.part_at.ensures ∙ c.loop-rest-test.true)

pub loop-rest-preserved : goal.loop-rest-preserved
loop-rest-preserved c =
    let x = c.in-Some.ensures.bound in
    fresh_on c.loop-rest.invariant (sym c.part_at.ensures ∙ c.loop-rest-test.true) x.0 x.1
    (sym c.member.ensures ∙ c.if-member.false) c.in-Some.ensures.small c.requires c.insert.ensures c.after_formula-rest.ensures

pub returns : goal.returns
returns c = fresh_end c.loop-rest.invariant (sym c.part_at.ensures ∙ c.loop-rest-test.false)
