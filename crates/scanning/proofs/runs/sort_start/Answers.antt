-- `runs::sort_start` meets its contract.
use Rattle.spots.proofs.RunLaws.{sort_none, sort_bool, sort_item}
use Rattle.scanning.proofs.runs.sort_start.Goals as goal

pub returns-then-run-eq0 : goal.returns-then-run-eq0
returns-then-run-eq0 c = sort_none _ c.if-run-eq0.true

pub returns-then-run-eq66 : goal.returns-then-run-eq66
returns-then-run-eq66 c = sort_bool _ _ c.if-run-eq0.false c.if-run-eq66.true c.in_common.ensures

pub returns : goal.returns
returns c = sort_item _ _ c.if-run-eq0.false c.if-run-eq66.false c.in_common-2.ensures
