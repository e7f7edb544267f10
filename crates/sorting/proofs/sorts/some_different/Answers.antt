-- `sorts::some_different` meets its contract: a list has an item exactly where it has a first link.
use Rattle.sorting.proofs.SortLists.{some_start}
use Rattle.sorting.proofs.sorts.some_different.Goals as goal

pub returns : goal.returns
returns c =
    let a = c.args in
    let r = c.first_link-some in
    rw (some_start a.bundle.now a.variables r.result r.ensures, c.all_different-different.ensures)
