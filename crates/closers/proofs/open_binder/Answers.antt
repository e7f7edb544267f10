-- `closers::open_binder` meets its contract: the variable and its term are words.
use Rattle.placing.proofs.Placings.{named_asks}
use Rattle.closers.proofs.open_binder.Goals as goal

pub open_renaming-requires : goal.open_renaming-requires
open_renaming-requires c =
    let a = c.args in
    (c.requires.0, c.name_of-variable.ensures.1, named_asks a.kept a.filed.now a.x c.place_named.ensures c.in_ok-term.was, c.requires.1)
