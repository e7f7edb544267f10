-- A walk that goes on.
use Rattle.std.specs.Prelude.{ℕ, ◌+◌}
use Rattle.logic.specs.declared.Walk.{Walk}

-- what a walk finds that has read n links before
abbrev pub after : ℕ → Walk → Walk
after n w = record { passes = w.passes; links = n + w.links }
