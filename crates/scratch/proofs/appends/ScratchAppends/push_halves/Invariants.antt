-- The invariant: the bundle so far with the pairs that are left appended is the entry's bundle with all of them appended; there is room for them.
use mathlib.Core.Path.{◌≡◌}
use Prim.Native.Nat.{◌+◌, ◌-◌, ◌≤◌}
use lib.ListN.{length, drop}
use Rattle.bundle.specs.Limits.{limits}
use Rattle.logic.specs.Longer.{add_list}
use Rattle.scratch.specs.Stack.{halves_of}
use Rattle.scratch.proofs.appends.ScratchAppends.push_halves.Given as goal

abbrev pub invariant-loop-at : goal.invariant-loop-at
invariant-loop-at l =
    (length l.self.links + (length l.pairs - l.at) ≤ limits.links)
    × (add_list l.self (halves_of l.upper (drop l.at l.pairs)) ≡ add_list l.initial.self (halves_of l.upper l.pairs))
