-- The invariant: what is left to replace, over the row so far, makes up the whole.
use mathlib.Core.Path.{◌≡◌}
use mathlib.Core.Bool.{true}
use Prim.Native.Nat.{ℕ}
use lib.ListN.{length}
use Rattle.bundle.specs.Links.{items}
use Rattle.bundle.specs.Lists.{numbers, each, different}
use Rattle.logic.specs.Contexts.{lookup, or_above}
use Rattle.images.specs.ContextRows.{mention_in, Untouched, Agrees}
use Rattle.images.proofs.rows.Rows.replace.Given as goal

abbrev pub invariant-loop-x : goal.invariant-loop-x
invariant-loop-x l = record {
  lower : Untouched l.initial.self l.self l.k;
  agrees : Agrees l.self l.k;
  whole : (y : ℕ)
      → or_above (lookup l.x-iterator l.others y) (mention_in l.initial.self.bundle l.self.images l.k y)
      ≡ or_above (lookup (items l.initial.self.bundle l.variables) (items l.initial.self.bundle l.terms) y) (mention_in l.initial.self.bundle l.initial.self.images l.k y);
  variables : each (numbers (length l.initial.self.bundle.variables)) l.x-iterator ≡ true;
  terms : each (numbers (length l.initial.self.bundle.terms)) l.others ≡ true;
  different : different l.x-iterator ≡ true;
}
