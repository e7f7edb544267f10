-- What refuses a text before its records are placed.
use Rattle.std.specs.Prelude.{Bool, cond, ◌&&◌, eqb}
use Rattle.bundle.specs.Bundle.{Bundle}
use Rattle.logic.specs.Tests.{Fault}
use Rattle.logic.specs.Tests.{fault}
use Rattle.logic.specs.Symbols.{truth_sort}
use Rattle.grammar.specs.Grammar.{Formula}
use Rattle.grammar.specs.Names.{Resolved, resolved, unread_at, unknown_at}
use Rattle.reading.specs.Local.{fine, head_sort}

-- what 8 asks: every node's test, and that the formula is Bool
abbrev pub is_bool : Bundle → Formula → Bool
is_bool b φ = fine b φ && eqb (head_sort b φ) truth_sort

-- 19 and 20 at their bytes, then 8: what refuses a text beside b, number 0 where nothing does
unfoldable pub text_fault : Bundle → Resolved → Fault
unfolding fine head_sort
text_fault b (resolved φ) = cond (is_bool b φ) (fault 0 0) (fault 8 0)
text_fault b (unread_at n) = fault 19 n
text_fault b (unknown_at n) = fault 20 n
