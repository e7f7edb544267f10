-- The tests of nodes, as code makes them: of two sorts that are joined, of bindings with a set of the variables so far; and what is promised of a whole
-- text.
use Rattle.std.specs.Prelude.{ℕ, ◌≡◌, Bool, true, cond, not, ◌&&◌, List, [], eqb}
use Rattle.bundle.specs.Bundle.{Bundle}
use Rattle.bundle.specs.Lists.{each}
use Rattle.sets.specs.Sets.{member}
use Rattle.logic.specs.Symbols.{truth_sort, item_sort}
use Rattle.grammar.specs.Grammar.{Lexeme, Formula, Reads}
use Rattle.grammar.specs.Names.{names, all_known}
use Rattle.reading.specs.Called.{known_in}
use Rattle.reading.specs.Local.{head_sort, fine}
use Rattle.bracketing.specs.Brackets.{parts_from}
use Rattle.bracketing.specs.Nodes.{bound_from, distinct}

-- two sorts joined by a connective, of which is said whether it is =
unfoldable pub joins_by : Bool → ℕ → ℕ → Bool
joins_by equal s t = cond (equal && not (eqb s truth_sort)) (eqb item_sort s && eqb item_sort t) (eqb truth_sort s && eqb truth_sort t)

-- variables of the bindings at the front: each fits, none twice, none in the set of n words
unfoldable pub fresh_from : Bundle → List ℕ → ℕ → List Lexeme → Bool
unfolding each distinct member
fresh_from b seen n ls = each (λ v. not (member seen 0 n v)) (parts_from (bound_from b) ls) && distinct (parts_from (bound_from b) ls)

-- THE PROMISE: r says whether the text's formula, where its names are known, is well sorted and Bool
abbrev pub Judges : Bundle → List ℕ → Bool → Type 0
Judges b text r = (φ : Formula) → Reads text φ → all_known (known_in b) (names φ []) ≡ true → r ≡ (fine b φ && eqb (head_sort b φ) truth_sort)
