-- The lent area: how many words a file asks for, and the free sets in them as document 01 says.
--     lent_is       the words that the code asks for give the same fault as those that are required
--     area_bit      bit v - 1 of a term's words in `free_area` is set exactly where v is free in its tree
--     sets_left     so `free_area` is what document 01 says is left
use Prim.Native.Nat.{ℕ, ◌+◌, ◌*◌, ◌-◌, ◌/◌, ◌%◌, ◌≤◌}
use mathlib.Core.Path.{◌≡◌, refl}
use mathlib.Core.Logic.Iff
use mathlib.Core.Logic.{◌↔◌}
use mathlib.Core.Bool.{Bool, true, false, cond}
use mathlib.Core.List.{List}
use native.Mathlib.Omega.{arith}
use lib.ListN.{length, get_or}
use lib.Dec.{leb}
use Rattle.std.proofs.lemmas.Bool.Decides.{Decides-eqb}
use Rattle.bundle.specs.Bundle.{Bundle}
use Rattle.bundle.specs.Limits.{set_words}
use Rattle.bundle.proofs.Tab.{tab_length}
use Rattle.sets.specs.Sets.{holds, member}
use Rattle.sets.proofs.Members.{holds_small}
use Rattle.logic.specs.Lists.{Number}
use Rattle.logic.specs.Terms.{tree}
use Rattle.logic.specs.Free.{Free, free_area}
use Rattle.logic.specs.Checks.{tables_fault}
use Rattle.logic.specs.WellFormed.{TablesFormed}
use Rattle.logic.proofs.FreeSettled.{free_at_exactly}
use Rattle.free_variables.proofs.SetWords.{area_member, area_word, area_rest}
use Rattle.judgement.specs.Judge.{required, lent_for}
use Rattle.judgement.specs.Demands.{bit, FreeSetsLeft}

-- ---- how many words

-- of a file too short for a header the first test says so, whatever is required
pub lent_is : (f : List ℕ) (m : ℕ) → tables_fault f m (lent_for f) ≡ tables_fault f m (required f)
unfolding tables_fault lent_for
lent_is f m = go (leb 36 (length f)) refl
  where
    go : (p : Bool) → leb 36 (length f) ≡ p → tables_fault f m (cond p (required f) 0) ≡ tables_fault f m (required f)
    go true e = refl
    go false e = rw e

-- ---- the same in document 01's words

area_bit : (b : Bundle) (n m : ℕ) → TablesFormed b → 1 ≤ n → n * length b.terms ≤ m → (i v : ℕ) → Number (length b.terms) i
    → Number (64 * n) v → (bit (get_or (free_area b n m) (n * (i - 1) + (v - 1) / 64) 0) ((v - 1) % 64) ≡ 1) ↔ Free v (tree b i)
unfolding member
area_bit b n m formed one long i v term small =
    let has : holds n v ≡ true = holds_small n v small.0 small.1 in
    let same = rw has at (area_member b n m one i v term.0 term.1 long has) in
    Iff.trans (Iff.symm (Decides-eqb _ 1)) (rw same (free_at_exactly b formed i v))

pub sets_left : (b : Bundle) (m : ℕ) → TablesFormed b → set_words * length b.terms ≤ m → FreeSetsLeft b m (free_area b set_words m)
unfolding free_area
sets_left b m formed long = record {
  long = tab_length _ m;
  words = area_word b set_words m (omega arith);
  exact = area_bit b set_words m formed (omega arith) long;
  rest = area_rest b set_words m (omega arith);
}
