-- The tests of the header and of the area, checks 1 to 4, and what they say.
--     header_exactly              the tests find nothing exactly where the header is well formed and the area is long enough
--     tables_header               it is so where the checks 1 to 9 find nothing
--     bundle_is                   the bundle by counts that are those of the file is the file's
--     header_is                   the header's fault as the code tests for it
--     tables_on                   where the header has no fault, the sections say
use mathlib.Core.Path.{◌≡◌, refl, sym, ap, ◌∙◌}
use mathlib.Core.Logic.{◌↔◌}
use mathlib.Core.List.{List}
use mathlib.Core.Bool.{cond}
use Prim.Native.Nat.{ℕ, ◌≤◌}
use lib.ListN.{length}
use lib.Dec.{eqb, leb}
use borrow.Author.Tests.{eqb-true, eq-eqb, leb-true, le-leb}
use Rattle.bundle.specs.declared.Counts.{Counts}
use Rattle.bundle.specs.Limits.{bytes_of, within_of}
use Rattle.bundle.specs.File.{counts_of, bundle_at, bundle_of}
use Rattle.bundle.proofs.Limits.{within_all, within_true}
use Rattle.logic.specs.Tests.{fault}
use Rattle.logic.specs.WellFormed.{HeaderFormed}
use Rattle.logic.specs.Checks.{header_tests, header_fault, sections_fault, tables_fault}
use Rattle.logic.proofs.Tests.{Hold, failing_none, none_failing}
use Rattle.logic.proofs.Firsts.{or_else_on, next_both}

-- n words are required of the m that are lent
pub header_exactly : (f : List ℕ) (m n : ℕ) → (header_fault f m n ≡ 0) ↔ (HeaderFormed f × (n ≤ m))
unfolding header_fault
header_exactly f m n = (λ e. there (failing_none (header_tests f m n) refl e), λ h. none_failing (header_tests f m n) (back h))
  where
    there : Hold (header_tests f m n) → HeaderFormed f × (n ≤ m)
    there t = (
      record {
        long = leb-true 36 (length f) t.0;
        version = eqb-true (counts_of f).version 1 t.1.0;
        whole = record { within = within_all (counts_of f) t.1.1.0; exact = eqb-true (length f) (bytes_of (counts_of f)) t.1.1.1.0 };
      },
      leb-true n m t.1.1.1.1.0,
    )

    back : HeaderFormed f × (n ≤ m) → Hold (header_tests f m n)
    back (h, area) = (
      le-leb 36 (length f) h.long,
      (
        eq-eqb (counts_of f).version 1 h.version,
        (
          within_true (counts_of f) h.whole.within,
          (eq-eqb (length f) (bytes_of (counts_of f)) h.whole.exact, (le-leb n m area, tt)),
        ),
      ),
    )

pub tables_header : (f : List ℕ) (m n : ℕ) → (tables_fault f m n).number ≡ 0 → HeaderFormed f × (n ≤ m)
unfolding tables_fault
tables_header f m n e = (header_exactly f m n).0 (next_both (fault (header_fault f m n) 0) (sections_fault (bundle_of f)) e).0

-- ---- the counts that the code has read, which are those of the file

-- the tests, of a file's length and counts
abbrev pub header_by : ℕ → Counts → ℕ → ℕ → ℕ
header_by n b lent required =
    cond (leb 36 n) (cond (eqb b.version 1) (cond (within_of b) (cond (eqb n (bytes_of b)) (cond (leb required lent) 0 4) 1) 3) 2) 1

pub bundle_is : (f : List ℕ) {b : Counts} → b ≡ counts_of f → bundle_at f b ≡ bundle_of f
unfolding bundle_of
bundle_is f e = ap (λ (b : Counts). bundle_at f b) e

module _ (f : List ℕ) (lent required : ℕ) where
  pub header_is : (b : Counts) → b ≡ counts_of f → header_fault f lent required ≡ header_by (length f) b lent required
  unfolding header_fault
  header_is b e = rw e

  pub tables_on : {b : Counts} → b ≡ counts_of f → header_fault f lent required ≡ 0 → tables_fault f lent required ≡ sections_fault (bundle_at f b)
  unfolding tables_fault
  tables_on p e = or_else_on _ _ _ e ∙ ap sections_fault (sym (bundle_is f p))
