-- What `nezkaldo_links` answers of step k of a file (include/nezkaldo_links.h), and what its number says. 4,294,967,296 is 2^32.
use Rattle.std.specs.Prelude.{ℕ, ◌+◌, ◌*◌, ◌≤◌, ◌<◌, ◌≡◌, true, cond, ◌↔◌, List, eqb}
use Rattle.bundle.specs.Bundle.{Bundle, Step, step_of}
use Rattle.bundle.specs.File.{bundle_of}
use Rattle.logic.specs.declared.Walk.{Walk}
use Rattle.logic.specs.Checks.{header_fault}
use Rattle.logic.specs.WellFormed.{HeaderFormed}
use Rattle.logic.specs.Rules.{cong_walk, three_lengths, matches}

-- the links that a walk read; where its test fails, with 13
abbrev pub walk_number : Walk → ℕ
walk_number w = cond w.passes w.links (4294967296 * 13 + w.links)

-- of a step of a bundle; 12 where it is no CONG
unfoldable pub step_number : Bundle → Step → ℕ
unfolding cong_walk
step_number b s = cond (eqb s.rule 2) (walk_number (cong_walk b s)) (4294967296 * 12)

-- of step k of a file; the number of the check, of 1 to 3, that its header fails (no area is lent, so 4 is not asked)
unfoldable pub links_number : List ℕ → ℕ → ℕ
unfolding step_number header_fault bundle_of
links_number f k = cond (eqb (header_fault f 0 0) 0) (step_number (bundle_of f) (step_of (bundle_of f) k)) (4294967296 * header_fault f 0 0)

-- p says of CONG step k, of a bundle:
pub record LinksSay (b : Bundle) (k p : ℕ) : Type 0 where
  -- below 2^32 exactly where the step matches its rule;
  pub passes : (p < 4294967296) ↔ (matches b k ≡ true)
  -- then as many links were read as the three lists have;
  pub exactly : p < 4294967296 → p ≡ three_lengths b (step_of b k)
  -- else no more than that
  pub at_most : 4294967296 ≤ p → (n : ℕ) × (p ≡ 4294967296 * 13 + n) × (n ≤ three_lengths b (step_of b k))

abbrev pub LinksNumber : Type 0
LinksNumber = (f : List ℕ) (k : ℕ) → HeaderFormed f → (step_of (bundle_of f) k).rule ≡ 2 → LinksSay (bundle_of f) k (links_number f k)
