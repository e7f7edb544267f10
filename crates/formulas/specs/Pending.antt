-- How many terms wait at once while a formula is read: the parts of each term that is not yet whole.
use Rattle.std.specs.Prelude.{ℕ, suc, ◌+◌, ◌<◌, max, List}
use Rattle.bundle.specs.Limits.{limits}
use Rattle.bundle.specs.File.{bundle_of}
use Rattle.logic.specs.Terms.{Term, Terms, var, app, bind, let_in, none, more}
use Rattle.grammar.specs.Grammar.{Formula}
use Rattle.reading.specs.Local.{plain}
use Rattle.reading.specs.Answers.{ReadAs, FitsLimits}
use Rattle.reading.specs.Demands.{DeclarationsFormed}

-- how many terms there are in a list
unfoldable pub count : Terms → ℕ
count none = 0
count (more t ts) = suc (count ts)

-- at a part of a term all parts of it may wait; so at the part of that part
unfoldable mutual
  unfolding count

  pub pending : Term → ℕ
  pending (var x) = 0
  pending (app f ts) = count ts + pending_all ts
  pending (bind q x t) = pending t
  pending (let_in vs ts t) = count ts + max (pending_all ts) (pending t)

  pub pending_all : Terms → ℕ
  pending_all none = 0
  pending_all (more t ts) = max (pending t) (pending_all ts)

-- Terms that wait are parts of different terms, and each has its link: a formula with more of them than the limit of links does not fit.
abbrev pub PendingNeverFits : Type 0
PendingNeverFits =
    (f text : List ℕ) (φ : Formula)
    → DeclarationsFormed f → ReadAs (bundle_of f) text φ → limits.links < pending (plain (bundle_of f) φ) → FitsLimits (bundle_of f) φ → ⊥
