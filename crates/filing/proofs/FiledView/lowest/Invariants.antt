-- The invariant: the walk stands at 0 or a term, `lowest` is the lowest match so far, and whatever else matches is on the chain from there. Chains fall,
-- so the measure is where the walk stands.
use Rattle.std.proofs.Common.{◌≡◌, Bool, true, ℕ, ◌≤◌}
use Rattle.bundle.specs.Bundle.{TermRecord, term_of}
use Rattle.bundle.specs.Limits.{limits}
use Rattle.filing.specs.Filing.{lookup_digest, found}
use Rattle.filing.proofs.FiledTerms.{SoughtTerm}
use Rattle.filing.proofs.FiledView.lowest.Given as goal

abbrev pub invariant-loop-t : goal.invariant-loop-t
invariant-loop-t g l =
    (l.t ≤ limits.terms)
    × ((p : TermRecord → Bool) → ((t : ℕ) (r : Bool) → t ≤ limits.terms → goal.F-post g l.same t r → r ≡ p (term_of l.self t))
    → ((r : TermRecord) → p r ≡ true → lookup_digest l.self r ≡ l.fn.d)
    → (m : ℕ) × (l.lowest ≡ found m) × SoughtTerm l.self l.self-inside.index.now p l.t m)

abbrev pub decreases-loop-t : goal.decreases-loop-t
decreases-loop-t g l = l.t
