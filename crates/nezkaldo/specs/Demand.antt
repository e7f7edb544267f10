-- DEMAND 3 WHOLE, over the contracts of the two public calls, `expand` (crate writer), which takes the choice of names, and `check` (crate checker).
use Rattle.std.specs.Prelude.{ℕ, ◌*◌, ◌≤◌, ◌≡◌, List, length, take}
use Rattle.bundle.specs.Limits.{set_words}
use Rattle.bundle.specs.File.{counts_of, bundle_of}
use Rattle.logic.specs.Terms.{tree}
use Rattle.logic.specs.Free.{Closed}
use Rattle.logic.specs.Values.{EqualValues}
use Rattle.judgement.specs.Answer.{Answer, Accepted}
use Rattle.judgement.specs.declared.Acceptance.{Acceptance}
use Rattle.judgement.specs.Judge.{acceptance, judge}
use Rattle.expansion.specs.declared.Names.{Names}
use Rattle.expansion.specs.Answer.{Answer as Reply, Written}
use Rattle.expansion.specs.Expansion.{expansion}
use Rattle.expansion.specs.AreasAfter.{Left}
use Rattle.expansion.specs.Demands.{Bytes, JobFormed, Fits, LongEnough, WrittenWell}

-- Accepted: in every finite world, under every valuation, both sides of the claim have equal value. `a` is what `check` answers.
abbrev pub CheckedEqual : Type 0
CheckedEqual =
    (file free : List ℕ) (a : Answer) (s : Acceptance) → a ≡ judge file (length free) → a ≡ Accepted s → EqualValues (bundle_of file) s.left s.right

-- For either choice of names and every well-formed closed job whose derivation fits, with long enough areas, whatever stood in them (out, words, sets):
-- if `expand` answers `reply` and leaves out', words' and sets', then it has written a file of n bytes, `check` accepts those bytes with an area for
-- their T, and they are as they are to be: left is the rule, right holds no let, both have equal value in every world.
abbrev pub ExpandedAccepted : Type 0
ExpandedAccepted =
    (names : Names) (job out words sets out' words' sets' : List ℕ) (reply : Reply)
    → Bytes job → JobFormed job → Closed (tree (bundle_of job) (bundle_of job).left) → Fits names job → LongEnough (length out) (length words) (length sets)
    → Left (expansion names job (length out) (length words) (length sets)) reply out' words' sets'
    → (n : ℕ)
    × (reply ≡ Written n)
    × ((free : List ℕ) (a : Answer) → set_words * (counts_of (take n out')).terms ≤ length free → a ≡ judge (take n out') (length free)
    → a ≡ Accepted (acceptance (bundle_of (take n out'))))
    × WrittenWell job (take n out')

abbrev pub DemandThree : Type 0
DemandThree = CheckedEqual × ExpandedAccepted
