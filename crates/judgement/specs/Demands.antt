-- THE DEMANDS on the checker, as types. proofs/ has each under the same name.
use Rattle.std.specs.Prelude.{ℕ, ◌+◌, ◌*◌, ◌-◌, ◌/◌, ◌%◌, ◌^◌, ◌≤◌, ◌<◌, ◌≡◌, ◌↔◌, List, length, get_or, replicate}
use Rattle.bundle.specs.Bundle.{Bundle, step_of}
use Rattle.bundle.specs.Limits.{set_words}
use Rattle.bundle.specs.File.{counts_of, bundle_of}
use Rattle.logic.specs.Lists.{All, Number}
use Rattle.logic.specs.Terms.{tree}
use Rattle.logic.specs.Free.{Free, Closed}
use Rattle.logic.specs.Distinct.{Distinct}
use Rattle.logic.specs.WellFormed.{HeaderFormed, WellFormed}
use Rattle.logic.specs.Instance.{StepHolds}
use Rattle.logic.specs.Values.{EqualValues}
use Rattle.logic.specs.ReflWalk.{pair_limit}
use Rattle.logic.specs.Statements.{LastWalked}
use Rattle.judgement.specs.declared.Acceptance.{Acceptance}
use Rattle.judgement.specs.Answer.{Accepted, Refused}
use Rattle.judgement.specs.Judge.{acceptance, judge, area_after}
use Rattle.judgement.specs.Order.{all_checks, Holds, FirstFailing}

-- Demand 1. A file is refused with number n and record i exactly where check n fails at record i and every check before it in document 01's order
-- holds.
abbrev pub RefusedExactly : Type 0
RefusedExactly = (f : List ℕ) (m n i : ℕ) → (judge f m ≡ Refused n i) ↔ FirstFailing (all_checks f m) n i

-- A file is accepted exactly where no check fails.
abbrev pub AcceptedUnlessFails : Type 0
AcceptedUnlessFails =
    (f : List ℕ) (m : ℕ) → (judge f m ≡ Accepted (acceptance (bundle_of f))) ↔ All Holds (all_checks f m)

-- the last step is the claim: in context 0, claimed left to claimed right
pub record LastIsClaim (b : Bundle) : Type 0 where
  pub some : 1 ≤ length b.steps
  pub context : (step_of b (length b.steps)).context ≡ 0
  pub left : (step_of b (length b.steps)).left ≡ b.left
  pub right : (step_of b (length b.steps)).right ≡ b.right

-- What document 01 asks of a file f and of the m words that are lent: a header of version 1 with counts within the limits and the exact length,
-- an area that is long enough, well-formed tables and contexts, each step an instance of its rule with its sides in scope, and the last step the claim.
pub record Acceptable (f : List ℕ) (m : ℕ) : Type 0 where
  pub header : HeaderFormed f
  pub area : set_words * (counts_of f).terms ≤ m
  pub formed : WellFormed (bundle_of f)
  pub steps : (k : ℕ) → Number (length (bundle_of f).steps) k → StepHolds (bundle_of f) k
  pub claim : LastIsClaim (bundle_of f)

-- Demand 2, for the checker: exactly these are accepted, and the answer has the claim.
abbrev pub AcceptedExactly : Type 0
AcceptedExactly =
    (f : List ℕ) (m : ℕ) (a : Acceptance) → (judge f m ≡ Accepted a) ↔ (Acceptable f m × (a ≡ acceptance (bundle_of f)))

-- Demand 3, its first half: accepted, both sides of the claim have equal value in every finite world, under every valuation.
abbrev pub AcceptedSound : Type 0
AcceptedSound = (f : List ℕ) (m : ℕ) (a : Acceptance) → judge f m ≡ Accepted a → EqualValues (bundle_of f) a.left a.right

-- An accepted claim is closed, both sides (Req 05). So "under every valuation" above says no more than "in every world" of it.
abbrev pub AcceptedClosed : Type 0
AcceptedClosed =
    (f : List ℕ) (m : ℕ) (a : Acceptance) → judge f m ≡ Accepted a → Closed (tree (bundle_of f) a.left) × Closed (tree (bundle_of f) a.right)

-- The answer gives the number of pairs of the last REFL walked of all steps, 0 if none was; it is at most 4,096.
abbrev pub AcceptedPairs : Type 0
AcceptedPairs =
    (f : List ℕ) (m : ℕ) (a : Acceptance) → judge f m ≡ Accepted a
    → LastWalked (bundle_of f) (length (bundle_of f).steps) a.pairs × (a.pairs ≤ pair_limit)

-- In an accepted file different numbers stand for different terms.
abbrev pub AcceptedDistinct : Type 0
AcceptedDistinct = (f : List ℕ) (m : ℕ) (a : Acceptance) → judge f m ≡ Accepted a → Distinct (bundle_of f)

-- bit k of a word, counted from 0
abbrev pub bit : ℕ → ℕ → ℕ
bit w k = w / 2 ^ k % 2

-- The checker is lent 64-bit words, at least `set_words` for each of T terms; when it accepts, variable v is bit (v - 1) % 64 of word (v - 1) / 64 of a
-- term's words, which is set exactly where v is free in the term, and the rest is zero.
pub record FreeSetsLeft (b : Bundle) (m : ℕ) (area : List ℕ) : Type 0 where
  pub long : length area ≡ m
  pub words : (j : ℕ) → get_or area j 0 < 2 ^ 64
  pub exact : (i v : ℕ) → Number (length b.terms) i → Number (64 * set_words) v
      → (bit (get_or area (set_words * (i - 1) + (v - 1) / 64) 0) ((v - 1) % 64) ≡ 1) ↔ Free v (tree b i)
  pub rest : (j : ℕ) → set_words * length b.terms ≤ j → get_or area j 0 ≡ 0

-- What is left in the m words: accepted, the free sets; refused, every area lent for writing is all zeros.
pub record LeftInArea (f : List ℕ) (m : ℕ) : Type 0 where
  pub accepted : (a : Acceptance) → judge f m ≡ Accepted a → FreeSetsLeft (bundle_of f) m (area_after f m)
  pub refused : (n i : ℕ) → judge f m ≡ Refused n i → area_after f m ≡ replicate m 0

abbrev pub AreaLeft : Type 0
AreaLeft = (f : List ℕ) (m : ℕ) → LeftInArea f m
