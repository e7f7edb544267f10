-- The answer of the expansion, as the code comes to it.
--     Begun                                   no check before the visit fails, and the job is in the scratch
--     header_formed, areas_long, tables_formed     what is known of the job and the areas where 1 to 9 do not fail
--     refused_early, refused_late             a check of 1 to 9 fails; 18, 15 or 17 does
--     visit_asks, visit_is                    what the visit to the rule asks for, and what it gives
--     version_kept                            the version after the visit
--     refused_full, written                   16 fails; no check does
--     stored_expanded                         what is left before the zeros are written
use Prim.Native.Nat.{ℕ, zero, suc, ◌≤◌, ◌<◌}
use mathlib.Core.Path.{◌≡◌, refl, sym, ap, ◌∙◌}
use mathlib.Core.Bool.{Bool, true, false, cond}
use mathlib.Core.List.{List, [], ◌∷◌, ◌++◌}
use Rattle.std.specs.Prelude.{Option}
use native.Mathlib.Omega.{arith}
use lib.ListN.{length, take}
use lib.Dec.{ltb}
use borrow.Author.Tests.{ltb-true}
use Rattle.std.proofs.lemmas.Bool.{false_from_ne_true}
use Rattle.bundle.specs.Words.{largest_word}
use Rattle.bundle.specs.Bundle.{Bundle}
use Rattle.bundle.specs.Limits.{bytes_of, Within}
use Rattle.bundle.specs.File.{bundle_of, own_counts}
use Rattle.bundle.proofs.Limits.{within_all, within_true, within_words}
use Rattle.logic.specs.Tests.{Fault}
use Rattle.logic.specs.WellFormed.{HeaderFormed, TablesFormed}
use Rattle.logic.specs.Tests.{Test, test, first_failing, fault, or_else}
use Rattle.logic.specs.Checks.{header_fault, sections_fault, tables_fault}
use Rattle.logic.proofs.Tests.{numbered, failing_none, numbers_of_lem, and_left, and_right}
use Rattle.logic.proofs.Firsts.{or_else_on, or_else_here, next_both}
use Rattle.logic.proofs.Formed.{tables_exactly}
use Rattle.logic.proofs.Headers.{tables_header}
use Rattle.expansion.specs.Answer.{Written, Refused}
use Rattle.placing.specs.declared.Visited.{Visited}
use Rattle.expansion.specs.Nodes.{Node, node_at}
use Rattle.expansion.specs.declared.Names.{Names}
use Rattle.expansion.specs.Names.{keeps}
use Rattle.expansion.specs.Visit.{visit, visited, expanded, claiming}
use Rattle.expansion.proofs.Grown.{visit_longer}
use Rattle.expansion.specs.File.{file_of}
use Rattle.expansion.specs.Expansion.{long_enough, early_tests, job_tests, derivation_fits, job_fault, writes, outcome_of, expansion}
use Rattle.expansion.specs.Demands.{LongEnough}
use Rattle.placing.specs.Outcomes.{TooMuch, VisitOutcome, Stands, TermAsks}
use Rattle.placing.proofs.OutcomeFacts.{VisitDone}
use Rattle.expansion.specs.AreasAfter.{Stored}
use Rattle.expansion.proofs.Files.{file_length}
use Rattle.expansion.proofs.AreasAfter.{stored_written}
use Rattle.writer.proofs.Rooted.{stands_at}
use Rattle.expansion.proofs.JobChecks.{long_exactly}

-- ---- tests in a row

module _ (us : List Test) where
  failing_early : (ts : List Test) → (first_failing ts ≡ 0 → ⊥) → first_failing (ts ++ us) ≡ first_failing ts
  unfolding first_failing
  failing_early [] ne = absurd (ne refl)
  failing_early (t ∷ ts) ne = go t.holds ne (failing_early ts)
    where
      go : (p : Bool) → (cond p (first_failing ts) t.number ≡ 0 → ⊥) → ((first_failing ts ≡ 0 → ⊥) → first_failing (ts ++ us) ≡ first_failing ts)
          → cond p (first_failing (ts ++ us)) t.number ≡ cond p (first_failing ts) t.number
      go true ne rest = rest ne
      go false ne rest = refl

  failing_late : (ts : List Test) → numbered ts ≡ true → first_failing ts ≡ 0 → first_failing (ts ++ us) ≡ first_failing us
  unfolding first_failing
  failing_late [] n e = refl
  failing_late (t ∷ ts) n e = go t.holds e (failing_late ts (and_right (ltb 0 t.number) (numbered ts) n))
    where
      go : (p : Bool) → cond p (first_failing ts) t.number ≡ 0 → (first_failing ts ≡ 0 → first_failing (ts ++ us) ≡ first_failing us)
          → cond p (first_failing (ts ++ us)) t.number ≡ first_failing us
      go true e rest = rest e
      go false e rest =
          let l : 0 < t.number = ltb-true 0 t.number (and_left (ltb 0 t.number) (numbered ts) n) in
          absurd (omega arith)

-- ---- the job f, and areas of these lengths

-- no check of 1 to 9 fails, nor do 18, 15, 17; B, in the scratch, is the job; left is what the code has read
pub record Begun (f : List ℕ) (out words sets : ℕ) (B : Bundle) (left : ℕ) : Type 0 where
  pub none : (tables_fault f (long_enough out words sets) 3).number ≡ 0
  pub early : first_failing (early_tests (bundle_of f)) ≡ 0
  pub copied : B ≡ bundle_of f
  pub read : left ≡ (bundle_of f).left

-- 1 to 9 do not fail
module _ (f : List ℕ) (out words sets : ℕ) (none : (tables_fault f (long_enough out words sets) 3).number ≡ 0) where
  pub header_formed : HeaderFormed f
  header_formed = (tables_header f (long_enough out words sets) 3 none).0

  pub areas_long : LongEnough out words sets
  areas_long = (long_exactly out words sets).0 (tables_header f (long_enough out words sets) 3 none).1

  pub tables_formed : TablesFormed (bundle_of f)
  unfolding tables_fault
  tables_formed = (tables_exactly (bundle_of f)).0 (next_both (fault (header_fault f (long_enough out words sets) 3) 0) (sections_fault (bundle_of f)) none).1

-- under the choice of names
module _ (names : Names) (f : List ℕ) (out words sets : ℕ) where
  refused : (m i : ℕ) → (m ≡ 0 → ⊥) → job_fault names f out words sets ≡ fault m i → Refused m i ≡ (expansion names f out words sets).answer
  unfolding expansion outcome_of
  refused m i ne e = sym (ap (λ (r : Fault). (outcome_of names (bundle_of f) r r.number out words sets).answer) e ∙ go m ne)
    where
      go : (m : ℕ) → (m ≡ 0 → ⊥) → (outcome_of names (bundle_of f) (fault m i) m out words sets).answer ≡ Refused m i
      go zero ne = absurd (ne refl)
      go (suc m) ne = refl

  pub refused_early : (r : Fault) → r ≡ tables_fault f (long_enough out words sets) 3 → (r.number ≡ 0 → ⊥)
      → Refused r.number r.«record» ≡ (expansion names f out words sets).answer
  unfolding job_fault
  refused_early r e ne = refused r.number r.«record» ne (rw (← e) (or_else_here r.number r.«record» _ ne))

  -- 1 to 9 do not fail
  module _ (none : (tables_fault f (long_enough out words sets) 3).number ≡ 0) where
    late_is : job_fault names f out words sets ≡ or_else (first_failing (job_tests names (bundle_of f))) 0 (fault 0 0)
    unfolding job_fault
    late_is = or_else_on (tables_fault f (long_enough out words sets) 3).number (tables_fault f (long_enough out words sets) 3).«record» _ none

    refused_number : (m : ℕ) → (m ≡ 0 → ⊥) → first_failing (job_tests names (bundle_of f)) ≡ m
        → Refused m 0 ≡ (expansion names f out words sets).answer
    refused_number m ne e = refused m 0 ne (late_is ∙ rw e (or_else_here m 0 (fault 0 0) ne))

    pub refused_late : (m : ℕ) → m ≡ first_failing (early_tests (bundle_of f)) → (m ≡ 0 → ⊥) → Refused m 0 ≡ (expansion names f out words sets).answer
    refused_late m e ne =
        refused_number m ne
        (failing_early (test 16 (derivation_fits names (bundle_of f)) ∷ []) (early_tests (bundle_of f)) (λ z. ne (e ∙ z)) ∙ sym e)

module _ {f : List ℕ} {out words sets : ℕ} {B : Bundle} {left : ℕ} (b : Begun f out words sets B left) where
  visit_stands : Stands B left (node_at B left)
  visit_stands =
      let known = numbers_of_lem (length (bundle_of f).terms) (bundle_of f).left (failing_none (early_tests (bundle_of f)) refl b.early).1.0 in
      rw (b.copied, b.read) (stands_at (bundle_of f) (tables_formed f out words sets b.none) (bundle_of f).left known)

  -- the stack is s
  pub visit_asks : {s : List ℕ} → length s ≡ sets → TermAsks B s 0 0 left
  visit_asks stack =
      let long = areas_long f out words sets b.none in
      record {
        pending = record { places = omega (arith, long.stack, stack); height = omega arith };
        context = omega arith;
        standing = node_at B left;
        stands = visit_stands;
      }

  module _ (names : Names) where
    -- what is kept is what the choice says of the job
    pub visit_is : {k : ℕ → Bool} → k ≡ keeps names (bundle_of f) → (B' : Bundle) (r : Option Visited)
        → ((τ : Node) → Stands B left τ → VisitOutcome (visit k τ 0 B) B' r)
        → VisitOutcome (visited names (bundle_of f)) B' r
    unfolding visited
    visit_is kept B' r o = rw (b.copied, b.read, kept) at (o (node_at B left) visit_stands)

    last_is : first_failing (job_tests names (bundle_of f)) ≡ cond (derivation_fits names (bundle_of f)) 0 16
    unfolding first_failing
    last_is = failing_late (test 16 (derivation_fits names (bundle_of f)) ∷ []) (early_tests (bundle_of f)) refl b.early

    pub refused_full : TooMuch (visited names (bundle_of f)).bundle → Refused 16 0 ≡ (expansion names f out words sets).answer
    refused_full h =
        refused_number names f out words sets b.none 16 (λ z. omega arith)
        (last_is ∙ rw (false_from_ne_true (derivation_fits names (bundle_of f)) (λ e. h (within_all (own_counts (visited names (bundle_of f)).bundle) e))))

    written : Within (own_counts (visited names (bundle_of f)).bundle)
        → expansion names f out words sets ≡ writes (expanded names (bundle_of f)) out words sets
    unfolding expansion outcome_of
    written h =
        let e : job_fault names f out words sets ≡ fault 0 0 = late_is names f out words sets b.none
        ∙ or_else_on (first_failing (job_tests names (bundle_of f))) 0 (fault 0 0) (last_is ∙ rw (within_true (own_counts (visited names (bundle_of f)).bundle) h)) in
        ap (λ (r : Fault). outcome_of names (bundle_of f) r r.number out words sets) e

-- the version after the visit is a word, as that of the job
pub version_kept : (names : Names) (b : Bundle) {B' : Bundle} → B' ≡ (visited names b).bundle → b.version ≡ 1 → B'.version ≤ largest_word
unfolding visited
version_kept names b {B'} e one =
    let kept : B'.version ≡ 1 = ap (λ (b : Bundle). b.version) e ∙ (visit_longer (keeps names b) (node_at b b.left) 0 b).version ∙ one in
    omega (arith, kept)

-- ---- what is left before the zeros are written

-- the visit was done, with the result x, and the bundle B' after it; the file was stored, n bytes long
module _ (names : Names) (f out words sets out' words' sets' : List ℕ) (lo : length out' ≡ length out) (lw : length words' ≡ length words)
    (ls : length sets' ≡ length sets) {B : Bundle} {left : ℕ} (b : Begun f (length out) (length words) (length sets) B left) {B' : Bundle}
    {x : Visited} {n : ℕ} (t : VisitDone (visited names (bundle_of f)).bundle (visited names (bundle_of f)).result (visited names (bundle_of f)).step B' x)
    (size : n ≡ bytes_of (own_counts B')) (stored : take n out' ≡ file_of (claiming B' left x.result)) where
  file_is : file_of (claiming B' left x.result) ≡ file_of (expanded names (bundle_of f))
  unfolding expanded
  file_is = λ i. file_of (claiming (t.bundle i) (b.read i) (t.result i))

  size_is : n ≡ length (file_of (expanded names (bundle_of f)))
  unfolding expanded
  size_is = size ∙ ap (λ (b : Bundle). bytes_of (own_counts b)) t.bundle ∙ sym (file_length (expanded names (bundle_of f)))

  room : n ≤ length out
  room =
      let within : Within (own_counts B') = rw t.bundle t.within in
      omega (arith, size, within_words (own_counts B') within, (areas_long f (length out) (length words) (length sets) b.none).output)

  pub stored_expanded : Stored (expansion names f (length out) (length words) (length sets)) out words sets out' words' sets' (Written n)
  stored_expanded = stored_written lo lw ls (expanded names (bundle_of f)) n (written b names t.within) size_is room (stored ∙ file_is)
