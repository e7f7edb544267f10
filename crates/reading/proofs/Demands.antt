-- THE DEMANDS on the reader.
--     written_so                       what is known where a job is written
--     read_exactly                     a text is read exactly when it is in the grammar, its names declared, well sorted, Bool, and its job fits
--     one_reading                      it has one reading
--     refused_exactly                  where each refusal is given
--     read_formed                      the job that is written is well formed, and its left stands for the formula's term
--     areas_left                       what is left in the areas besides the job: zeros
--     read_expanded                    the three calls in a row: what is read, expanded and checked
use Prim.Native.Nat.{ℕ, zero, suc, ◌-◌, ◌≤◌}
use native.Mathlib.Omega.{arith}
use mathlib.Core.Path.{◌≡◌, refl, sym, ap, ◌∙◌, subst}
use mathlib.Core.Logic.{◌↔◌, ◌⊎◌, inl, inr}
use mathlib.Core.Bool.{Bool, true, false, false≢true}
use mathlib.Core.List.{List}
use lib.ListN.{length, take, replicate}
use lib.Seq.{drop-append_seam}
use Rattle.bundle.specs.Bundle.{Bundle}
use Rattle.bundle.specs.Limits.{header_words}
use Rattle.bundle.specs.File.{bundle_of}
use Rattle.logic.specs.Tests.{Fault}
use Rattle.logic.specs.Tests.{fault}
use Rattle.logic.specs.Terms.{tree}
use Rattle.logic.specs.Free.{Closed}
use Rattle.logic.proofs.Kept.{tree_kept}
use Rattle.judgement.specs.Order.{FirstFailing}
use Rattle.judgement.proofs.Order.{first_fails, fails_first, failing_number}
use Rattle.expansion.specs.Answer.{Written, Refused}
use Rattle.expansion.specs.File.{file_of}
use Rattle.expansion.specs.Expansion.{expansion}
use Rattle.expansion.specs.Demands.{Bytes, LongEnough, ZerosLeft}
use Rattle.expansion.proofs.Files.{file_length, file_bytes, file_cut}
use Rattle.expansion.proofs.Demands.{expansion_right}
use Rattle.grammar.specs.Grammar.{Formula}
use Rattle.grammar.proofs.Exact.{one_reading as one-spelling}
use Rattle.reading.specs.Reader.{Answer, job, refused, job_of, read_text}
use Rattle.reading.specs.Answers.{ReadAs, filed_for, FitsLimits, Answered, unread, unknown, missorted, full, read}
use Rattle.reading.specs.Reading.{declarations_fault, answer_after, leaves, reading}
use Rattle.reading.specs.ReadOrder.{declaration_checks}
use Rattle.reading.specs.Demands.{DeclarationsFormed, ReadExactly, OneReading, RefusedExactly, ReadWell, ReadFormed, AreasLeft, ReadExpanded}
use Rattle.reading.proofs.Answers.{answers_exactly}
use Rattle.reading.proofs.ReadOrder.{declarations_find, declarations_exactly}
use Rattle.reading.proofs.Jobs.{job_well}

-- ---- answers and what they leave

is_job : Answer → Bool
is_job (job j) = true
is_job (refused n i) = false

job_same : {j k : Bundle} → job j ≡ job k → j ≡ k
job_same e = cc

module _ (out words sets : ℕ) where
  leaves_job : (a : Answer) (n : ℕ) → (leaves a out words sets).answer ≡ Written n → (j : Bundle) × (a ≡ job j) × (length (file_of j) ≡ n)
  unfolding leaves
  leaves_job (job j) n e = (j, refl, cc)
  leaves_job (refused m i) n e = let z : ◌≡◌ {A = ℕ} 0 1 = cc in absurd (omega arith)

  leaves_refused : (a : Answer) (n i : ℕ) → ((leaves a out words sets).answer ≡ Refused n i) ↔ (a ≡ refused n i)
  unfolding leaves
  leaves_refused (job j) n i = (λ e. let z : ◌≡◌ {A = ℕ} 0 1 = cc in absurd (omega arith), λ e. let z : ◌≡◌ {A = ℕ} 0 1 = cc in absurd (omega arith))
  leaves_refused (refused m k) n i = (λ e. cc, λ e. cc)

after_job : (k i : ℕ) (a : Answer) (j : Bundle) → answer_after k i a ≡ job j → (k ≡ 0) × (a ≡ job j)
unfolding answer_after is_job
after_job zero i a j e = (refl, e)
after_job (suc k) i a j e = absurd (false≢true (ap is_job e))

after_none : (k i : ℕ) (a : Answer) → k ≡ 0 → answer_after k i a ≡ a
unfolding answer_after
after_none zero i a e = refl
after_none (suc k) i a e = absurd (omega arith)

after_refused : (k i : ℕ) (a : Answer) (n m : ℕ) → answer_after k i a ≡ refused n m → ((1 ≤ k) × (k ≡ n) × (i ≡ m)) ⊎ ((k ≡ 0) × (a ≡ refused n m))
unfolding answer_after
after_refused zero i a n m e = inr (refl, e)
after_refused (suc k) i a n m e = inl (omega arith, cc, cc)

after_some : (k i : ℕ) (a : Answer) → 1 ≤ k → answer_after k i a ≡ refused k i
unfolding answer_after
after_some zero i a l = absurd (omega arith)
after_some (suc k) i a l = refl

-- ---- a job that is answered

job_read : (b : Bundle) (text : List ℕ) (a : Answer) → Answered b text a → (j : Bundle) → a ≡ job j
    → (φ : Formula) × ReadAs b text φ × FitsLimits b φ × (j ≡ job_of (filed_for b φ))
unfolding is_job
job_read b text a (unread u k) j e = absurd (false≢true (ap is_job e))
job_read b text a (unknown u) j e = absurd (false≢true (ap is_job e))
job_read b text a (missorted φ n h) j e = absurd (false≢true (ap is_job e))
job_read b text a (full φ r h) j e = absurd (false≢true (ap is_job e))
job_read b text a (read φ r fit) j e = (φ, r, fit, sym (job_same e))

module _ (f text : List ℕ) (out words sets : ℕ) where
  abbrev d : Fault
  d = declarations_fault f out words sets

  abbrev answer : Answer
  answer = answer_after d.number d.«record» (read_text (bundle_of f) text)

  -- all that is known where a job is written
  record ReadSo (n : ℕ) : Type 0 where
    formed : DeclarationsFormed f
    long : LongEnough out words sets
    formula : Formula
    reads : ReadAs (bundle_of f) text formula
    fits : FitsLimits (bundle_of f) formula
    answers : answer ≡ job (job_of (filed_for (bundle_of f) formula))
    size : length (file_of (job_of (filed_for (bundle_of f) formula))) ≡ n

  written_so : (n : ℕ) → (reading f text out words sets).answer ≡ Written n → ReadSo n
  unfolding reading
  written_so n e =
      let (j, is, size) = leaves_job out words sets answer n e in
      let (none, reads) = after_job d.number d.«record» (read_text (bundle_of f) text) j is in
      let (formed, long) = (declarations_exactly f out words sets).0 none in
      let (φ, r, fit, same) = job_read (bundle_of f) text (job j) ((answers_exactly (bundle_of f) text (job j)).0 reads) j refl in
      record {
        formed = formed;
        long = long;
        formula = φ;
        reads = r;
        fits = fit;
        answers = is ∙ ap job same;
        size = ap (λ (k : Bundle). length (file_of k)) (sym same) ∙ size;
      }

  read_back : DeclarationsFormed f × LongEnough out words sets × ((φ : Formula) × ReadAs (bundle_of f) text φ × FitsLimits (bundle_of f) φ)
      → (n : ℕ) × ((reading f text out words sets).answer ≡ Written n)
  unfolding reading leaves
  read_back (formed, long, (φ, r, fit)) =
      let none = (declarations_exactly f out words sets).1 (formed, long) in
      let reads = (answers_exactly (bundle_of f) text _).1 (read φ r fit) in
      (_, ap (λ (a : Answer). (leaves a out words sets).answer) (after_none d.number d.«record» (read_text (bundle_of f) text) none ∙ reads))

  refused_there : (n i : ℕ) → (reading f text out words sets).answer ≡ Refused n i
      → FirstFailing (declaration_checks f out words sets) n i
      ⊎ (DeclarationsFormed f × LongEnough out words sets × Answered (bundle_of f) text (refused n i))
  unfolding reading
  refused_there n i e = go (after_refused d.number d.«record» (read_text (bundle_of f) text) n i ((leaves_refused out words sets answer n i).0 e))
    where
      go : ((1 ≤ d.number) × (d.number ≡ n) × (d.«record» ≡ i)) ⊎ ((d.number ≡ 0) × (read_text (bundle_of f) text ≡ refused n i))
          → FirstFailing (declaration_checks f out words sets) n i
          ⊎ (DeclarationsFormed f × LongEnough out words sets × Answered (bundle_of f) text (refused n i))
      go (inl (some, number, place)) =
          inl (fails_first (declaration_checks f out words sets) n i (omega (arith, some, number))
          ((declarations_find f out words sets).first ∙ (λ k. record { number = number k; «record» = place k })))
      go (inr (none, reads)) =
          let (formed, long) = (declarations_exactly f out words sets).0 none in
          inr (formed, long, (answers_exactly (bundle_of f) text (refused n i)).0 reads)

  refused_back : (n i : ℕ)
      → FirstFailing (declaration_checks f out words sets) n i
      ⊎ (DeclarationsFormed f × LongEnough out words sets × Answered (bundle_of f) text (refused n i))
      → (reading f text out words sets).answer ≡ Refused n i
  unfolding reading
  refused_back n i (inl h) =
      let finds = declarations_find f out words sets in
      let is : d ≡ fault n i = sym finds.first ∙ first_fails (declaration_checks f out words sets) n i h in
      (leaves_refused out words sets answer n i).1
      (ap (λ (r : Fault). answer_after r.number r.«record» (read_text (bundle_of f) text)) is
      ∙ after_some n i (read_text (bundle_of f) text) (failing_number finds h))
  refused_back n i (inr (formed, long, means)) =
      (leaves_refused out words sets answer n i).1
      (after_none d.number d.«record» (read_text (bundle_of f) text) ((declarations_exactly f out words sets).1 (formed, long))
      ∙ (answers_exactly (bundle_of f) text (refused n i)).1 means)

pub read_exactly : ReadExactly
read_exactly f text out words sets = (
  λ (n, e). let s : ReadSo f text out words sets n = written_so f text out words sets n e in (s.formed, s.long, (s.formula, s.reads, s.fits)),
  read_back f text out words sets,
)

pub one_reading : OneReading
one_reading b text φ ψ r s = one-spelling text φ ψ r.named.reads s.named.reads

pub refused_exactly : RefusedExactly
refused_exactly f text out words sets n i = (refused_there f text out words sets n i, refused_back f text out words sets n i)

-- the output up to the answered length is the job's file, and so a string of bytes
module _ (f text : List ℕ) (out words sets n : ℕ) where
  out_is : (s : ReadSo f text out words sets n) → take n (reading f text out words sets).out ≡ file_of (job_of (filed_for (bundle_of f) s.formula))
  unfolding reading leaves
  out_is s =
      let j : Bundle = job_of (filed_for (bundle_of f) s.formula) in
      ap (λ (a : Answer). take n (leaves a out words sets).out) s.answers
      ∙ ap (λ (k : ℕ). take k (leaves (job j) out words sets).out) (sym s.size)
      ∙ file_cut j (replicate (out - length (file_of j)) 0)

  read_bytes : (reading f text out words sets).answer ≡ Written n → Bytes (take n (reading f text out words sets).out)
  read_bytes e = let s = written_so f text out words sets n e in subst Bytes (sym (out_is s)) (file_bytes (job_of (filed_for (bundle_of f) s.formula)))

pub read_formed : ReadFormed
read_formed f text out words sets n bytes e =
    let s : ReadSo f text out words sets n = written_so f text out words sets n e in (
      s.formula,
      s.reads,
      subst (ReadWell f s.formula) (sym (out_is f text out words sets n s)) (job_well f text s.formula s.formed s.reads bytes s.fits),
    )

-- ---- what is left

zeros_as : (a : Answer) (out words sets : ℕ) → ((j : Bundle) → a ≡ job j → length (file_of j) ≤ out) → ZerosLeft out words sets (leaves a out words sets)
unfolding leaves
zeros_as (job j) out words sets room = record {
  scratch = refl;
  stack = refl;
  refused = λ n i e. cc;
  written = λ n e.
      let same : length (file_of j) ≡ n = cc in
      rw (← same) (room j refl, drop-append_seam (file_of j) (replicate (out - length (file_of j)) 0));
}
zeros_as (refused m k) out words sets room = record {
  scratch = refl;
  stack = refl;
  refused = λ n i e. refl;
  written = λ n e. (let z : ◌≡◌ {A = ℕ} 0 1 = cc in omega arith, cc);
}

-- the job is no longer than the output
job_room : (b : Bundle) (φ : Formula) (out words sets : ℕ) → FitsLimits b φ → LongEnough out words sets → length (file_of (job_of (filed_for b φ))) ≤ out
unfolding header_words
job_room b φ out words sets fit long = omega (arith, file_length (job_of (filed_for b φ)), fit, long)

pub areas_left : AreasLeft
unfolding reading leaves
areas_left f text out words sets =
    zeros_as (answer f text out words sets) out words sets
    (λ j e.
    let n : ℕ = length (file_of j) in
    let s : ReadSo f text out words sets n = written_so f text out words sets n (ap (λ (a : Answer). (leaves a out words sets).answer) e) in
    let room = job_room (bundle_of f) s.formula out words sets s.fits s.long in
    omega (arith, room, s.size))

-- ---- the three calls in a row

pub read_expanded : ReadExpanded
read_expanded names f text out words sets n bytes e φ r closed g is fits out' words' sets' long =
    let b : Bundle = bundle_of f in
    let (ψ, q, well) = read_formed f text out words sets n bytes e in
    let there : ReadWell f ψ g = subst (ReadWell f ψ) (sym is) well in
    let good : ReadWell f φ g = subst (λ (χ : Formula). ReadWell f χ g) (one_reading b text ψ φ q r) there in
    let shut : Closed (tree (bundle_of g) (bundle_of g).left) = subst Closed (sym good.left) closed in
    let job-bytes : Bytes g = subst Bytes (sym is) (read_bytes f text out words sets n e) in
    let (m, answers, right) = expansion_right names g out' words' sets' job-bytes good.formed shut fits long in
    let h : List ℕ = take m (expansion names g out' words' sets').out in
    let old : tree (bundle_of h) (bundle_of g).left ≡ tree (bundle_of g) (bundle_of g).left =
    tree_kept right.records good.formed.tables (bundle_of g).left good.formed.left.1 in (
      m,
      answers,
      record {
        accepted = right.accepted;
        left = ap (tree (bundle_of h)) right.left ∙ old ∙ good.left;
        right = right.plain;
        equal = right.equal;
      },
    )
