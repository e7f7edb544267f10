-- What the numbers say that the exported calls answer, each under the name of its type in specs/Exported.antt.
--     same_parts, tells_exactly     n · 2^32 + i, with i below 2^32, is so of one n and one i
--     tells_one                     each number from 2^32 on tells of exactly one number and record
--     check_number                  what `nezkaldo_check` answers
--     file_short                    a file that is written has at most 58,916 bytes
--     written_word                  the number of a file that is written is its length
--     expand_number                 what the writer's calls answer
--     read_number                   what `nezkaldo_read` answers
--     expand_fits, read_fits        both answers fit a word of 64 bits
--     leaves_exactly                what such a call leaves is said by the four clauses of its contract, and by no more
--     exported_zeros, exported_read_zeros     what they leave in the areas besides the file or job: zeros
--     exported_closed               an accepted claim is closed
--     exported_demand_three         demand 3 over these numbers
--     exported_read_expanded        the three calls in a row
use Prim.Native.Nat.{ℕ, ◌+◌, ◌*◌, ◌/◌, ◌%◌, ◌≤◌, ◌<◌}
use mathlib.Core.Path.{◌≡◌, refl, sym, ap, ◌∙◌, subst}
use mathlib.Core.Logic.{◌↔◌}
use mathlib.Core.List.{List}
use native.Mathlib.Omega.{arith}
use native.Mathlib.Nat.{mod-lt, div-add-mod}
use lib.ListN.{length, take}
use Rattle.bundle.specs.Limits.{limits, header_words, bytes_of}
use Rattle.bundle.specs.File.{bundle_of}
use Rattle.judgement.specs.declared.Acceptance.{Acceptance}
use Rattle.judgement.specs.Answer.{Answer, Accepted, Refused}
use Rattle.judgement.specs.Judge.{judge}
use Rattle.judgement.proofs.Sizes.{last_number, refused_small}
use Rattle.judgement.proofs.Accepting.{refused_where}
use Rattle.judgement.proofs.Demands.{refused_exactly, accepted_exactly, accepted_sound, accepted_closed, accepted_pairs}
use Rattle.expansion.specs.declared.Names.{Names}
use Rattle.expansion.specs.Answer.{Answer as Reply, Written, Refused as Denied}
use Rattle.expansion.specs.Visit.{expanded}
use Rattle.expansion.specs.File.{file_of}
use Rattle.expansion.specs.Expansion.{Outcome, expansion}
use Rattle.expansion.specs.Demands.{LongEnough, ZerosLeft, WrittenWell}
use Rattle.expansion.proofs.JobSizes.{refused_job_small}
use Rattle.expansion.proofs.JobChecks.{job_exactly, job_answer, job_room, refused_job_where}
use Rattle.expansion.proofs.Demands.{refused_job_exactly, written_exactly, areas_left, expansion_right}
use Rattle.reading.specs.Reading.{reading}
use Rattle.reading.specs.Demands.{ReadWell, RuleExpanded}
use Rattle.reading.proofs.Demands.{read_exactly, refused_exactly as refused-text-exactly, read_formed, read_expanded, areas_left as read-areas-left}
use Rattle.reader.proofs.ReadSizes.{refused_reading_small, job_short}
use Rattle.nezkaldo.specs.Packed.{packed, packed_reply}
use Rattle.nezkaldo.specs.Exported.{Tells, TellsOne, CheckSays, CheckNumber, ExpandSays, ExpandNumber, Leaves, LeavesExactly, Zeros, ExportedZeros}
use Rattle.nezkaldo.specs.Exported.{ReadSays, ReadNumber, ExportedReadZeros, ExportedEqual, ExportedClosed, ExportedAccepted, ExportedDemandThree, ExportedReadExpanded}

-- ---- number · 2^32 + record

same_parts : (n i k j : ℕ) → i < 4294967296 → j < 4294967296 → 4294967296 * n + i ≡ 4294967296 * k + j → (n ≡ k) × (i ≡ j)
same_parts n i k j small small' e = let same : n ≡ k = omega arith in (same, omega arith)

tells_exactly : (k j n i : ℕ) → 1 ≤ k → j < 4294967296 → Tells (4294967296 * k + j) n i ↔ ((n ≡ k) × (i ≡ j))
tells_exactly k j n i some small = (λ t. same_parts n i k j t.«record» small (sym t.sum), λ h. omega arith)

pub tells_one : TellsOne
tells_one p l =
    let n : ℕ = p / 4294967296 in
    let i : ℕ = p % 4294967296 in
    let small : i < 4294967296 = mod-lt p (omega arith) in
    let sum : 4294967296 * n + i ≡ p = div-add-mod p 4294967296 in
    (n, i, omega arith, λ n' i' t. same_parts n' i' n i t.«record» small (sym t.sum ∙ sym sum))

-- ---- check

pub check_number : CheckNumber
unfolding packed
check_number f m = go (judge f m) refl
  where
    go : (a : Answer) → judge f m ≡ a → CheckSays f m (packed a)
    go (Accepted a) e =
        let (last, few) = accepted_pairs f m a e in
        record {
          accepted = (λ l. ((accepted_exactly f m a).0 e).0, λ h. omega (arith, few));
          pairs = λ l. (last, few);
          refused = λ n i. (
            λ t. absurd (omega (arith, t.number, t.sum, few)),
            λ h.
                let q : judge f m ≡ Refused n i = (refused_exactly f m n i).1 h in
                let z : ◌≡◌ {A = ℕ} 0 1 = cc in
                omega arith,
          );
        }
    go (Refused k j) e =
        let some : 1 ≤ k = ((refused_where f m k j).0 e).0 in
        let small = refused_small f m k j e in
        record {
          accepted = (
            λ l. absurd (omega arith),
            λ h.
                let q : judge f m ≡ Accepted _ = (accepted_exactly f m _).1 (h, refl) in
                let z : ◌≡◌ {A = ℕ} 0 1 = cc in
                omega arith,
          );
          pairs = λ l. absurd (omega arith);
          refused = λ n i. (
            λ t. let same = (tells_exactly k j n i some (omega arith)).0 t in (refused_exactly f m n i).0 (cc),
            λ h. let q = (refused_exactly f m n i).1 h in (tells_exactly k j n i some (omega arith)).1 (cc, cc),
          );
        }

-- ---- expand

-- It is as long as in the shortest output that is long enough.
file_short : (names : Names) (f : List ℕ) (out words sets n : ℕ) → (expansion names f out words sets).answer ≡ Written n → n ≤ bytes_of limits
unfolding header_words
file_short names f out words sets n e =
    let (formed, closed, fits, long) = (written_exactly names f out words sets).0 (n, e) in
    let shortest : LongEnough (bytes_of limits) words sets = record { output = omega arith; scratch = long.scratch; stack = long.stack } in
    let room = job_room names f (bytes_of limits) words sets ((job_exactly names f (bytes_of limits) words sets).1 (formed, closed, fits, shortest)) in
    let told = job_answer names f out words sets ((job_exactly names f out words sets).1 (formed, closed, fits, long)) in
    let same : n ≡ length (file_of (expanded names (bundle_of f))) = cc in
    omega arith

written_word : (n : ℕ) → packed_reply (Written n) ≡ n
unfolding packed_reply
written_word n = refl

pub expand_number : ExpandNumber
unfolding packed_reply header_words
expand_number names f out words sets = go (expansion names f out words sets).answer refl
  where
    go : (a : Reply) → (expansion names f out words sets).answer ≡ a → ExpandSays names f out words sets (packed_reply a)
    go (Written p) e =
        let short : p ≤ bytes_of limits = file_short names f out words sets p e in
        record {
          written = (λ l. (written_exactly names f out words sets).0 (p, e), λ h. omega (arith, written_word p));
          long = λ l. (e, short);
          refused = λ n i. (
            λ t. absurd (omega (arith, t.number, t.sum)),
            λ h.
                let q : (expansion names f out words sets).answer ≡ Denied n i = (refused_job_exactly names f out words sets n i).1 h in
                let z : ◌≡◌ {A = ℕ} 0 1 = cc in
                omega arith,
          );
        }
    go (Denied k j) e =
        let some : 1 ≤ k = ((refused_job_where names f out words sets k j).0 e).0 in
        let small = refused_job_small names f out words sets k j e in
        record {
          written = (
            λ l. absurd (omega arith),
            λ h.
                let (n, q) = (written_exactly names f out words sets).1 h in
                let z : ◌≡◌ {A = ℕ} 0 1 = cc in
                omega arith,
          );
          long = λ l. absurd (omega arith);
          refused = λ n i. (
            λ t. let same = (tells_exactly k j n i some (omega arith)).0 t in (refused_job_exactly names f out words sets n i).0 (cc),
            λ h. let q = (refused_job_exactly names f out words sets n i).1 h in (tells_exactly k j n i some (omega arith)).1 (cc, cc),
          );
        }

-- ---- read

pub read_number : ReadNumber
unfolding packed_reply header_words
read_number f text out words sets short = go (reading f text out words sets).answer refl
  where
    go : (a : Reply) → (reading f text out words sets).answer ≡ a → ReadSays f text out words sets (packed_reply a)
    go (Written p) e =
        let low : p ≤ bytes_of limits = job_short f text out words sets p e in
        record {
          written = (λ l. (read_exactly f text out words sets).0 (p, e), λ h. omega (arith, written_word p));
          long = λ l. (e, low);
          refused = λ n i. (
            λ t. absurd (omega (arith, t.number, t.sum)),
            λ h.
                let q : (reading f text out words sets).answer ≡ Denied n i = (refused-text-exactly f text out words sets n i).1 h in
                let z : ◌≡◌ {A = ℕ} 0 1 = cc in
                omega arith,
          );
        }
    go (Denied k j) e =
        let small = refused_reading_small f text out words sets k j e in
        let some : 1 ≤ k = small.0 in
        let low : j < 4294967296 = omega (arith, small.2 4294967295 (omega arith) (omega arith)) in
        record {
          written = (
            λ l. absurd (omega arith),
            λ h.
                let (n, q) = (read_exactly f text out words sets).1 h in
                let z : ◌≡◌ {A = ℕ} 0 1 = cc in
                omega arith,
          );
          long = λ l. absurd (omega arith);
          refused = λ n i. (
            λ t. let same = (tells_exactly k j n i some low).0 t in (refused-text-exactly f text out words sets n i).0 (cc),
            λ h. let q = (refused-text-exactly f text out words sets n i).1 h in (tells_exactly k j n i some low).1 (cc, cc),
          );
        }

-- ---- both answers fit a word of 64 bits

fits_word : (a : Reply) → ((n : ℕ) → a ≡ Written n → n ≤ bytes_of limits) → ((n i : ℕ) → a ≡ Denied n i → (n ≤ last_number) × (i ≤ 9223372036854775807))
    → packed_reply a ≤ 18446744073709551615
unfolding packed_reply header_words
fits_word (Written n) short small = omega (arith, short n refl, written_word n)
fits_word (Denied n i) short small = omega (arith, (small n i refl).0, (small n i refl).1)

pub expand_fits : (names : Names) (f : List ℕ) (out words sets : ℕ) → packed_reply (expansion names f out words sets).answer ≤ 18446744073709551615
unfolding header_words
expand_fits names f out words sets =
    fits_word (expansion names f out words sets).answer (λ n e. omega (arith, file_short names f out words sets n e))
    (λ n i e. let s = refused_job_small names f out words sets n i e in (omega (arith, s.0), omega (arith, s.1)))

-- a text is shorter than 2^63 bytes
pub read_fits : (f text : List ℕ) (out words sets : ℕ) → length text ≤ 9223372036854775807
    → packed_reply (reading f text out words sets).answer ≤ 18446744073709551615
unfolding header_words
read_fits f text out words sets l =
    fits_word (reading f text out words sets).answer (λ n e. omega (arith, job_short f text out words sets n e))
    (λ n i e. let s = refused_reading_small f text out words sets n i e in (s.1, s.2 9223372036854775807 (omega arith) l))

pub leaves_exactly : LeavesExactly
leaves_exactly o r out words sets = (
  λ h. (h.answer, h.output, h.scratch, h.stack),
  λ h. record { answer = h.0; output = h.1; scratch = h.2; stack = h.3 },
)

-- by the answer of the outcome
zeros_by : (o : Outcome) (out words sets out' words' sets' : List ℕ) (r : ℕ) → ZerosLeft (length out) (length words) (length sets) o
    → ((n : ℕ) → o.answer ≡ Written n → n < 4294967296) → ((n i : ℕ) → o.answer ≡ Denied n i → 1 ≤ n)
    → Leaves o r out' words' sets' → Zeros out words sets out' words' sets' r
unfolding packed_reply
zeros_by o out words sets out' words' sets' r zeros short some left = go o.answer refl
  where
    go : (a : Reply) → o.answer ≡ a → Zeros out words sets out' words' sets' r
    go (Written n) e =
        let same : r ≡ n = left.answer ∙ ap packed_reply e ∙ written_word n in
        let low : n < 4294967296 = short n e in
        record {
          scratch = left.scratch ∙ zeros.scratch;
          stack = left.stack ∙ zeros.stack;
          refused = λ l. absurd (omega (arith, same, low, l));
          written = λ l. rw (same, left.output) (zeros.written n e);
        }
    go (Denied n i) e =
        let same : r ≡ 4294967296 * n + i = left.answer ∙ ap packed_reply e in
        let one : 1 ≤ n = some n i e in
        record {
          scratch = left.scratch ∙ zeros.scratch;
          stack = left.stack ∙ zeros.stack;
          refused = λ l. left.output ∙ zeros.refused n i e;
          written = λ l. absurd (omega (arith, same, one, l));
        }

pub exported_zeros : ExportedZeros
unfolding header_words
exported_zeros names job out words sets out' words' sets' r =
    zeros_by (expansion names job (length out) (length words) (length sets)) out words sets out' words' sets' r (areas_left names job _ _ _)
    (λ n e. omega (arith, file_short names job _ _ _ n e)) (λ n i e. ((refused_job_where names job _ _ _ n i).0 e).0)

pub exported_read_zeros : ExportedReadZeros
unfolding header_words
exported_read_zeros f text out words sets out' words' sets' r =
    zeros_by (reading f text (length out) (length words) (length sets)) out words sets out' words' sets' r (read-areas-left f text _ _ _)
    (λ n e. omega (arith, job_short f text _ _ _ n e)) (λ n i e. (refused_reading_small f text _ _ _ n i e).0)

-- ---- demand 3

exported_equal : ExportedEqual
exported_equal file free r e low =
    accepted_sound file _ _ ((accepted_exactly file (length free) _).1 ((check_number file _).accepted.0 (omega (arith, e, low)), refl))

pub exported_closed : ExportedClosed
exported_closed file free r e low =
    accepted_closed file _ _ ((accepted_exactly file (length free) _).1 ((check_number file _).accepted.0 (omega (arith, e, low)), refl))

-- an accepted file's number is that of its pairs
accepted_low : (f : List ℕ) (m : ℕ) (s : Acceptance) (a : ℕ) → judge f m ≡ Accepted s → a ≡ packed (judge f m) → a < 4294967296
unfolding packed
accepted_low f m s a q e = let is : a ≡ s.pairs = e ∙ ap packed q in omega (arith, is, (accepted_pairs f m s q).1)

exported_accepted : ExportedAccepted
unfolding packed packed_reply
exported_accepted names job out words sets out' words' sets' r bytes formed closed fits long left =
    let w = expansion_right names job _ _ _ bytes formed closed fits long in
    let says : ExpandSays names job (length out) (length words) (length sets) r = rw left.answer (expand_number names job _ _ _) in
    let same : r ≡ w.0 = left.answer ∙ ap packed_reply w.1 in
    let well : WrittenWell job (take r out') = rw (same, left.output) w.2 in
    (says.written.1 (formed, closed, fits, long), λ free a room e. accepted_low _ _ _ a (well.accepted _ room) e, well)

pub exported_demand_three : ExportedDemandThree
exported_demand_three = (exported_equal, exported_accepted)

-- ---- the three calls in a row

-- an answer less than 2^32 is the length of a job
read_written : (f text : List ℕ) (out words sets r : ℕ) → r ≡ packed_reply (reading f text out words sets).answer → r < 4294967296
    → (reading f text out words sets).answer ≡ Written r
unfolding packed_reply
read_written f text out words sets r e l = go (reading f text out words sets).answer refl
  where
    go : (a : Reply) → (reading f text out words sets).answer ≡ a → (reading f text out words sets).answer ≡ Written r
    go (Written n) is = let same : r ≡ n = e ∙ ap packed_reply is in is ∙ ap Written (sym same)
    go (Denied n i) is =
        let same : r ≡ 4294967296 * n + i = e ∙ ap packed_reply is in
        absurd (omega (arith, same, l, (refused_reading_small f text out words sets n i is).0))

pub exported_read_expanded : ExportedReadExpanded
unfolding packed packed_reply header_words
exported_read_expanded f text out words sets out₁ words₁ sets₁ r bytes left low =
    let answers = read_written f text _ _ _ r left.answer low in
    let (φ, spells, well) = read_formed f text _ _ _ r bytes answers in
    let job : List ℕ = take r out₁ in
    let is : job ≡ take r (reading f text (length out) (length words) (length sets)).out = ap (take r) left.output in (
      φ,
      spells,
      subst (ReadWell f φ) (sym is) well,
      λ names out₂ words₂ sets₂ out₃ words₃ sets₃ q closed fits long after.
          let w = read_expanded names f text _ _ _ r bytes answers φ spells closed job is fits (length out₂) (length words₂) (length sets₂) long in
          let same : q ≡ w.0 = after.answer ∙ ap packed_reply w.1 in
          let right : RuleExpanded f φ (take q out₃) = rw (same, after.output) w.2 in
          let small : q < 4294967296 = omega (arith, same, file_short names job _ _ _ w.0 w.1) in
          (small, (λ free a room e. accepted_low _ _ _ a (right.accepted _ room) e), right),
    )
