-- The answer to a text that was read in one pass, or after the pass was given up. D is the bundle of the declarations.
--     passed_settled                nothing refuses the text
--     passed_held                   its records are in the scratch
--     declared_again, stored_again  the pass was given up: the areas are as long as they were
use Prim.Native.Nat.{ℕ}
use native.Mathlib.Omega.{arith}
use mathlib.Core.Path.{◌≡◌, refl, ap, ◌∙◌}
use mathlib.Core.List.{List}
use lib.ListN.{length}
use borrow.Author.Tests.{eq-eqb}
use Rattle.std.proofs.lemmas.Bool.{and_from}
use Rattle.bundle.specs.Bundle.{Bundle}
use Rattle.logic.specs.Symbols.{truth_sort}
use Rattle.expansion.specs.Answer.{Answer}
use Rattle.expansion.specs.Placed.{PlacedTerm}
use Rattle.expansion.specs.AreasAfter.{Stored}
use Rattle.grammar.proofs.NamesExact.{resolved_exactly}
use Rattle.reading.specs.Called.{known_in}
use Rattle.reading.specs.Local.{head_sort, fine, plain}
use Rattle.reading.specs.Records.{file}
use Rattle.reading.specs.Answers.{filed_for}
use Rattle.reading.specs.Reading.{reading}
use Rattle.pass_formulas.specs.PassGives.{TextRead}
use Rattle.reader.specs.Storing.{Declared, TextStored}
use Rattle.reader.proofs.Answering.{Settled, Held}

-- B₀ is in the scratch before the pass, B after it
module _ {D : Bundle} {text : List ℕ} {B₀ B : Bundle} {t : ℕ} (copied : B₀ ≡ D) (read : TextRead D text B₀ B t) where
  pub passed_settled : Settled D text read.formula
  passed_settled = record {
    resolves = (resolved_exactly (known_in D) text read.formula).1 (read.reads, read.known);
    bool = and_from (fine D read.formula) _ read.sorted (eq-eqb (head_sort D read.formula) truth_sort read.truth);
  }

  pub passed_held : Held D read.formula B t
  passed_held =
      let filed : file (plain D read.formula) B₀ ≡ filed_for D read.formula = ap (file (plain D read.formula)) copied in
      record { bundle = read.bundle ∙ ap (λ (p : PlacedTerm). p.bundle) filed; term = read.term ∙ ap (λ (p : PlacedTerm). p.term) filed }

-- the areas out₁ and words₁ are as long as out and words
pub declared_again : {f : List ℕ} {out words out₁ words₁ sets : ℕ} {D : Bundle} → out₁ ≡ out → words₁ ≡ words → Declared f out words sets D
    → Declared f out₁ words₁ sets D
declared_again lo lw d = record { none = rw (lo, lw) d.none; bundle = d.bundle }

pub stored_again : (text : List ℕ) {f out words sets out₁ words₁ out₂ words₂ : List ℕ} {D : Bundle} {r : Answer} → length out₁ ≡ length out
    → length words₁ ≡ length words → Declared f (length out) (length words) (length sets) D → TextStored D text out₁ words₁ out₂ words₂ r
    → Stored (reading f text (length out) (length words) (length sets)) out words sets out₂ words₂ sets r
stored_again text {f} {sets = sets} lo lw d stored =
    let s = rw (lo, lw) at (stored f sets (declared_again lo lw d)) in
    record {
      answer = s.answer;
      output = s.output ∙ lo;
      scratch = s.scratch ∙ lw;
      stack = refl;
      file = λ n e. (omega (arith, (s.file n e).0, lo), (s.file n e).1);
    }
