-- The job of a formula that is well sorted beside well-formed declarations.
--     declared_checked     declarations are well formed tables with nothing to be checked
--     job_filed            the formula's records: the bundle stays well formed, the number stands for the formula's term
--     deep_never_fits      THE THEOREM: what is nested too deep does not fit
--     job_well             THE THEOREM: the file of a job within the limits is a well-formed job whose left stands for the formula's term
use Prim.Native.Nat.{ℕ, ◌≤◌}
use native.Mathlib.Omega.{arith}
use mathlib.Core.Path.{◌≡◌, refl, sym, ap, ◌∙◌, subst}
use mathlib.Core.List.{List, []}
use lib.ListN.{length}
use Rattle.bundle.specs.Bundle.{Bundle}
use Rattle.bundle.specs.Limits.{limits, header_words}
use Rattle.bundle.specs.File.{bundle_by, bundle_of}
use Rattle.logic.specs.Lists.{Number}
use Rattle.logic.specs.Symbols.{truth_sort}
use Rattle.logic.specs.Terms.{tree}
use Rattle.logic.specs.WellFormed.{HeaderFormed, TablesFormed}
use Rattle.logic.specs.Longer.{Longer}
use Rattle.logic.proofs.Longer.{longer_refl, longer_trans}
use Rattle.logic.proofs.Kept.{tree_kept}
use Rattle.expansion.specs.Placed.{PlacedTerm}
use Rattle.expansion.specs.Visit.{claiming}
use Rattle.expansion.specs.File.{file_of}
use Rattle.expansion.specs.Demands.{Bytes}
use Rattle.expansion.proofs.Grown.{claiming_longer}
use Rattle.expansion.proofs.AppendedChecked.{Checked, claiming_checked}
use Rattle.expansion.proofs.SmallNumbers.{SmallBundle}
use Rattle.expansion.proofs.Files.{file_length, file_counts, file_bundle, file_whole}
use Rattle.expansion.proofs.SmallWords.{SmallPlaced, file_small}
use Rattle.grammar.specs.Grammar.{Formula}
use Rattle.grammar.specs.Names.{names}
use Rattle.reading.specs.Local.{plain}
use Rattle.reading.specs.Records.{depth}
use Rattle.reading.specs.Reader.{job_of}
use Rattle.reading.specs.Answers.{ReadAs, filed_for, FitsLimits}
use Rattle.reading.specs.Demands.{DeclarationsFormed, ReadWell, DeepNeverFits}
use Rattle.grammar.proofs.Quantifiers.{reads_quantifiers}
use Rattle.reading.proofs.TermSorts.{TermSorted, formula_sorted}
use Rattle.reading.proofs.Records.{SameDeclared, file_declares, FiledAs, filed, depth_below}
use Rattle.reading.proofs.SmallRecords.{term_small}
use Rattle.reading.proofs.Nesting.{nesting_depth}
use Rattle.reading.proofs.Answers.{names_exactly}

-- ---- declarations

no_number : {A : Type 0} (xs : List A) → xs ≡ [] → (i : ℕ) → Number (length xs) i → ⊥
no_number xs e i n = omega (arith, ap length e, n.0, n.1)

pub declared_checked : (f : List ℕ) → DeclarationsFormed f → Checked (bundle_of f)
declared_checked f d =
    let b : Bundle = bundle_of f in
    record {
      formed = record {
        tables = record {
          links = d.links;
          symbols = d.symbols;
          variables = d.variables;
          terms = λ i n. absurd (no_number b.terms d.terms i n);
          no_two_same = λ i j n m e. absurd (no_number b.terms d.terms i n);
        };
        contexts = λ i n. absurd (no_number b.contexts d.contexts i n);
      };
      steps = λ i n. absurd (no_number b.steps d.steps i n);
    }

declared_version : (f : List ℕ) → DeclarationsFormed f → (bundle_of f).version ≡ 1
unfolding bundle_of bundle_by
declared_version f d = d.header.version

-- ---- the formula's records

module _ (f text : List ℕ) (φ : Formula) (d : DeclarationsFormed f) (r : ReadAs (bundle_of f) text φ) where
  pub term_sorted : TermSorted (bundle_of f) (plain (bundle_of f) φ)
  term_sorted =
      (formula_sorted (bundle_of f) φ truth_sort (reads_quantifiers text φ r.named.reads)
      ((names_exactly (bundle_of f) (names φ [])).1 r.named.names) r.sorted).0

  pub job_filed : FiledAs (bundle_of f) (plain (bundle_of f) φ) (filed_for (bundle_of f) φ)
  job_filed =
      let old : Checked (bundle_of f) = declared_checked f d in
      filed (bundle_of f) old.formed.tables (plain (bundle_of f) φ) (bundle_of f) (longer_refl (bundle_of f)) old term_sorted

  pub not_deep : FitsLimits (bundle_of f) φ → depth (plain (bundle_of f) φ) ≤ limits.terms
  not_deep fit =
      let p : PlacedTerm = filed_for (bundle_of f) φ in
      let low = depth_below p.bundle job_filed.placed.checked.formed.tables p.term job_filed.placed.is_term in
      let same : depth (tree p.bundle p.term) ≡ depth (plain (bundle_of f) φ) = ap depth job_filed.placed.stands in
      omega (arith, low, same, job_filed.placed.is_term.1, fit.terms)

  -- ---- the job's file

  module _ (bytes : Bytes f) (fit : FitsLimits (bundle_of f) φ) where
    job_longer : Longer (filed_for (bundle_of f) φ).bundle (job_of (filed_for (bundle_of f) φ))
    job_longer = claiming_longer (filed_for (bundle_of f) φ).bundle (filed_for (bundle_of f) φ).term 0

    placed_small : SmallPlaced (filed_for (bundle_of f) φ)
    placed_small =
        let old : Checked (bundle_of f) = declared_checked f d in
        term_small (bundle_of f) old.formed.tables fit (plain (bundle_of f) φ) (bundle_of f) (longer_refl (bundle_of f)) old term_sorted
        (file_small f bytes) (longer_refl (filed_for (bundle_of f) φ).bundle)

    job_small : SmallBundle (job_of (filed_for (bundle_of f) φ))
    job_small = record {
      version = placed_small.bundle.version;
      symbols = placed_small.bundle.symbols;
      variables = placed_small.bundle.variables;
      terms = placed_small.bundle.terms;
      links = placed_small.bundle.links;
      contexts = placed_small.bundle.contexts;
      steps = placed_small.bundle.steps;
      left = placed_small.term;
      right = omega arith;
    }

    job_header : HeaderFormed (file_of (job_of (filed_for (bundle_of f) φ)))
    unfolding header_words
    job_header =
        let j : Bundle = job_of (filed_for (bundle_of f) φ) in
        record {
          long = omega (arith, file_length j);
          version = rw (file_counts j fit job_small) (job_filed.longer.version ∙ declared_version f d);
          whole = file_whole j fit job_small;
        }

    -- what is to hold of the bundle that the file stands for
    record JobWell (j : Bundle) : Type 0 where
      tables : TablesFormed j
      contexts : j.contexts ≡ []
      steps : j.steps ≡ []
      right : j.right ≡ 0
      left : Number (length j.terms) j.left
      stands : tree j j.left ≡ plain (bundle_of f) φ
      symbols : j.symbols ≡ (bundle_of f).symbols
      variables : j.variables ≡ (bundle_of f).variables
      longer : Longer (bundle_of f) j

    job_bundle : JobWell (job_of (filed_for (bundle_of f) φ))
    job_bundle =
        let q : PlacedTerm = filed_for (bundle_of f) φ in
        let same : SameDeclared (bundle_of f) q.bundle = file_declares (plain (bundle_of f) φ) (bundle_of f) in
        let all : Checked (claiming q.bundle q.term 0) = claiming_checked q.bundle q.term 0 job_filed.placed.checked in
        record {
          tables = all.formed.tables;
          contexts = same.contexts ∙ d.contexts;
          steps = same.steps ∙ d.steps;
          right = refl;
          left = job_filed.placed.is_term;
          stands =
              tree_kept job_longer job_filed.placed.checked.formed.tables q.term job_filed.placed.is_term.1 ∙ job_filed.placed.stands;
          symbols = same.symbols;
          variables = same.variables;
          longer = longer_trans job_filed.longer job_longer;
        }

    pub job_well : ReadWell f φ (file_of (job_of (filed_for (bundle_of f) φ)))
    job_well =
        let j : Bundle = job_of (filed_for (bundle_of f) φ) in
        let here : JobWell (bundle_of (file_of j)) = subst JobWell (sym (file_bundle j fit job_small)) job_bundle in
        record {
          formed = record {
            header = job_header;
            tables = here.tables;
            contexts = here.contexts;
            steps = here.steps;
            right = here.right;
            left = here.left;
          };
          left = here.stands;
          symbols = here.symbols;
          variables = here.variables;
          records = here.longer;
        }

pub deep_never_fits : DeepNeverFits
deep_never_fits f text φ d r deep fit = omega (arith, deep, nesting_depth (bundle_of f) φ, not_deep f text φ d r fit)
