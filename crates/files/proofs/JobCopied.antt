-- A job copied into the scratch, section by section, each above the one before it.
--     Holds                       the scratch holds the header and the sections before a section
--     holds_header, holds_on      the header was copied; then one section more
--     bundle_same                 the scratch holds the bundle, where it holds every section
use Prim.Native.Nat.{ℕ, suc, ◌+◌, ◌*◌, ◌<◌, ◌≤◌}
use mathlib.Core.Path.{◌≡◌, ◌∙◌}
use mathlib.Core.Logic.{⊎_elim}
use mathlib.Core.List.{List}
use native.Mathlib.Nat.{not-suc-le-zero, le_of_suc-le-suc, eq-or-lt_of_le}
use native.Mathlib.Omega.{arith}
use lib.ListN.{length, get_or}
use Rattle.bundle.specs.declared.Counts.{Counts}
use Rattle.bundle.specs.Words.{word_at}
use Rattle.bundle.specs.Limits.{limits, header_length, header_words, symbols_at, variables_at, terms_at, links_at, contexts_at, steps_at, Within}
use Rattle.bundle.specs.Limits.{sections, extent_of, place_of}
use Rattle.bundle.specs.File.{symbol_from, link_from, term_from, context_from, step_from, bundle_by, bundle_at}
use Rattle.bundle.proofs.Limits.{header_ends, section_ends, extent_within}
use Rattle.bundle.proofs.Fields.{symbol_same, variable_same, term_same, link_same, context_same, step_same, section_same}
use Rattle.scratch.specs.Scratch.{word_in, bundle_in}
use Rattle.files.specs.Copies.{copied}
use Rattle.files.proofs.Copied.{get_d_copied, get_d_copied_below}

-- ---- words

-- from place q on, v holds the n words of the file from word p on
abbrev InPlace : List ℕ → List ℕ → ℕ → ℕ → ℕ → Type 0
InPlace f v q p n = (j : ℕ) → j < n → get_or v (q + j) 0 ≡ word_at f (p + j)

-- v holds the header and the sections before section s
pub record Holds (f : List ℕ) (c : Counts) (s : ℕ) (v : List ℕ) : Type 0 where
  pub header : InPlace f v 0 0 header_length
  pub section : (r : ℕ) → r < s → InPlace f v (place_of limits r) (place_of c r) (extent_of c r)

pub holds_header : (f : List ℕ) (c : Counts) (w : List ℕ) → Holds f c 0 (copied w 0 f 0 header_length)
holds_header f c w = record { header = λ j l. get_d_copied w 0 f 0 header_length j (omega arith) l; section = λ r l. absurd (not-suc-le-zero l) }

-- the sections before s stand below it
pub holds_on : (f : List ℕ) (c : Counts) → Within c → (s : ℕ) (w : List ℕ) → place_of limits s ≤ length w → Holds f c s w
    → Holds f c (suc s) (copied w (place_of limits s) f (place_of c s) (extent_of c s))
unfolding header_words
holds_on f c within s w room h =
    let q = place_of limits s in
    let p = place_of c s in
    let n = extent_of c s in
    let below : (j : ℕ) → j < q → get_or (copied w q f p n) j 0 ≡ get_or w j 0 = λ j. get_d_copied_below w q f p n j room in
    let here : InPlace f (copied w q f p n) q p n = λ j. get_d_copied w q f p n j room in
    record {
      header = λ j l. below (0 + j) (omega (arith, header_ends limits s)) ∙ h.header j l;
      section = λ r l. ⊎_elim (λ e. rw e here)
          (λ m j k. below (place_of limits r + j) (omega (arith, section_ends limits r s m, extent_within c within r)) ∙ h.section r m j k)
          (eq-or-lt_of_le (le_of_suc-le-suc l));
    }

-- ---- the bundle

pub bundle_same : (f w : List ℕ) (c : Counts) → Holds f c sections w → bundle_in w c ≡ bundle_at f c
unfolding bundle_by place_of
bundle_same f w c h =
    let one : 1 * c.variables ≡ c.variables = omega arith in
    let variables : InPlace f w (variables_at limits) (variables_at c) (1 * c.variables) = rw one (h.section 1 (omega arith)) in
    λ i. record {
      version = c.version;
      symbols = section_same symbol_from 2 symbol_same (word_in w) (word_at f) (symbols_at limits) (symbols_at c) c.symbols (h.section 0 (omega arith)) i;
      variables = section_same (λ u. u 0) 1 variable_same (word_in w) (word_at f) (variables_at limits) (variables_at c) c.variables variables i;
      terms = section_same term_from 4 term_same (word_in w) (word_at f) (terms_at limits) (terms_at c) c.terms (h.section 2 (omega arith)) i;
      links = section_same link_from 2 link_same (word_in w) (word_at f) (links_at limits) (links_at c) c.links (h.section 3 (omega arith)) i;
      contexts = section_same context_from 4 context_same (word_in w) (word_at f) (contexts_at limits) (contexts_at c) c.contexts (h.section 4 (omega arith)) i;
      steps = section_same step_from 5 step_same (word_in w) (word_at f) (steps_at limits) (steps_at c) c.steps (h.section 5 (omega arith)) i;
      left = h.header 7 (omega arith) i;
      right = h.header 8 (omega arith) i;
    }
