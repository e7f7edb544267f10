-- The fields of a memory's records are the words where they stand, and its counts are the lengths of the bundle's lists.
--     record_within          a record ends where its section ends, or before
--     symbol_word, ..                    field k of a record of words
--     symbol_same, ..                    two records of the same words
--     section_same, section_more         two memories that agree on a section
--     symbol_is, variable_is, ..         field k of record i, by section
--     Sized, sized, sized_at             the length of each section, of any memory, of a file
--     left_is, right_is                  the claim words of a file
--     symbols_length, ..                 the length of each section of a file
use mathlib.Core.Path.{◌≡◌, refl}
use mathlib.Core.List.{List, [], ◌∷◌, ◌++◌}
use Prim.Native.Nat.{ℕ, ◌+◌, ◌*◌, ◌-◌, ◌≤◌, ◌<◌}
use native.Mathlib.Omega.{arith}
use lib.ListN.{length}
use Rattle.std.proofs.lemmas.Nat.{column_fits}
use Rattle.bundle.specs.declared.Counts.{Counts}
use Rattle.bundle.specs.Words.{word_at}
use Rattle.bundle.specs.Bundle.{Bundle, at, no_symbol, no_link, no_term, no_context, no_step, symbol_of, sort_of_variable, term_of, link_of, context_of, step_of}
use Rattle.bundle.specs.Bundle.{symbol_field, link_field, term_field, context_field, step_field}
use Rattle.bundle.specs.Limits.{symbols_at, variables_at, terms_at, links_at, contexts_at, steps_at}
use Rattle.bundle.specs.File.{tab, record_by, symbol_from, link_from, term_from, context_from, step_from, bundle_by, bundle_at, own_counts}
use Rattle.bundle.proofs.Tab.{tab_length, tab_at, tab_ext, tab_more, at_field}

pub record_within : (size count i : ℕ) → (i ≡ 0 → ⊥) → i ≤ count → size * (i - 1) + size ≤ size * count
record_within size count i ne h = column_fits size (i - 1) size count (omega arith) (omega arith)

-- field k of a record of words is word k, for the fields are those words one after another
pub symbol_word : (w : ℕ → ℕ) (k : ℕ) → k < 2 → symbol_field (symbol_from w) k ≡ w k
unfolding tab
symbol_word w k h = tab_at w 2 k 0 h

pub link_word : (w : ℕ → ℕ) (k : ℕ) → k < 2 → link_field (link_from w) k ≡ w k
unfolding tab
link_word w k h = tab_at w 2 k 0 h

pub term_word : (w : ℕ → ℕ) (k : ℕ) → k < 4 → term_field (term_from w) k ≡ w k
unfolding tab
term_word w k h = tab_at w 4 k 0 h

pub context_word : (w : ℕ → ℕ) (k : ℕ) → k < 4 → context_field (context_from w) k ≡ w k
unfolding tab
context_word w k h = tab_at w 4 k 0 h

pub step_word : (w : ℕ → ℕ) (k : ℕ) → k < 5 → step_field (step_from w) k ≡ w k
unfolding tab
step_word w k h = tab_at w 5 k 0 h

-- two records of the same words are the same
pub symbol_same : (u v : ℕ → ℕ) → ((k : ℕ) → k < 2 → u k ≡ v k) → symbol_from u ≡ symbol_from v
symbol_same u v h = rw (h 0 (omega arith), h 1 (omega arith))

pub variable_same : (u v : ℕ → ℕ) → ((k : ℕ) → k < 1 → u k ≡ v k) → u 0 ≡ v 0
variable_same u v h = h 0 (omega arith)

pub term_same : (u v : ℕ → ℕ) → ((k : ℕ) → k < 4 → u k ≡ v k) → term_from u ≡ term_from v
term_same u v h = rw (h 0 (omega arith), h 1 (omega arith), h 2 (omega arith), h 3 (omega arith))

pub link_same : (u v : ℕ → ℕ) → ((k : ℕ) → k < 2 → u k ≡ v k) → link_from u ≡ link_from v
link_same u v h = rw (h 0 (omega arith), h 1 (omega arith))

pub context_same : (u v : ℕ → ℕ) → ((k : ℕ) → k < 4 → u k ≡ v k) → context_from u ≡ context_from v
context_same u v h = rw (h 0 (omega arith), h 1 (omega arith), h 2 (omega arith), h 3 (omega arith))

pub step_same : (u v : ℕ → ℕ) → ((k : ℕ) → k < 5 → u k ≡ v k) → step_from u ≡ step_from v
step_same u v h = rw (h 0 (omega arith), h 1 (omega arith), h 2 (omega arith), h 3 (omega arith), h 4 (omega arith))

-- Two memories that agree on a section, at p in the one and at q in the other, have the same records there; and one record more. `from` makes a
-- record of its `size` words.
module _ {A : Type 0} (from : (ℕ → ℕ) → A) (size : ℕ) (same : (u v : ℕ → ℕ) → ((k : ℕ) → k < size → u k ≡ v k) → from u ≡ from v)
    (u v : ℕ → ℕ) (p q n : ℕ) (agree : (j : ℕ) → j < size * n → u (p + j) ≡ v (q + j)) where
  row_same : (j : ℕ) → j < n → from (record_by u p size j) ≡ from (record_by v q size j)
  row_same j l = same (record_by u p size j) (record_by v q size j) (λ k m.
      let a : p + size * j + k ≡ p + (size * j + k) = omega arith in
      let b : q + size * j + k ≡ q + (size * j + k) = omega arith in
      rw (a, b) (agree (size * j + k) (omega (arith, column_fits size j size n l (omega arith)))))

  pub section_same : tab (λ j. from (record_by u p size j)) n ≡ tab (λ j. from (record_by v q size j)) n
  section_same = tab_ext _ _ n row_same

  pub section_more : (x : ℕ → ℕ) → ((k : ℕ) → k < size → u (p + size * n + k) ≡ x k)
      → tab (λ j. from (record_by u p size j)) (n + 1) ≡ tab (λ j. from (record_by v q size j)) n ++ (from x ∷ [])
  section_more x new = tab_more _ _ n (from x) row_same (same (record_by u p size n) x new)

-- field k of record i of any memory
module _ (word : ℕ → ℕ) (places c : Counts) (i : ℕ) where
  pub symbol_is : (k : ℕ) → k < 2 → symbol_field (symbol_of (bundle_by word places c) i) k ≡ at 0 (tab (λ j. record_by word (symbols_at places) 2 j k) c.symbols)
      i
  unfolding bundle_by
  symbol_is k h = at_field no_symbol _ (λ r. symbol_field r k) _ (symbol_word (λ _. 0) k h) (λ j. symbol_word (record_by word (symbols_at places) 2 j) k h)
      c.symbols i

  pub variable_is : sort_of_variable (bundle_by word places c) i ≡ at 0 (tab (λ j. record_by word (variables_at places) 1 j 0) c.variables) i
  unfolding bundle_by
  variable_is = refl

  pub term_is : (k : ℕ) → k < 4 → term_field (term_of (bundle_by word places c) i) k ≡ at 0 (tab (λ j. record_by word (terms_at places) 4 j k) c.terms) i
  unfolding bundle_by
  term_is k h = at_field no_term _ (λ r. term_field r k) _ (term_word (λ _. 0) k h) (λ j. term_word (record_by word (terms_at places) 4 j) k h) c.terms i

  pub link_is : (k : ℕ) → k < 2 → link_field (link_of (bundle_by word places c) i) k ≡ at 0 (tab (λ j. record_by word (links_at places) 2 j k) c.links) i
  unfolding bundle_by
  link_is k h = at_field no_link _ (λ r. link_field r k) _ (link_word (λ _. 0) k h) (λ j. link_word (record_by word (links_at places) 2 j) k h) c.links i

  pub context_is : (k : ℕ) → k < 4 → context_field (context_of (bundle_by word places c) i) k ≡ at 0
      (tab (λ j. record_by word (contexts_at places) 4 j k) c.contexts) i
  unfolding bundle_by
  context_is k h = at_field no_context _ (λ r. context_field r k) _ (context_word (λ _. 0) k h) (λ j. context_word (record_by word (contexts_at places) 4 j) k h)
      c.contexts i

  pub step_is : (k : ℕ) → k < 5 → step_field (step_of (bundle_by word places c) i) k ≡ at 0 (tab (λ j. record_by word (steps_at places) 5 j k) c.steps) i
  unfolding bundle_by
  step_is k h = at_field no_step _ (λ r. step_field r k) _ (step_word (λ _. 0) k h) (λ j. step_word (record_by word (steps_at places) 5 j) k h) c.steps i

-- the counts of a bundle
pub record Sized (b : Bundle) (c : Counts) : Type 0 where
  pub symbols : length b.symbols ≡ c.symbols
  pub variables : length b.variables ≡ c.variables
  pub terms : length b.terms ≡ c.terms
  pub links : length b.links ≡ c.links
  pub contexts : length b.contexts ≡ c.contexts
  pub steps : length b.steps ≡ c.steps

pub own_sized : (b : Bundle) → Sized b (own_counts b)
own_sized b = record { symbols = refl; variables = refl; terms = refl; links = refl; contexts = refl; steps = refl }

pub sized : (word : ℕ → ℕ) (places c : Counts) → Sized (bundle_by word places c) c
unfolding bundle_by
sized word places c = record {
  symbols = tab_length _ c.symbols;
  variables = tab_length _ c.variables;
  terms = tab_length _ c.terms;
  links = tab_length _ c.links;
  contexts = tab_length _ c.contexts;
  steps = tab_length _ c.steps;
}

-- of a file
module _ (f : List ℕ) (c : Counts) where
  pub left_is : (bundle_at f c).left ≡ word_at f 7
  unfolding bundle_by
  left_is = refl

  pub right_is : (bundle_at f c).right ≡ word_at f 8
  unfolding bundle_by
  right_is = refl

  pub sized_at : Sized (bundle_at f c) c
  sized_at = sized (word_at f) c c

  pub symbols_length : length (bundle_at f c).symbols ≡ c.symbols
  symbols_length = sized_at.symbols

  pub variables_length : length (bundle_at f c).variables ≡ c.variables
  variables_length = sized_at.variables

  pub terms_length : length (bundle_at f c).terms ≡ c.terms
  terms_length = sized_at.terms

  pub links_length : length (bundle_at f c).links ≡ c.links
  links_length = sized_at.links

  pub contexts_length : length (bundle_at f c).contexts ≡ c.contexts
  contexts_length = sized_at.contexts

  pub steps_length : length (bundle_at f c).steps ≡ c.steps
  steps_length = sized_at.steps

  -- and its counts are those that its bundle has
  pub own_counts_are : own_counts (bundle_at f c) ≡ c
  unfolding bundle_by
  own_counts_are = rw (
    tab_length _ c.symbols,
    tab_length _ c.variables,
    tab_length _ c.terms,
    tab_length _ c.links,
    tab_length _ c.contexts,
    tab_length _ c.steps,
  )
