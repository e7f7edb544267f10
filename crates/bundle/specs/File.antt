-- The bundle that a memory of words stands for, and THE TIE: the bundle that a file stands for.
use Rattle.std.specs.Prelude.{ℕ, zero, suc, ◌+◌, ◌*◌, ◌≡◌, List, [], ◌∷◌, ◌++◌, length}
use Rattle.bundle.specs.declared.Counts.{Counts}
use Rattle.bundle.specs.Words.{word_at}
use Rattle.bundle.specs.Bundle.{Symbol, Link, TermRecord, Context, Step, Bundle}
use Rattle.bundle.specs.Limits.{header_words, left_word, right_word, symbols_at, variables_at, terms_at, links_at, contexts_at, steps_at, bytes_of, Within}

-- each count is within its limit, and the file is as long as the counts say: all that a reader of records asks for
pub record Whole (f : List ℕ) (c : Counts) : Type 0 where
  pub within : Within c
  pub exact : length f ≡ bytes_of c

-- f 0, f 1, .. f (n - 1)
unfoldable pub tab {ℓ} : {A : Type ℓ} → (ℕ → A) → ℕ → List A
tab f zero = []
tab f (suc n) = tab f n ++ (f n ∷ [])

-- word k of record j, counted from 0, of a section that starts at word `start` and has `size` words a record
abbrev pub record_by : (ℕ → ℕ) → ℕ → ℕ → ℕ → ℕ → ℕ
record_by word start size j k = word (start + size * j + k)

-- a record of its words
abbrev pub symbol_from : (ℕ → ℕ) → Symbol
symbol_from w = record { result = w 0; sorts = w 1 }

abbrev pub link_from : (ℕ → ℕ) → Link
link_from w = record { value = w 0; next = w 1 }

abbrev pub term_from : (ℕ → ℕ) → TermRecord
term_from w = record { kind = w 0; a = w 1; b = w 2; c = w 3 }

abbrev pub context_from : (ℕ → ℕ) → Context
context_from w = record { kind = w 0; a = w 1; b = w 2; parent = w 3 }

abbrev pub step_from : (ℕ → ℕ) → Step
step_from w = record { rule = w 0; context = w 1; left = w 2; right = w 3; premises = w 4 }

-- The bundle that a memory stands for: its words by their places, the counts that give the places of the sections, and the counts that there are.
unfoldable pub bundle_by : (ℕ → ℕ) → Counts → Counts → Bundle
unfolding tab header_words
bundle_by word places c = record {
  version = c.version;
  symbols = tab (λ j. symbol_from (record_by word (symbols_at places) 2 j)) c.symbols;
  variables = tab (λ j. record_by word (variables_at places) 1 j 0) c.variables;
  terms = tab (λ j. term_from (record_by word (terms_at places) 4 j)) c.terms;
  links = tab (λ j. link_from (record_by word (links_at places) 2 j)) c.links;
  contexts = tab (λ j. context_from (record_by word (contexts_at places) 4 j)) c.contexts;
  steps = tab (λ j. step_from (record_by word (steps_at places) 5 j)) c.steps;
  left = word left_word;
  right = word right_word;
}

-- THE TIE: the bundle that a file of these counts stands for. Its sections stand one right after another.
abbrev pub bundle_at : List ℕ → Counts → Bundle
bundle_at f c = bundle_by (word_at f) c c

-- the numbers of records that a bundle has
abbrev pub own_counts : Bundle → Counts
own_counts b = record {
  version = b.version;
  symbols = length b.symbols;
  variables = length b.variables;
  terms = length b.terms;
  links = length b.links;
  contexts = length b.contexts;
  steps = length b.steps;
}

-- Header: version; the counts S, V, T, L, C, P; the claim's left term; its right term
unfoldable pub counts_of : List ℕ → Counts
unfolding word_at
counts_of f = record {
  version = word_at f 0;
  symbols = word_at f 1;
  variables = word_at f 2;
  terms = word_at f 3;
  links = word_at f 4;
  contexts = word_at f 5;
  steps = word_at f 6;
}

-- the bundle that a file stands for
unfoldable pub bundle_of : List ℕ → Bundle
unfolding bundle_by word_at counts_of
bundle_of f = bundle_at f (counts_of f)
