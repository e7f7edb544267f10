-- The limits of the counts, the places of the sections, and the length that the counts give. `Counts` are those of the code's `Bundle`.
use Rattle.std.specs.Prelude.{ℕ, zero, suc, ◌+◌, ◌*◌, ◌≤◌, Bool, ◌&&◌, [], ◌∷◌, leb, get_or}
use Rattle.bundle.specs.declared.Counts.{Counts}

-- S 64, V 256, T 1,024, L 2,048, C 256, P 1,024
abbrev pub limits : Counts
limits = record {
  version = 1;
  symbols = 64;
  variables = 256;
  terms = 1024;
  links = 2048;
  contexts = 256;
  steps = 1024;
}

-- words of 64 bits for a set of variables: a bit for each of the variables that there can be
abbrev pub set_words : ℕ
set_words = 4

-- words of the header of version 1, and bytes of the shortest file, which is a header
abbrev pub header_length : ℕ
header_length = 9

abbrev pub least_bytes : ℕ
least_bytes = 4 * header_length

-- the words of the header that are the claim, its left term and its right term
abbrev pub left_word : ℕ
left_word = 7

abbrev pub right_word : ℕ
right_word = 8

-- words of the header of a file of a version
unfoldable pub header_words : ℕ → ℕ
header_words version = header_length

-- the word at which each section starts: symbols (2 words a record), variables (1), terms (4), links (2), contexts (4), steps (5)
abbrev pub symbols_at : Counts → ℕ
symbols_at c = header_words c.version

abbrev pub variables_at : Counts → ℕ
variables_at c = symbols_at c + 2 * c.symbols

abbrev pub terms_at : Counts → ℕ
terms_at c = variables_at c + c.variables

abbrev pub links_at : Counts → ℕ
links_at c = terms_at c + 4 * c.terms

abbrev pub contexts_at : Counts → ℕ
contexts_at c = links_at c + 2 * c.links

abbrev pub steps_at : Counts → ℕ
steps_at c = contexts_at c + 4 * c.contexts

-- the length of a file, in words and in bytes
abbrev pub words_of : Counts → ℕ
words_of c = steps_at c + 5 * c.steps

abbrev pub bytes_of : Counts → ℕ
bytes_of c = 4 * words_of c

-- Sections by their number: 0 symbols, 1 variables, 2 terms, 3 links, 4 contexts, 5 steps. The words of section s, and the word at which it
-- starts: each starts where the one before it ends, and the file ends with the last one.
abbrev pub sections : ℕ
sections = 6

abbrev pub extent_of : Counts → ℕ → ℕ
extent_of c s = get_or (2 * c.symbols ∷ c.variables ∷ 4 * c.terms ∷ 2 * c.links ∷ 4 * c.contexts ∷ 5 * c.steps ∷ []) s 0

unfoldable pub place_of : Counts → ℕ → ℕ
place_of c zero = symbols_at c
place_of c (suc s) = place_of c s + extent_of c s

-- each count is within its limit
pub record Within (c : Counts) : Type 0 where
  pub symbols : c.symbols ≤ limits.symbols
  pub variables : c.variables ≤ limits.variables
  pub terms : c.terms ≤ limits.terms
  pub links : c.links ≤ limits.links
  pub contexts : c.contexts ≤ limits.contexts
  pub steps : c.steps ≤ limits.steps

-- the same as a test
abbrev pub within_of : Counts → Bool
within_of c =
    leb c.symbols limits.symbols
    && leb c.variables limits.variables
    && leb c.terms limits.terms
    && leb c.links limits.links
    && leb c.contexts limits.contexts
    && leb c.steps limits.steps
