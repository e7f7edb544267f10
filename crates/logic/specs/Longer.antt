-- Bundles with records appended to any section.
use Rattle.std.specs.Prelude.{ℕ, suc, ◌≡◌, List, [], ◌∷◌, ◌++◌, length}
use Rattle.bundle.specs.Bundle.{Bundle, Symbol, TermRecord, Link, Context, Step}

-- ys is xs with more after it
abbrev pub Prefix : {A : Type 0} → List A → List A → Type 0
Prefix {A} xs ys = (more : List A) × (ys ≡ xs ++ more)

pub record Longer (b b' : Bundle) : Type 0 where
  pub version : b'.version ≡ b.version
  pub symbols : Prefix b.symbols b'.symbols
  pub variables : Prefix b.variables b'.variables
  pub terms : Prefix b.terms b'.terms
  pub links : Prefix b.links b'.links
  pub contexts : Prefix b.contexts b'.contexts
  pub steps : Prefix b.steps b'.steps

-- ---- records appended to one section

-- the sections as they are given, the version and the claim of b
abbrev sections : Bundle → List Symbol → List ℕ → List TermRecord → List Link → List Context → List Step → Bundle
sections b ss vs ts ls cs ps =
    record { version = b.version; symbols = ss; variables = vs; terms = ts; links = ls; contexts = cs; steps = ps; left = b.left; right = b.right }

module _ (b : Bundle) where
  abbrev pub with_symbols : List Symbol → Bundle
  with_symbols xs = sections b (b.symbols ++ xs) b.variables b.terms b.links b.contexts b.steps

  abbrev pub with_variables : List ℕ → Bundle
  with_variables xs = sections b b.symbols (b.variables ++ xs) b.terms b.links b.contexts b.steps

  abbrev pub with_terms : List TermRecord → Bundle
  with_terms xs = sections b b.symbols b.variables (b.terms ++ xs) b.links b.contexts b.steps

  abbrev pub with_links : List Link → Bundle
  with_links xs = sections b b.symbols b.variables b.terms (b.links ++ xs) b.contexts b.steps

  abbrev pub with_contexts : List Context → Bundle
  with_contexts xs = sections b b.symbols b.variables b.terms b.links (b.contexts ++ xs) b.steps

  abbrev pub with_steps : List Step → Bundle
  with_steps xs = sections b b.symbols b.variables b.terms b.links b.contexts (b.steps ++ xs)

-- ---- a list appended: its values as links one after another

-- the first link of a list that is appended from link m on: 0 for the empty list
abbrev pub start_of : ℕ → List ℕ → ℕ
start_of m [] = 0
start_of m (v ∷ vs) = m

-- the values as links one after another, from link m on
unfoldable pub consecutive : ℕ → List ℕ → List Link
consecutive m [] = []
consecutive m (v ∷ vs) = record { value = v; next = start_of (suc m) vs } ∷ consecutive (suc m) vs

abbrev pub add_list : Bundle → List ℕ → Bundle
add_list b vs = with_links b (consecutive (suc (length b.links)) vs)

abbrev pub list_start : Bundle → List ℕ → ℕ
list_start b vs = start_of (suc (length b.links)) vs
