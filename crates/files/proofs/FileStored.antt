-- The file stored, section by section, each at the end of the one before it.
--     section_flat                   the words of a section of the scratch are those of its records, one after another
--     words_to, file_words_lem            the words of a bundle's file up to a section; all of them
--     header_words_lem, section_words_lem    the header's words, and those of a section of the scratch
--     header_stored, section_stored  the file is stored up to a section: the header, and one section more
--     file_stored                    so the file is, where it is up to the end of the last section
use Prim.Native.Nat.{ℕ, zero, suc, ◌+◌, ◌*◌, ◌<◌, ◌≤◌}
use mathlib.Core.Path.{◌≡◌, refl, sym, ap, ◌∙◌}
use mathlib.Core.List.{List, [], ◌∷◌, ◌++◌, append_assoc, append-nil}
use native.Mathlib.Nat.{mul-suc}
use native.Mathlib.Omega.{arith}
use lib.ListN.{length, get_or, take, drop, length-drop}
use lib.Seq.{take-suc, take-add, drop-drop, get_or-drop}
use Rattle.bundle.specs.declared.Counts.{Counts}
use Rattle.bundle.specs.Bundle.{Bundle}
use Rattle.bundle.specs.Words.{encode}
use Rattle.bundle.specs.Limits.{limits, header_length, header_words, symbols_at, variables_at, terms_at, links_at, contexts_at, steps_at, bytes_of}
use Rattle.bundle.specs.Limits.{sections, extent_of, place_of}
use Rattle.bundle.specs.File.{tab, record_by, symbol_from, link_from, term_from, context_from, step_from, bundle_by}
use Rattle.scratch.specs.Scratch.{word_in, bundle_in, Roomy}
use Rattle.scratch.proofs.ScratchFields.{sized_in, symbols_fit, variables_fit, terms_fit, links_fit, contexts_fit, steps_fit}
use Rattle.expansion.specs.Visit.{claiming}
use Rattle.expansion.specs.File.{flat, symbol_words, variable_words, term_words, link_words, context_words, step_words, header_words_of, file_words, file_of}
use Rattle.files.specs.Stores.{WordsStored}
use Rattle.files.proofs.Encoded.{stored_on}

-- ---- the words of a section

-- n words from place p on, one by one
take_tab : (w : List ℕ) (p n : ℕ) → p + n ≤ length w → take n (drop p w) ≡ tab (λ k. get_or w (p + k) 0) n
unfolding tab
take_tab w p zero h = refl
take_tab w p (suc n) h =
    let l : n < length (drop p w) = rw length-drop (omega arith) in
    rw (take-suc (drop p w) n 0 l, take_tab w p n (omega arith), get_or-drop)

flat_snoc : {A : Type 0} (words : A → List ℕ) (xs : List A) (x : A) → flat words (xs ++ (x ∷ [])) ≡ flat words xs ++ words x
unfolding flat
flat_snoc words [] x = append-nil (words x)
flat_snoc words (y ∷ xs) x = rw (flat_snoc words xs x, append_assoc)

-- Records of `size` words; `from` makes a record of its words.
module _ {A : Type 0} (words : A → List ℕ) (size : ℕ) (from : (ℕ → ℕ) → A) (same : (u : ℕ → ℕ) → words (from u) ≡ tab u size) where
  section_flat : (w : List ℕ) (p count : ℕ) → p + size * count ≤ length w
      → take (size * count) (drop p w) ≡ flat words (tab (λ j. from (record_by (word_in w) p size j)) count)
  unfolding flat tab
  section_flat w p zero h = let e : size * 0 ≡ 0 = omega arith in rw e
  section_flat w p (suc n) h =
      let e : size * suc n ≡ size * n + size = rw mul-suc (omega arith) in
      let fits : p + size * n + size ≤ length w = omega arith in
      rw (e, take-add, drop-drop, section_flat w p n (omega arith), take_tab w (p + size * n) size fits, ← same, flat_snoc)

-- ---- the file

-- the words of section s, and those of the header and of the sections before s
unfoldable section_words : Bundle → ℕ → List ℕ
unfolding flat
section_words b zero = flat symbol_words b.symbols
section_words b (suc zero) = flat variable_words b.variables
section_words b (suc (suc zero)) = flat term_words b.terms
section_words b (suc (suc (suc zero))) = flat link_words b.links
section_words b (suc (suc (suc (suc zero)))) = flat context_words b.contexts
section_words b (suc (suc (suc (suc (suc zero))))) = flat step_words b.steps
section_words b (suc (suc (suc (suc (suc (suc s)))))) = []

unfoldable pub words_to : Bundle → ℕ → List ℕ
unfolding section_words
words_to b zero = header_words_of b
words_to b (suc s) = words_to b s ++ section_words b s

file_words_lem : (b : Bundle) → words_to b sections ≡ file_words b
unfolding words_to file_words
file_words_lem b = simp append_assoc

module _ (w : List ℕ) (c : Counts) (left right : ℕ) where
  abbrev claimed : Bundle
  claimed = claiming (bundle_in w c) left right

  header_words_lem : c.version ∷ c.symbols ∷ c.variables ∷ c.terms ∷ c.links ∷ c.contexts ∷ c.steps ∷ left ∷ right ∷ [] ≡ words_to claimed 0
  unfolding words_to bundle_by
  header_words_lem =
      sym (λ i. c.version
      ∷ (sized_in w c).symbols i
      ∷ (sized_in w c).variables i
      ∷ (sized_in w c).terms i
      ∷ (sized_in w c).links i
      ∷ (sized_in w c).contexts i
      ∷ (sized_in w c).steps i
      ∷ left
      ∷ right
      ∷ [])

  section_words_lem : Roomy w c → (s : ℕ) → take (extent_of c s) (drop (place_of limits s) w) ≡ section_words claimed s
  unfolding bundle_by header_words tab place_of section_words
  section_words_lem room zero = section_flat symbol_words 2 symbol_from (λ u. refl) w (symbols_at limits) c.symbols (symbols_fit w c room)
  section_words_lem room (suc zero) =
      let one : 1 * c.variables ≡ c.variables = omega arith in
      rw one at (section_flat variable_words 1 (λ u. u 0) (λ u. refl) w (variables_at limits) c.variables (variables_fit w c room))
  section_words_lem room (suc (suc zero)) = section_flat term_words 4 term_from (λ u. refl) w (terms_at limits) c.terms (terms_fit w c room)
  section_words_lem room (suc (suc (suc zero))) = section_flat link_words 2 link_from (λ u. refl) w (links_at limits) c.links (links_fit w c room)
  section_words_lem room (suc (suc (suc (suc zero)))) =
      section_flat context_words 4 context_from (λ u. refl) w (contexts_at limits) c.contexts (contexts_fit w c room)
  section_words_lem room (suc (suc (suc (suc (suc zero))))) =
      section_flat step_words 5 step_from (λ u. refl) w (steps_at limits) c.steps (steps_fit w c room)
  section_words_lem room (suc (suc (suc (suc (suc (suc s)))))) = refl

  -- the code gives the header as h
  pub header_stored : {o o' h : List ℕ}
      → h ≡ c.version ∷ c.symbols ∷ c.variables ∷ c.terms ∷ c.links ∷ c.contexts ∷ c.steps ∷ left ∷ right ∷ []
      → WordsStored o 0 header_length (take header_length h) o' → WordsStored o' 0 (place_of c 0) (words_to claimed 0) o'
  unfolding header_words place_of
  header_stored is e =
      record { long = refl; bytes = e.bytes ∙ ap (λ (h : List ℕ). encode (take header_length h)) is ∙ ap encode header_words_lem }

  pub section_stored : {o o' o'' : List ℕ} → Roomy w c → (s : ℕ) → WordsStored o 0 (place_of c s) (words_to claimed s) o'
      → WordsStored o' (place_of c s) (place_of c s + extent_of c s) (take (extent_of c s) (drop (place_of limits s) w)) o''
      → WordsStored o 0 (place_of c (suc s)) (words_to claimed (suc s)) o''
  unfolding place_of words_to
  section_stored room s e d = rw (← section_words_lem room s) (stored_on e d)

  pub file_stored : {o o' : List ℕ} → WordsStored o 0 (place_of c sections) (words_to claimed sections) o' → take (bytes_of c) o' ≡ file_of claimed
  unfolding place_of file_of
  file_stored e = e.bytes ∙ ap encode (file_words_lem claimed)
