-- Records read in a part of a file.
--     part_word                   a word of a part that starts at a word
--     from_length, from_word_at   the file from a word on
--     field_from                  so a field of a record of a section
--     link_from, step_from        so a field of a link and of a step that there is
use mathlib.Core.Path.{◌≡◌, ap, sym, ◌∙◌}
use mathlib.Core.List.{List}
use Prim.Native.Nat.{ℕ, ◌+◌, ◌*◌, ◌-◌, ◌≤◌, ◌<◌}
use native.Mathlib.Omega.{arith}
use Rattle.std.proofs.lemmas.List.{length-drop, length-take-le}
use lib.ListN.{length, get_or, take, drop}
use lib.Seq.{get_or-take, get_or-drop}
use Rattle.std.proofs.lemmas.Nat.{column_fits}
use Rattle.bundle.specs.Words.{word_at}
use Rattle.bundle.specs.declared.Counts.{Counts}
use Rattle.bundle.specs.Bundle.{at, link_of, link_field, step_of, step_field}
use Rattle.bundle.specs.Limits.{links_at, steps_at}
use Rattle.bundle.specs.File.{tab, record_by, bundle_at}
use Rattle.bundle.specs.Parts.{from_word}
use Rattle.bundle.proofs.Tab.{tab_ext, at_tab}
use Rattle.bundle.proofs.Fields.{link_is, step_is}

module _ (f : List ℕ) (n m k : ℕ) (h : 4 * k + 4 ≤ m) where
  byte : (i j : ℕ) → i ≡ 4 * k + j → j < 4 → get_or (take m (drop (4 * n) f)) i 0 ≡ get_or f (4 * n + i) 0
  byte i j e l = get_or-take m (drop (4 * n) f) i 0 (omega arith) ∙ get_or-drop (4 * n) f i 0

  pub part_word : word_at (take m (drop (4 * n) f)) k ≡ word_at f (n + k)
  unfolding word_at
  part_word =
      let e₀ : 4 * n + 4 * k ≡ 4 * (n + k) = omega arith in
      let e₁ : 4 * n + (4 * k + 1) ≡ 4 * (n + k) + 1 = omega arith in
      let e₂ : 4 * n + (4 * k + 2) ≡ 4 * (n + k) + 2 = omega arith in
      let e₃ : 4 * n + (4 * k + 3) ≡ 4 * (n + k) + 3 = omega arith in
      rw (
        byte (4 * k) 0 (omega arith) (omega arith),
        byte (4 * k + 1) 1 (omega arith) (omega arith),
        byte (4 * k + 2) 2 (omega arith) (omega arith),
        byte (4 * k + 3) 3 (omega arith) (omega arith),
        e₀,
        e₁,
        e₂,
        e₃,
      )

module _ (f : List ℕ) (n : ℕ) where
  pub from_length : length (from_word f n) ≡ length f - 4 * n
  from_length =
      let e : length (drop (4 * n) f) ≡ length f - 4 * n = length-drop (4 * n) f in
      length-take-le (length f - 4 * n) (drop (4 * n) f) (omega (arith, e))

  pub from_word_at : (k : ℕ) → 4 * (n + k) + 4 ≤ length f → word_at (from_word f n) k ≡ word_at f (n + k)
  from_word_at k h = part_word f n (length f - 4 * n) k (omega arith)

  -- field k of record i of a section that starts there
  pub field_from : (size count i k : ℕ) → k < size → 4 * (n + size * count) ≤ length f
      → at 0 (tab (λ j. word_at (from_word f n) (size * j + k)) count) i ≡ at 0 (tab (λ j. record_by (word_at f) n size j k) count) i
  field_from size count i k few long =
      ap (λ (xs : List ℕ). at 0 xs i)
      (tab_ext (λ j. word_at (from_word f n) (size * j + k)) (λ j. record_by (word_at f) n size j k) count (λ j l.
      let e : n + (size * j + k) ≡ n + size * j + k = omega arith in
      from_word_at (size * j + k) (omega (arith, column_fits size j size count l (omega arith))) ∙ ap (word_at f) e))

-- field k of a link that there is, and of a step
module _ (f : List ℕ) (c : Counts) (i k : ℕ) (ne : i ≡ 0 → ⊥) where
  pub link_from : i ≤ c.links → k < 2 → 4 * (links_at c + 2 * c.links) ≤ length f
      → word_at (from_word f (links_at c)) (2 * (i - 1) + k) ≡ link_field (link_of (bundle_at f c) i) k
  link_from le few long =
      let e : links_at c + (2 * (i - 1) + k) ≡ links_at c + 2 * (i - 1) + k = omega arith in
      from_word_at f (links_at c) (2 * (i - 1) + k) (omega arith)
      ∙ ap (word_at f) e
      ∙ sym (link_is (word_at f) c c i k few ∙ at_tab (λ j. record_by (word_at f) (links_at c) 2 j k) c.links i 0 ne le)

  pub step_from : i ≤ c.steps → k < 5 → 4 * (steps_at c + 5 * c.steps) ≤ length f
      → word_at (from_word f (steps_at c)) (5 * (i - 1) + k) ≡ step_field (step_of (bundle_at f c) i) k
  step_from le few long =
      let e : steps_at c + (5 * (i - 1) + k) ≡ steps_at c + 5 * (i - 1) + k = omega arith in
      from_word_at f (steps_at c) (5 * (i - 1) + k) (omega arith)
      ∙ ap (word_at f) e
      ∙ sym (step_is (word_at f) c c i k few ∙ at_tab (λ j. record_by (word_at f) (steps_at c) 5 j k) c.steps i 0 ne le)
