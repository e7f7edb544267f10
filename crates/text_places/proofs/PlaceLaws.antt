-- What the loops know of lines and columns, byte by byte.
use Prim.Native.Nat.{ℕ, ◌+◌, ◌-◌, ◌≤◌, ◌<◌}
use native.Mathlib.Omega.{arith}
use mathlib.Core.Path.{◌≡◌, sym, ap, ◌∙◌}
use mathlib.Core.Bool.{true, false}
use mathlib.Core.List.{List}
use lib.ListN.{length, get_or, drop, length-drop}
use lib.Seq.{get_or-drop}
use Rattle.std.specs.List.{HoldsAt, AllWithin}
use Rattle.text_places.specs.Places.{line_of, start_of, is_break, LineEnds}

-- ---- the place of a byte: the loop stands at byte j

pub record Counted (text : List ℕ) (at line start j : ℕ) : Type 0 where
  pub inside : j ≤ at
  pub is_line : line ≡ line_of text j
  pub is_start : start ≡ start_of text j
  pub few_lines : line ≤ j + 1
  pub early : start ≤ j

-- ---- the end of a line: the first break of the text from byte i on

module _ (text : List ℕ) (i : ℕ) (within : i ≤ length text) where
  behind : (k : ℕ) → i ≤ k → get_or text k 0 ≡ get_or (drop i text) (k - i) 0
  behind k l = ap (λ j. get_or text j 0) {x = k} {y = i + (k - i)} (omega arith) ∙ sym (get_or-drop i text (k - i) 0)

  pub first_break : (n : ℕ) → n < length (drop i text) → HoldsAt (λ b. is_break b ≡ true) (drop i text) n → AllWithin (λ b. is_break b ≡ false) (drop i text) 0 n
      → LineEnds text i (i + n)
  first_break n inside here before = record {
    after = omega arith;
    inside = let l = simp length-drop at inside in omega (arith, l);
    none = λ k below up. ap is_break (behind k up) ∙ before (k - i) 0 (omega arith) (omega arith);
    found = λ l. ap is_break (sym (get_or-drop i text n 0)) ∙ here 0;
  }

  pub no_break : AllWithin (λ b. is_break b ≡ false) (drop i text) 0 (length (drop i text)) → LineEnds text i (length text)
  no_break all = record {
    after = within;
    inside = omega arith;
    none = λ k below up. ap is_break (behind k up) ∙ all (k - i) 0 (omega arith) (simp length-drop (omega arith));
    found = λ l. absurd (omega arith);
  }
