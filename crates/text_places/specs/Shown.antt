-- HOW A LINE IS SHOWN, and what stands under it.
use Rattle.std.specs.Prelude.{ℕ, ◌<◌, ◌≡◌, Bool, false, cond, ◌&&◌, List, [], ◌∷◌, length, get_or, eqb, leb, ltb}

-- a byte as it is shown: control bytes but the tab as '?'
abbrev pub shown_byte : ℕ → ℕ
shown_byte c = cond (eqb c 9) c (cond (ltb c 32) 63 (cond (eqb c 127) 63 c))

-- a byte goes on a character of UTF-8
abbrev pub goes_on : ℕ → Bool
goes_on c = leb 128 c && ltb c 192

-- what stands under a character, and under bytes that are shown: a tab under a tab, a space under any other character
abbrev pub under_byte : ℕ → ℕ
under_byte c = cond (eqb c 9) 9 32

unfoldable pub under : List ℕ → List ℕ
under [] = []
under (c ∷ cs) = cond (goes_on c) (under cs) (under_byte c ∷ under cs)

-- Where each byte is a character, as many bytes stand under a part as it has: the mark then stands right under the byte after it.
abbrev pub UnderAsMany : Type 0
UnderAsMany = (cs : List ℕ) → ((k : ℕ) → k < length cs → goes_on (get_or cs k 0) ≡ false) → length (under cs) ≡ length cs
