-- `sets::unite` meets its contract: the first word, then the rest, which the first word is no part of.
use native.Mathlib.Omega.{arith}
use Prim.Native.Nat.{ℕ, suc, ◌+◌, ◌-◌, ◌≤◌, ◌<◌}
use mathlib.Core.List.{List}
use mathlib.Core.Path.{◌≡◌, sym, ◌∙◌}
use lib.ListN.{get_or, set}
use lib.Seq.{get_or-set_other}
use lib.Bits.{bit_or}
use Rattle.sets.specs.Sets.{filled, united}
use Rattle.sets.proofs.Members.{filled_same, filled_front}
use Rattle.sets.proofs.unite.Goals as goal

-- the words of the union but for the first, where the first is written
module _ (w : List ℕ) (to from n : ℕ) (apart : from + n ≤ to) (some : n ≡ 0 → ⊥) where
  abbrev g : ℕ → ℕ
  g k = bit_or (get_or w (to + k) 0) (get_or w (from + k) 0)

  abbrev first : List ℕ
  first = set w to (bit_or (get_or w to 0) (get_or w from 0))

  united_front : united first (to + 1) (from + 1) (n - 1) ≡ united w to from n
  united_front =
      filled_same (λ k. bit_or (get_or first (to + 1 + k) 0) (get_or first (from + 1 + k) 0)) (λ k. g (suc k)) first (to + 1) (n - 1) (λ k l. same k l)
      ∙ (rw (to_first, from_first) at (filled_front g w to n some))
    where
      to_first : to + 0 ≡ to
      to_first = omega arith

      from_first : from + 0 ≡ from
      from_first = omega arith

      other : (j : ℕ) → (to ≡ j → ⊥) → get_or first j 0 ≡ get_or w j 0
      other j ne = get_or-set_other w to j (bit_or (get_or w to 0) (get_or w from 0)) 0 (λ z. ne (sym z))

      same : (k : ℕ) → k < n - 1 → bit_or (get_or first (to + 1 + k) 0) (get_or first (from + 1 + k) 0) ≡ g (suc k)
      same k l =
          let p : to + 1 + k ≡ to + suc k = omega arith in
          let q : from + 1 + k ≡ from + suc k = omega arith in
          rw (other (to + 1 + k) (λ z. omega arith), other (from + 1 + k) (λ z. omega arith), p, q)

pub returns-then-n-eq0 : goal.returns-then-n-eq0
unfolding filled
returns-then-n-eq0 c = rw c.if-n-eq0.true

pub returns : goal.returns
returns c =
    let a = c.args in
    let p = c.requires in
    c.unite_words.ensures
    ∙ united_front a.area.now a.to a.from a.n p.0 c.if-n-eq0.false
