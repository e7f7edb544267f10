-- Pairs of words on a lent stack of words of 64 bits, as a result and a step: the result in the upper half, the step in the lower.
use Rattle.std.specs.Prelude.{Bool, true, false, List, map, ℕ, ◌/◌, ◌%◌, ◌-◌, take, drop}

abbrev pub half_of : Bool → ℕ → ℕ
half_of true x = x / 4294967296
half_of false x = x % 4294967296

-- the upper halves, or the lower, of pairs
abbrev pub halves_of : Bool → List ℕ → List ℕ
halves_of upper ps = map (half_of upper) ps

-- of those from place `from` to before place `to` of a stack
abbrev pub halves : Bool → List ℕ → ℕ → ℕ → List ℕ
halves upper s from to = halves_of upper (take (to - from) (drop from s))
