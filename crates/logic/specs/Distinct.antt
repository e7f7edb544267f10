-- The statement that different numbers stand for different terms.
use Rattle.std.specs.Prelude.{ℕ, ◌≤◌, ◌≡◌, length}
use Rattle.bundle.specs.Bundle.{Bundle}
use Rattle.logic.specs.Terms.{tree}

abbrev pub Distinct : Bundle → Type 0
Distinct b = (i j : ℕ) → 1 ≤ i → i ≤ length b.terms → 1 ≤ j → j ≤ length b.terms → tree b i ≡ tree b j → i ≡ j
