-- What is noted at the links of lists: what was found good of the list from a link on, so that a list that many records share is walked once.
use Rattle.std.specs.Prelude.{ℕ, ◌<◌, ◌≡◌, true, List, length, get_or}
use Rattle.bundle.specs.Bundle.{Bundle}
use Rattle.bundle.specs.Links.{items}
use Rattle.bundle.specs.Lists.{numbers, each}

-- w is zero throughout
pub record Zeros (w : List ℕ) : Type 0 where
  pub zero : (p : ℕ) → get_or w p 0 ≡ 0

-- w has a place for each of so many links: where it is not 0, what is there is good of the list from that link on
pub record Noted (Good : ℕ → ℕ → Type 0) (links : ℕ) (w : List ℕ) : Type 0 where
  pub enough : links < length w
  pub sound : (p : ℕ) → (get_or w p 0 ≡ 0 → ⊥) → Good (get_or w p 0) p

-- each item of the list from link p on is 1 to n, whatever is noted there
abbrev pub AllTo : Bundle → ℕ → ℕ → ℕ → Type 0
AllTo b n v p = each (numbers n) (items b p) ≡ true

-- links from which each item is 1 to n
abbrev pub LowerNoted : Bundle → ℕ → List ℕ → Type 0
LowerNoted b n w = Noted (AllTo b n) (length b.links) w
