-- What is noted while terms are checked one by one: the sort of every term, and of links of long lists that their terms fit a list of sorts.
-- So a list that many terms share is walked once, and a sort is one load.
use Rattle.std.specs.Prelude.{ℕ, ◌≡◌, true, List, map, length, get_or}
use Rattle.bundle.specs.Bundle.{Bundle}
use Rattle.bundle.specs.Links.{items}
use Rattle.bundle.specs.Lists.{same_list}
use Rattle.bundle.specs.LinkNotes.{Noted}
use Rattle.logic.specs.Sorts.{sort_at}

-- w has the sort of each term
pub record Sorted (b : Bundle) (w : List ℕ) : Type 0 where
  pub noted : (t : ℕ) → get_or w t 0 ≡ sort_at b t

-- the terms of the list from link p on have the sorts of the list that starts at link q, one each
abbrev pub SortsFit : Bundle → ℕ → ℕ → Type 0
SortsFit b q p = same_list (items b q) (map (sort_at b) (items b p)) ≡ true

-- links from which terms have the sorts of the list noted there
abbrev pub Fitting : Bundle → List ℕ → Type 0
Fitting b w = Noted (SortsFit b) (length b.links) w
