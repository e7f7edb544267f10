-- What the lent area holds of the spots for open brackets.
use Rattle.std.specs.Prelude.{ℕ, ◌+◌, ◌≤◌, ◌<◌, ◌≡◌, Bool, cond, List, [], ◌∷◌, length, get_or, eqb, ltb}
use Rattle.grammar.specs.Names.{Name}
use Rattle.spots.specs.Traces.{stand, origin, Reached}
use Rattle.spots.specs.declared.Place.{Place}

-- the spot held at level j: that of the (j + 1)th open bracket from outside
unfoldable pub level : List ℕ → ℕ → ℕ
level [] j = 0
level (u ∷ held) j = cond (eqb j (length held)) u (level held j)

-- the area holds the spots of the last `height` open brackets; there are `base` brackets around these
pub record Window (a : List ℕ) (height base : ℕ) (held : List ℕ) : Type 0 where
  pub depth : length held ≡ base + height
  pub fits : height ≤ length a
  pub stored : (j : ℕ) → j < height → get_or a j 0 ≡ level held (base + j)

-- a scan stands at byte i of the text
pub record Stands (known : Name → Bool) (text a : List ℕ) (p : Place) (i : ℕ) (held : List ℕ) : Type 0 where
  pub trace : Reached known text (stand i p.spot held) (origin text)
  pub window : Window a p.height p.base held

-- ---- after an opening bracket: where the area is full, the spots in it are left

abbrev pub place : ℕ → ℕ → ℕ → Place
place s h b = record { spot = s; height = h; base = b }

unfoldable pub pushed : ℕ → Place → ℕ → Place
pushed n p s = cond (ltb p.height n) (place s (p.height + 1) p.base) (place s 1 (p.base + p.height))

unfoldable pub stored_at : ℕ → ℕ → ℕ
stored_at n h = cond (ltb h n) h 0
