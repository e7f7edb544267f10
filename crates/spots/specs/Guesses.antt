-- The second scan: from the text's start on it finds again the spots of the levels from `low` up to before `top`, for a scan that stands at a byte.
-- Below these levels and above them it counts brackets alone. Where the levels begin it does not know what a bracket is: the next lexeme tells.
use Rattle.std.specs.Prelude.{ℕ, ◌+◌, ◌-◌, ◌≤◌, ◌<◌, ◌≡◌, Bool, true, cond, not, ◌&&◌, List, length, get_or, set, eqb, ltb}
use Rattle.grammar.specs.Names.{Name, symbolOnly, variableOnly}
use Rattle.spots.specs.Spots.{cell, alike}
use Rattle.spots.specs.Judgement.{code_of_run}
use Rattle.spots.specs.Traces.{Stand, stand, origin, Next, Reached, Sound}
use Rattle.spots.specs.Levels.{level}
use Rattle.spots.specs.declared.Guess.{Guess}

-- the names known start with the letter of their kind: 'f' is 102, 'v' is 118
pub record Lettered (known : Name → Bool) : Type 0 where
  pub symbol : (w : List ℕ) → known (record { place = symbolOnly; spelled = w }) ≡ true → get_or w 0 0 ≡ 102
  pub variable : (w : List ℕ) → known (record { place = variableOnly; spelled = w }) ≡ true → get_or w 0 0 ≡ 118

-- at a depth, with g taken for the spot; below `low` and from `top` on only brackets are counted
pub record Guessed (a : List ℕ) (low top depth g : ℕ) (x : Stand) : Type 0 where
  pub deep : depth ≡ length x.held
  pub spot : low ≤ depth → depth < top → alike x.spot g ≡ true
  pub stored : (j : ℕ) → low ≤ j → j < depth → j < top → alike (level x.held j) (get_or a (j - low) 0) ≡ true

-- the column of the table for a run: a name that does not start with 'f' is taken for a variable's
unfoldable pub guess_column : List ℕ → ℕ
guess_column w = cond (eqb (code_of_run w) 8) 13 (cond (eqb (code_of_run w) 9 && not (eqb (get_or w 0 0) 102)) 13 (code_of_run w))

-- what is inside the levels from low up to before top, else what stands
unfoldable pub if_between : {A : Type 0} → ℕ → ℕ → ℕ → A → A → A
if_between low top depth x y = cond (ltb depth low) y (cond (ltb depth top) x y)

-- the spot inside an opening bracket: not known where the levels begin
unfoldable pub guess_inside : ℕ → ℕ → ℕ → ℕ → ℕ
unfolding if_between
guess_inside low top depth g = cond (eqb (depth + 1) low) 20 (if_between low top depth (cell g 0) g)

unfoldable pub guess_stored : List ℕ → ℕ → ℕ → ℕ → ℕ → List ℕ
unfolding if_between
guess_stored a low top depth g = if_between low top depth (set a (depth - low) (cell g 10)) a

-- one lexeme of the second scan: on the way of a scan, it is taken for what it was
pub record GuessTurned (text a b : List ℕ) (low top : ℕ) (g : Guess) (i : ℕ) (r : Guess) : Type 0 where
  pub later : i < r.next
  pub inside : r.next ≤ length text
  pub shallow : r.depth ≤ r.next
  pub guessed : (known : Name → Bool) → Lettered known → (s : ℕ) (held : List ℕ) (y : Stand) → Sound text (stand i s held)
      → Next known text (stand i s held) y → Guessed a low top g.depth g.spot (stand i s held)
      → (y.byte ≡ r.next) × Guessed b low top r.depth r.spot y

-- the levels of a scan that stands at a byte are found
abbrev pub LevelsFound : List ℕ → List ℕ → ℕ → ℕ → ℕ → Type 0
LevelsFound text a low top stop =
    (known : Name → Bool) → Lettered known → (s : ℕ) (held : List ℕ) → Reached known text (stand stop s held) (origin text) → length held ≡ top
    → (j : ℕ) → low ≤ j → j < top → alike (level held j) (get_or a (j - low) 0) ≡ true
