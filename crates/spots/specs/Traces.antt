-- Where a scan stands after each lexeme, with no limit on the brackets held.
use Rattle.std.specs.Prelude.{ℕ, ◌+◌, ◌≤◌, ◌<◌, ◌≡◌, Bool, true, false, List, [], ◌∷◌, length, get_or, ltb}
use Rattle.grammar.specs.Names.{Name}
use Rattle.spots.specs.Spots.{cell, Nested}
use Rattle.spots.specs.Runs.{code_of, lexeme_from, run_end, part}
use Rattle.spots.specs.Judgement.{code_of_run, is_unknown}

-- at the first byte of a lexeme, or at the text's end
pub record Stand : Type 0 where
  pub byte : ℕ
  pub spot : ℕ
  pub held : List ℕ

abbrev pub stand : ℕ → ℕ → List ℕ → Stand
stand i s held = record { byte = i; spot = s; held = held }

abbrev pub origin : List ℕ → Stand
origin text = stand (lexeme_from text 0) 1 []

-- the run from a byte on
abbrev pub run_at : List ℕ → ℕ → List ℕ
run_at text i = part text i (run_end text (i + 1))

-- one lexeme that is not refused
pub data Next (known : Name → Bool) (text : List ℕ) (x : Stand) : Stand → Type 0 where
  words : code_of (get_or text x.byte 0) ≡ 6 → cell x.spot (code_of_run (run_at text x.byte)) < 20
      → is_unknown known x.spot (run_at text x.byte) ≡ false
      → Next known text x (stand (lexeme_from text (run_end text (x.byte + 1))) (cell x.spot (code_of_run (run_at text x.byte))) x.held)
  opens : code_of (get_or text x.byte 0) ≡ 3 → cell x.spot 0 < 20
      → Next known text x (stand (lexeme_from text (x.byte + 1)) (cell x.spot 0) (cell x.spot 10 ∷ x.held))
  closes : code_of (get_or text x.byte 0) ≡ 4 → (cell x.spot 1 ≡ 99 → ⊥) → (u : ℕ) (held : List ℕ) → x.held ≡ u ∷ held
      → Next known text x (stand (lexeme_from text (x.byte + 1)) u held)

-- lexeme by lexeme, z is reached from a stand
pub data Reached (known : Name → Bool) (text : List ℕ) (z : Stand) : Stand → Type 0 where
  here : Reached known text z z
  more : (x y : Stand) → x.byte < length text → Next known text x y → Reached known text z y → Reached known text z x

-- what holds of each stand that a scan reaches
pub record Sound (text : List ℕ) (x : Stand) : Type 0 where
  pub low : x.spot < 20
  pub nested : Nested x.spot x.held
  pub depth : length x.held ≤ x.byte
  pub inside : x.byte ≤ length text
  pub first : x.byte < length text → ltb 2 (code_of (get_or text x.byte 0)) ≡ true
