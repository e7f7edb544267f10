-- One lexeme of the scan, in the lent area.
use Rattle.std.specs.Prelude.{ℕ, ◌+◌, ◌≤◌, ◌<◌, ◌≡◌, Bool, List, ◌∷◌, length, drop, Result, Ok, Err}
use Rattle.logic.specs.Tests.{fault}
use Rattle.logic.specs.declared.checks.Failure.{Failure}
use Rattle.logic.specs.Failures.{check_number}
use Rattle.grammar.specs.Names.{Name}
use Rattle.spots.specs.Spots.{cell}
use Rattle.spots.specs.Judgement.{declared_by, judge_from, standing}
use Rattle.spots.specs.Traces.{stand, Next}
use Rattle.spots.specs.Levels.{Window, Stands}
use Rattle.spots.specs.Guesses.{Lettered}
use Rattle.spots.specs.declared.Place.{Place}
use Rattle.spots.specs.declared.Turn.{Turn}

-- what a closing bracket asks: the table has the spot `back` for it, or says that it is the one held; some bracket is open
pub record Closing (text a : List ℕ) (p : Place) (back i : ℕ) : Type 0 where
  pub spot : p.spot < 20
  pub fits : p.height ≤ length a
  pub room : 32768 ≤ length a
  pub inside : i ≤ length text
  pub some : 0 < p.base + p.height
  pub behind : back ≡ cell p.spot 1
  pub taken : back < 99

-- behind a closing bracket: the spot that was held, and the area holds those under it
abbrev pub Popped : List ℕ → List ℕ → List ℕ → Place → ℕ → Place → Type 0
Popped text a b p i r =
    (known : Name → Bool) → Lettered known → (u : ℕ) (held : List ℕ) → Stands known text a p i (u ∷ held) → (r.spot ≡ u) × Window b r.height r.base held

-- a lexeme is taken: the verdict is that of the rest
pub record Goes (known : Name → Bool) (text : List ℕ) (i s : ℕ) (held a : List ℕ) (t : Turn) : Type 0 where
  pub rest : List ℕ
  pub next : Next known text (stand i s held) (stand t.next t.place.spot rest)
  pub window : Window a t.place.height t.place.base rest
  pub judged : judge_from known i (drop i text) (standing s held) ≡ judge_from known t.next (drop t.next text) (standing t.place.spot rest)

-- the verdict is found, or it is that of the rest
abbrev pub Turned : (Name → Bool) → List ℕ → ℕ → ℕ → List ℕ → List ℕ → Result Turn Failure → Type 0
Turned known text i s held a (Ok t) = Goes known text i s held a t
Turned known text i s held a (Err f) = judge_from known i (drop i text) (standing s held) ≡ fault (check_number f.check) f.«record»

-- some brackets are held
pub record Scanning (known : Name → Bool) (text a : List ℕ) (p : Place) (i : ℕ) : Type 0 where
  pub held : List ℕ
  pub stands : Stands known text a p i held

-- what one lexeme asks, where there are f symbols and v variables
pub record Turning (f v : ℕ) (text a : List ℕ) (p : Place) (i : ℕ) : Type 0 where
  pub inside : i < length text
  pub room : 32768 ≤ length a
  pub symbols : f ≤ 4294967295
  pub variables : v ≤ 4294967295
  pub scanning : Scanning (declared_by f v) text a p i

abbrev pub TurnedFrom : (Name → Bool) → List ℕ → List ℕ → List ℕ → Place → ℕ → Result Turn Failure → Type 0
TurnedFrom known text a b p i r = (held : List ℕ) → Stands known text a p i held → Turned known text i p.spot held b r
