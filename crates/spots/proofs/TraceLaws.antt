-- Laws of traces: where a scan can stand.
--     sound_origin, sound_next, sound_reached     what holds of each stand
--     reached_on, next_after                      one lexeme more; the next one on the way
use Prim.Native.Nat.{ℕ, suc, ◌+◌, ◌≤◌, ◌<◌}
use native.Mathlib.Omega.{arith}
use mathlib.Core.Path.{◌≡◌, refl, ap}
use mathlib.Core.Bool.{Bool}
use mathlib.Core.List.{List, ◌∷◌}
use lib.ListN.{length}
use Rattle.grammar.specs.Bytes.{word_of}
use Rattle.grammar.specs.Names.{Name}
use Rattle.lexing.proofs.LexemeLaws.{word_small}
use Rattle.spots.specs.Spots.{Nested}
use Rattle.spots.specs.Runs.{run_end}
use Rattle.spots.specs.Judgement.{code_of_run}
use Rattle.spots.specs.Traces.{Stand, origin, run_at, Next, words, opens, closes, Reached, here, more, Sound}
use Rattle.spots.proofs.RunLaws.{lexeme_within, lexeme_first, end_within}
use Rattle.spots.proofs.TableFacts.{word_keeps, opens_keeps, behind_low}

pub sound_origin : (text : List ℕ) → Sound text (origin text)
sound_origin text =
    let w = lexeme_within text 0 (omega arith) in
    record { low = omega arith; nested = omega arith; depth = omega arith; inside = w.1; first = lexeme_first text 0 (omega arith) }

module _ (known : Name → Bool) (text : List ℕ) where
  -- the next stand, and that it is later
  pub sound_next : (x y : Stand) → Sound text x → x.byte < length text → Next known text x y → Sound text y × (x.byte < y.byte)
  sound_next x y h l (words e c u) =
      let i = x.byte in
      let r = word_small (word_of (run_at text i)) in
      let a = end_within text (i + 1) (omega arith) in
      let b = lexeme_within text (run_end text (i + 1)) a.1 in (
        record {
          low = c;
          nested = word_keeps x.spot (code_of_run (run_at text i)) x.held h.low r.0 r.1 c h.nested;
          depth = omega (arith, h.depth, a.0, b.0);
          inside = b.1;
          first = lexeme_first text (run_end text (i + 1)) a.1;
        },
        omega (arith, a.0, b.0),
      )
  sound_next x y h l (opens e c) =
      let i = x.byte in
      let b = lexeme_within text (i + 1) (omega arith) in (
        record {
          low = c;
          nested = opens_keeps x.spot x.held h.low c h.nested;
          depth = omega (arith, h.depth, b.0);
          inside = b.1;
          first = lexeme_first text (i + 1) (omega arith);
        },
        omega (arith, b.0),
      )
  sound_next x y h l (closes e c u rest q) =
      let i = x.byte in
      let b = lexeme_within text (i + 1) (omega arith) in
      let n : Nested x.spot (u ∷ rest) = rw q at h.nested in
      let d : length x.held ≡ suc (length rest) = ap length q in (
        record {
          low = behind_low x.spot u h.low n.0;
          nested = n.1;
          depth = omega (arith, h.depth, d, b.0);
          inside = b.1;
          first = lexeme_first text (i + 1) (omega arith);
        },
        omega (arith, b.0),
      )

  pub sound_reached : (z x : Stand) → Sound text x → Reached known text z x → Sound text z
  sound_reached z x h here = h
  sound_reached z x h (more _ y l n r) = sound_reached z y (sound_next x y h l n).0 r

  pub reached_on : (z x y : Stand) → Reached known text z x → z.byte < length text → Next known text z y → Reached known text y x
  reached_on z x y here l n = more z y l n here
  reached_on z x y (more _ x' k m r) l n = more x x' k m (reached_on z x' y r l n)

  pub record OnTheWay (z x : Stand) : Type 0 where
    pub to : Stand
    pub inside : x.byte < length text
    pub next : Next known text x to
    pub rest : Reached known text z to

  pub next_after : (z x : Stand) → Reached known text z x → x.byte < z.byte → OnTheWay z x
  next_after z x here l = absurd (off l)
    where
      off : z.byte < z.byte → ⊥
      off l = omega arith
  next_after z x (more _ y k n r) l = record { to = y; inside = k; next = n; rest = r }

  later : (z x : Stand) → Sound text x → Reached known text z x → x.byte ≤ z.byte
  later z x h here = omega arith
  later z x h (more _ y l n r) =
      let s = sound_next x y h l n in
      let k = later z y s.0 r in
      omega (arith, k, s.1)

  -- the way ends where the bytes are the same
  pub at_goal : (z x : Stand) → Sound text x → Reached known text z x → z.byte ≤ x.byte → x ≡ z
  at_goal z x h here l = refl
  at_goal z x h (more _ y k n r) l =
      let s = sound_next x y h k n in
      let m = later z y s.0 r in
      absurd (off m s.1 l)
    where
      off : {a b c : ℕ} → a ≤ b → c < a → b ≤ c → ⊥
      off x y z = omega arith
