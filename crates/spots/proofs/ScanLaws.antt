-- Laws of one lexeme of the scan, as `scan::turn` returns; and of the scan's loop.
use Prim.Native.Nat.{ℕ, suc, ◌+◌, ◌*◌, ◌≤◌, ◌<◌}
use native.Mathlib.Omega.{arith}
use mathlib.Core.Path.{◌≡◌, refl, sym, ap, ◌∙◌}
use mathlib.Core.Bool.{Bool, true, false, cond, ◌&&◌, false≢true}
use mathlib.Core.List.{List, [], ◌∷◌}
use lib.ListN.{length, get_or, set, drop}
use lib.Dec.{eqb, ltb, leb}
use borrow.Author.Tests.{eq-eqb, ne_eqb, eqb-true, ltb-true, ltb-false}
use Rattle.std.specs.Prelude.{Result, Ok, Err}
use Rattle.logic.specs.Tests.{fault}
use Rattle.logic.specs.declared.checks.Failure.{Failure}
use Rattle.grammar.specs.Names.{Name, resolve}
use Rattle.reading.specs.Called.{number_after, is_numeral, decimal}
use Rattle.lexing.specs.Counted.{number_within, known_among}
use Rattle.spots.specs.Spots.{table, cell, due_at}
use Rattle.spots.specs.Runs.{code_of, lexeme_from, run_end, part}
use Rattle.spots.specs.Judgement.{verdict_of, declared_by, judge_from, standing, unread_text, unknown_name, code_of_run, is_unknown, viable_bytes, word_met}
use Rattle.spots.specs.Traces.{stand, origin, run_at, words, opens, closes, here, Sound}
use Rattle.spots.specs.Levels.{Stands, place, pushed, stored_at}
use Rattle.spots.specs.Guesses.{Lettered}
use Rattle.spots.specs.Turns.{Popped, Turned, Scanning, Turning, TurnedFrom}
use Rattle.spots.specs.declared.Place.{Place as Where}
use Rattle.spots.specs.declared.Turn.{Turn}
use Rattle.spots.proofs.Resolutions.{resolved_judged}
use Rattle.spots.proofs.LexemeLaws.{over_lexeme, opens_goes, opens_stops, closes_goes, closes_stops, stray_stops, word_goes, word_unknown}
use Rattle.spots.proofs.LexemeLaws.{word_stops, judged_end}
use Rattle.spots.proofs.TableFacts.{closes_some, closes_most}
use Rattle.spots.proofs.TraceLaws.{sound_next, reached_on}
use Rattle.spots.proofs.Windows.{window_start, window_pushed, pushed_spot}
use Rattle.spots.proofs.PopLaws.{stands_sound}

-- ---- the names declared start with the letter of their kind

letter_of : (letter low high : ℕ) (w : List ℕ) → 1 ≤ low → ltb 0 (number_within letter low high w) ≡ true → get_or w 0 0 ≡ letter
unfolding number_within number_after
letter_of letter low high [] l h = absurd (false≢true (rw (borrow.Author.Tests.lt-leb low 0 (omega arith)) at h))
letter_of letter low high (c ∷ cs) l h = go (eqb c letter) refl h
  where
    go : (b : Bool) → eqb c letter ≡ b
        → ltb 0 (cond (leb low (cond (b && is_numeral cs) (decimal 0 cs) 0) && leb (cond (b && is_numeral cs) (decimal 0 cs) 0) high)
        (cond (b && is_numeral cs) (decimal 0 cs) 0) 0) ≡ true
        → c ≡ letter
    go true e h = eqb-true c letter e
    go false e h = absurd (false≢true (rw (borrow.Author.Tests.lt-leb low 0 (omega arith)) at h))

pub lettered : (symbols variables : ℕ) → Lettered (declared_by symbols variables)
unfolding declared_by known_among
lettered symbols variables = record {
  symbol = λ w h. letter_of 102 33 (32 + symbols) w (omega arith) h;
  variable = λ w h. letter_of 118 1 variables w (omega arith) h;
}

-- ---- one lexeme

abbrev turn_to : ℕ → Where → Turn
turn_to n p = record { next = n; place = p }

-- the turn that a word gives
abbrev pub turn_by : ℕ → Where → Result ℕ Failure → Result Turn Failure
turn_by n p (Ok s) = Ok (turn_to n (place s p.height p.base))
turn_by n p (Err f) = Err f

module _ (known : Name → Bool) (text a : List ℕ) (p : Where) (i : ℕ) (l : i < length text) (held : List ℕ) (st : Stands known text a p i held) where
  sound : Sound text (stand i p.spot held)
  sound = stands_sound known text a p i held st

  word_by : (b : Bool) → ltb (cell p.spot (code_of_run (run_at text i))) 20 ≡ b → (u : Bool) → is_unknown known p.spot (run_at text i) ≡ u
      → code_of (get_or text i 0) ≡ 6
      → (m : Result ℕ Failure) → m ≡ cond b (cond u (Err (unknown_name i)) (Ok (cell p.spot (code_of_run (run_at text i)))))
      (Err (unread_text (i + viable_bytes p.spot (run_at text i))))
      → Turned known text i p.spot held a (turn_by (lexeme_from text (run_end text (i + 1))) p m)
  word_by true x true y k m e =
      rw e (word_unknown known text i p.spot held sound.low sound.nested l k (ltb-true (cell p.spot (code_of_run (run_at text i))) 20 x) y)
  word_by true x false y k m e =
      let c = ltb-true (cell p.spot (code_of_run (run_at text i))) 20 x in
      rw e (record { rest = held; next = words k c y; window = st.window; judged = word_goes known text i p.spot held sound.low sound.nested l k c y })
  word_by false x u y k m e =
      rw e (word_stops known text i p.spot held sound.low sound.nested l k (ltb-false (cell p.spot (code_of_run (run_at text i))) 20 x))

  pub turned_run : code_of (get_or text i 0) ≡ 6 → (e : ℕ) → e ≡ run_end text (i + 1) → (n : ℕ) → n ≡ lexeme_from text e → (m : Result ℕ Failure)
      → m ≡ word_met known p.spot i (part text i e)
      → Turned known text i p.spot held a (turn_by n p m)
  unfolding word_met
  turned_run k e f n q m is =
      rw (q, f)
      (word_by (ltb (cell p.spot (code_of_run (run_at text i))) 20) refl (is_unknown known p.spot (run_at text i)) refl k m
      (is ∙ ap (λ j. word_met known p.spot i (part text i j)) f))

  pub turned_inside : code_of (get_or text i 0) ≡ 3 → (c : ℕ) → c ≡ cell p.spot 0 → c < 20 → 0 < length a → (n : ℕ) → n ≡ lexeme_from text (i + 1)
      → (q : Where) → q ≡ pushed (length a) p c → (b : List ℕ) → b ≡ set a (stored_at (length a) p.height) (cell p.spot 10)
      → Turned known text i p.spot held b (Ok (turn_to n q))
  turned_inside k c is lc la n en q eq b eb =
      let m : cell p.spot 0 < 20 = omega (arith, is) in
      let w = window_pushed a p held c (cell p.spot 10) st.window la in
      let z : q.spot ≡ cell p.spot 0 = ap (λ r. r.spot) eq ∙ pushed_spot (length a) p c ∙ is in
      record {
        rest = cell p.spot 10 ∷ held;
        next = rw (en, z) (opens k m);
        window = rw (eb, eq) w;
        judged = rw (en, z) (opens_goes known text i p.spot held sound.low sound.nested l k m);
      }

  pub turned_closed : code_of (get_or text i 0) ≡ 4 → Lettered known → (c : ℕ) → c ≡ cell p.spot 1 → c < 99 → (n : ℕ) → n ≡ lexeme_from text (i + 1)
      → (b : List ℕ) (q : Where) → Popped text a b p i q → Turned known text i p.spot held b (Ok (turn_to n q))
  turned_closed k letters c is lc n en b q pop = go (closes_some p.spot sound.low ok held sound.nested)
    where
      ok : cell p.spot 1 ≡ 99 → ⊥
      ok e = omega (arith, is, lc)

      go : ((u : ℕ) × (rest : List ℕ) × (held ≡ u ∷ rest)) → Turned known text i p.spot held b (Ok (turn_to n q))
      go h =
          let r = pop known letters h.0 h.1 (rw h.2 at st) in
          record {
            rest = h.1;
            next = rw (en, r.0) (closes k ok h.0 h.1 h.2);
            window = r.1;
            judged = rw (en, r.0) (closes_goes known text i p.spot held sound.low sound.nested l k ok h.0 h.1 h.2);
          }

  pub turned_not_inside : code_of (get_or text i 0) ≡ 3 → (c : ℕ) → c ≡ cell p.spot 0 → 20 ≤ c → Turned known text i p.spot held a (Err (unread_text i))
  turned_not_inside k c is lc = opens_stops known text i p.spot held sound.low sound.nested l k (omega (arith, is))

  pub turned_not_closed : code_of (get_or text i 0) ≡ 4 → (c : ℕ) → c ≡ cell p.spot 1 → 99 ≤ c → Turned known text i p.spot held a (Err (unread_text i))
  turned_not_closed k c is lc =
      closes_stops known text i p.spot held sound.low sound.nested l k (closes_most p.spot sound.low (omega (arith, is)))

  pub turned_stray : (code_of (get_or text i 0) ≡ 6 → ⊥) → (code_of (get_or text i 0) ≡ 3 → ⊥) → (code_of (get_or text i 0) ≡ 4 → ⊥)
      → Turned known text i p.spot held a (Err (unread_text i))
  turned_stray x y z = stray_stops known text i p.spot held sound.low sound.nested l (sound.first l) y z x

pub first_cell : (s c : ℕ) → c ≡ get_or table (s * 14) 0 → c ≡ cell s 0
first_cell s c e = let z : s * 14 ≡ s * 14 + 0 = omega arith in e ∙ ap (λ k. get_or table k 0) z

-- what `scan::turn` asks of what it calls
module _ {f v : ℕ} {text a : List ℕ} {p : Where} {i : ℕ} (h : Turning f v text a p i) where
  s : Scanning (declared_by f v) text a p i
  s = h.scanning

  now_sound : Sound text (stand i p.spot s.held)
  now_sound = stands_sound (declared_by f v) text a p i s.held s.stands

  pub turning_low : p.spot < 20
  turning_low = now_sound.low

  pub turning_fits : (p.height ≤ length a) × (p.base + p.height ≤ i)
  turning_fits = let d = s.stands.window.depth in let n = now_sound.depth in (s.stands.window.fits, omega (arith, d, n))

  pub turning_some : {c : ℕ} → c ≡ cell p.spot 1 → c < 99 → 0 < p.base + p.height
  turning_some is lc = go (closes_some p.spot turning_low ok s.held now_sound.nested)
    where
      ok : cell p.spot 1 ≡ 99 → ⊥
      ok e = omega (arith, is, lc)

      go : ((u : ℕ) × (rest : List ℕ) × (s.held ≡ u ∷ rest)) → 0 < p.base + p.height
      go r = let d = s.stands.window.depth in let n : length s.held ≡ suc (length r.1) = ap length r.2 in omega (arith, d, n)

-- ---- the loop of `scan::scan`

-- the verdict is that of the rest
pub record Passing (known : Name → Bool) (text a : List ℕ) (p : Where) (i : ℕ) : Type 0 where
  pub scanning : Scanning known text a p i
  pub rest : verdict_of (resolve known text) ≡ judge_from known i (drop i text) (standing p.spot scanning.held)

pub passing_start : (known : Name → Bool) (text a : List ℕ) (i : ℕ) → i ≡ lexeme_from text 0 → Passing known text a (place 1 0 0) i
passing_start known text a i e = rw e (record {
  scanning = record { held = []; stands = record { trace = here; window = window_start a } };
  rest = resolved_judged known text ∙ over_lexeme known text (due_at 1 []) 0;
})

module _ (known : Name → Bool) (text a : List ℕ) (p : Where) (i : ℕ) (h : Passing known text a p i) where
  module _ (b : List ℕ) where
    pub passing_on : i < length text → (r : Turn) → TurnedFrom known text a b p i (Ok r) → Passing known text b r.place r.next × (i < r.next)
    passing_on l r t =
        let g = t h.scanning.held h.scanning.stands in
        let x = stand i p.spot h.scanning.held in
        let y = stand r.next r.place.spot g.rest in
        let o = sound_next known text x y (stands_sound known text a p i h.scanning.held h.scanning.stands) l g.next in (
          record {
            scanning = record {
              held = g.rest;
              stands = record { trace = reached_on known text x (origin text) y h.scanning.stands.trace l g.next; window = g.window };
            };
            rest = h.rest ∙ g.judged;
          },
          o.1,
        )

  module _ (l : length text ≤ i) where
    ended : verdict_of (resolve known text) ≡ cond (eqb p.spot 0) (fault 0 0) (fault 19 i)
    ended =
        let o = stands_sound known text a p i h.scanning.held h.scanning.stands in
        h.rest ∙ judged_end known text i p.spot h.scanning.held o.low o.nested l

    pub passing_read : p.spot ≡ 0 → fault 0 0 ≡ verdict_of (resolve known text)
    passing_read z = sym (ended ∙ rw (eq-eqb p.spot 0 z))

    pub passing_short : (p.spot ≡ 0 → ⊥) → fault 19 i ≡ verdict_of (resolve known text)
    passing_short z = sym (ended ∙ rw (ne_eqb p.spot 0 z))
