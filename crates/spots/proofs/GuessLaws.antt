-- Laws of the second scan.
--     guess_out, column-…, if-…, inside-…     as the functions of `guesses` return
--     guessed_word, guessed_open, guessed_close         one lexeme
--     Seeking                                           the loop of `guesses::find_levels`
use Prim.Native.Nat.{ℕ, suc, ◌+◌, ◌-◌, ◌*◌, ◌≤◌, ◌<◌}
use native.Mathlib.Omega.{arith}
use native.Mathlib.Decide.{ℕ_discrete}
use mathlib.Core.Path.{◌≡◌, refl, sym, ap, ◌∙◌}
use mathlib.Core.Bool.{Bool, true, false, cond, not, ◌&&◌}
use mathlib.Core.List.{List, [], ◌∷◌}
use lib.ListN.{length, get_or, set, get_or-eq_default}
use lib.Seq.{get_or-set_same, get_or-set_other}
use lib.Dec.{eqb, ltb}
use borrow.Author.Tests.{lt-ltb, le-ltb, eq-eqb, ne_eqb, ltb-true, ltb-false, not-false}
use Rattle.grammar.specs.Bytes.{word_of}
use Rattle.grammar.specs.Names.{Name, symbolOnly, variableOnly}
use Rattle.lexing.specs.Counted.{place_of}
use Rattle.lexing.proofs.LexemeLaws.{word_small}
use Rattle.spots.specs.Spots.{table, cell, alike}
use Rattle.spots.specs.Judgement.{code_of_run, is_unknown}
use Rattle.spots.specs.Traces.{Stand, stand, origin, run_at, Next, words, opens, closes, Reached, Sound}
use Rattle.spots.specs.Levels.{level}
use Rattle.spots.specs.Guesses.{Lettered, Guessed, guess_column, if_between, guess_inside, guess_stored, GuessTurned, LevelsFound}
use Rattle.spots.specs.Runs.{code_of, lexeme_from, run_end, part}
use Rattle.spots.specs.declared.Guess.{Guess}
use Rattle.spots.proofs.RunLaws.{lexeme_within, end_within}
use Rattle.spots.proofs.TableFacts.{guess_word, guess_sort, guess_symbol, guess_variable, guess_open, guess_enter}
use Rattle.spots.proofs.TraceLaws.{sound_origin, sound_next, next_after, at_goal}
use Rattle.spots.proofs.Windows.{level_top, level_under}

-- ---- as the functions return

pub guess_out : (s k n : ℕ) → n ≡ s → 294 ≤ n * 14 + k → 0 ≡ get_or table (s * 14 + k) 0
guess_out s k n e l = let m : length table ≤ s * 14 + k = omega (arith, l, ap (λ i. i * 14 + k) e) in sym (get_or-eq_default table 0 m)

module _ (w : List ℕ) (code : ℕ) (is : code ≡ code_of_run w) where
  pub column_sort : code ≡ 8 → (13 ≡ guess_column w) × (13 < 14)
  unfolding guess_column
  column_sort e = (rw (eq-eqb (code_of_run w) 8 (sym is ∙ e)), omega arith)

  pub column_symbol : code ≡ 9 → get_or w 0 0 ≡ 102 → (9 ≡ guess_column w) × (9 < 14)
  unfolding guess_column
  column_symbol e f =
      let q : code_of_run w ≡ 9 = sym is ∙ e in
      (rw (ne_eqb (code_of_run w) 8 (λ x. omega (arith, q, x)), eq-eqb (code_of_run w) 9 q, eq-eqb (get_or w 0 0) 102 f) (sym q), omega arith)

  pub column_variable : code ≡ 9 → (get_or w 0 0 ≡ 102 → ⊥) → (13 ≡ guess_column w) × (13 < 14)
  unfolding guess_column
  column_variable e f =
      let q : code_of_run w ≡ 9 = sym is ∙ e in
      (rw (ne_eqb (code_of_run w) 8 (λ x. omega (arith, q, x)), eq-eqb (code_of_run w) 9 q, ne_eqb (get_or w 0 0) 102 f), omega arith)

  pub column_empty : code ≡ 9 → length w ≡ 0 → (13 ≡ guess_column w) × (13 < 14)
  column_empty e z = column_variable e (λ f. off w z f)
    where
      off : (w : List ℕ) → length w ≡ 0 → get_or w 0 0 ≡ 102 → ⊥
      off [] z f = omega arith
      off (x ∷ w) z f = omega arith

  pub column_word : (code ≡ 8 → ⊥) → (code ≡ 9 → ⊥) → (code ≡ guess_column w) × (code < 14)
  unfolding guess_column
  column_word e f =
      let r = word_small (word_of w) in
      (rw (ne_eqb (code_of_run w) 8 (λ x. e (is ∙ x)), ne_eqb (code_of_run w) 9 (λ x. f (is ∙ x))) is, omega (arith, r.1, is))

module _ (low top depth : ℕ) where
  pub if_below : {A : Type 0} (x y : A) → depth < low → y ≡ if_between low top depth x y
  unfolding if_between
  if_below x y l = rw (lt-ltb depth low l)

  pub if_inside : {A : Type 0} (x y : A) → low ≤ depth → depth < top → x ≡ if_between low top depth x y
  unfolding if_between
  if_inside x y l m = rw (le-ltb depth low l, lt-ltb depth top m)

  pub if_above : {A : Type 0} (x y : A) → low ≤ depth → top ≤ depth → y ≡ if_between low top depth x y
  unfolding if_between
  if_above x y l m = rw (le-ltb depth low l, le-ltb depth top m)

  module _ (a : List ℕ) (g : ℕ) where
    pub inside_enter : depth < low → depth + 1 ≡ low → (20 ≡ guess_inside low top depth g) × (a ≡ guess_stored a low top depth g)
    unfolding guess_inside guess_stored
    inside_enter l e = (rw (eq-eqb (depth + 1) low e), if_below (set a (depth - low) (cell g 10)) a l)

    pub inside_below : depth < low → (depth + 1 ≡ low → ⊥) → (g ≡ guess_inside low top depth g) × (a ≡ guess_stored a low top depth g)
    unfolding guess_inside guess_stored
    inside_below l e = (rw (ne_eqb (depth + 1) low e) (if_below (cell g 0) g l), if_below (set a (depth - low) (cell g 10)) a l)

    pub inside_held : low ≤ depth → depth < top → (s v : ℕ) → s ≡ cell g 0 → v ≡ cell g 10
        → (s ≡ guess_inside low top depth g) × (set a (depth - low) v ≡ guess_stored a low top depth g)
    unfolding guess_inside guess_stored
    inside_held l m s v e f = (
      rw (ne_eqb (depth + 1) low (λ q. omega arith)) (e ∙ if_inside (cell g 0) g l m),
      ap (set a (depth - low)) f ∙ if_inside (set a (depth - low) (cell g 10)) a l m,
    )

    pub inside_above : low ≤ depth → top ≤ depth → (g ≡ guess_inside low top depth g) × (a ≡ guess_stored a low top depth g)
    unfolding guess_inside guess_stored
    inside_above l m = (rw (ne_eqb (depth + 1) low (λ q. omega arith)) (if_above (cell g 0) g l m), if_above (set a (depth - low) (cell g 10)) a l m)

-- ---- one lexeme

module _ (known : Name → Bool) (letters : Lettered known) (s g : ℕ) (w : List ℕ) (low : s < 20) (is : alike s g ≡ true)
    (goes : cell s (code_of_run w) < 20) (name : is_unknown known s w ≡ false) where
  named : code_of_run w ≡ 9 → known (record { place = place_of (cell s 12); spelled = w }) ≡ true
  unfolding is_unknown
  named e = not-false (known (record { place = place_of (cell s 12); spelled = w })) (rw (eq-eqb (code_of_run w) 9 e) at name)

  not_variable : code_of_run w ≡ 9 → get_or w 0 0 ≡ 102 → cell s 12 ≡ 2 → ⊥
  not_variable e f k =
      let h : known (record { place = variableOnly; spelled = w }) ≡ true = rw k at (named e) in
      off (letters.variable w h)
    where
      off : get_or w 0 0 ≡ 118 → ⊥
      off x = omega (arith, f)

  not_symbol : code_of_run w ≡ 9 → (get_or w 0 0 ≡ 102 → ⊥) → cell s 12 ≡ 1 → ⊥
  not_symbol e f k = let h : known (record { place = symbolOnly; spelled = w }) ≡ true = rw k at (named e) in f (letters.symbol w h)

  pub guessed_run : alike (cell s (code_of_run w)) (cell g (guess_column w)) ≡ true
  unfolding guess_column
  guessed_run = go (ℕ_discrete (code_of_run w) 8) (ℕ_discrete (code_of_run w) 9) (ℕ_discrete (get_or w 0 0) 102)
    where
      go : Dec (code_of_run w ≡ 8) → Dec (code_of_run w ≡ 9) → Dec (get_or w 0 0 ≡ 102)
          → alike (cell s (code_of_run w)) (cell g (cond (eqb (code_of_run w) 8) 13 (cond (eqb (code_of_run w) 9 && not (eqb (get_or w 0 0) 102)) 13 (code_of_run w))))
          ≡ true
      go (yes e) q f = rw e (guess_sort s g low is (rw e at goes))
      go (no e) (yes q) (yes f) =
          rw (q, eq-eqb (get_or w 0 0) 102 f) (guess_symbol s g low is (rw q at goes) (not_variable q f))
      go (no e) (yes q) (no f) =
          rw (q, ne_eqb (get_or w 0 0) 102 f) (guess_variable s g low is (rw q at goes) (not_symbol q f))
      go (no e) (no q) f =
          let r = word_small (word_of w) in
          rw (ne_eqb (code_of_run w) 8 e, ne_eqb (code_of_run w) 9 q) (guess_word s g (code_of_run w) low is r.0 (omega (arith, r.1, e, q)) goes)

module _ (a : List ℕ) (low top d g : ℕ) (x : Stand) (h : Guessed a low top d g x) where
  pub guessed_word : (s n w : ℕ) → (alike x.spot g ≡ true → alike s w ≡ true) → Guessed a low top d (if_between low top d w g) (stand n s x.held)
  guessed_word s n w f = record {
    deep = h.deep;
    spot = λ l m. rw (← (if_inside low top d w g l m)) (f (h.spot l m));
    stored = h.stored;
  }

  module _ (n : ℕ) (l : x.spot < 20) (c : cell x.spot 0 < 20) (fits : top ≤ low + length a) where
    v : ℕ
    v = cell x.spot 10

    -- the levels under the bracket
    under : (b : List ℕ) → ((j : ℕ) → low ≤ j → j < d → get_or b (j - low) 0 ≡ get_or a (j - low) 0)
        → (j : ℕ) → low ≤ j → j < d → j < top → alike (level (v ∷ x.held) j) (get_or b (j - low) 0) ≡ true
    under b q j k m o = rw (level_under v x.held j (omega (arith, h.deep)), q j k m) (h.stored j k m o)

    pub guessed_open : Guessed (guess_stored a low top d g) low top (d + 1) (guess_inside low top d g) (stand n (cell x.spot 0) (cell x.spot 10 ∷ x.held))
    unfolding v
    guessed_open = go (ltb d low) refl (ltb d top) refl
      where
        y : Stand
        y = stand n (cell x.spot 0) (cell x.spot 10 ∷ x.held)

        deeper : d + 1 ≡ length (cell x.spot 10 ∷ x.held)
        deeper = omega (arith, h.deep)

        below : d < low → Guessed (guess_stored a low top d g) low top (d + 1) (guess_inside low top d g) y
        below k = record {
          deep = deeper;
          spot = λ p q. let e : d + 1 ≡ low = omega arith in rw (← (inside_enter low top d a g k e).0) (guess_enter x.spot l c);
          stored = λ j p q r. absurd (off j p q);
        }
          where
            off : (j : ℕ) → low ≤ j → j < d + 1 → ⊥
            off j p q = omega arith

        inside : low ≤ d → d < top → Guessed (guess_stored a low top d g) low top (d + 1) (guess_inside low top d g) y
        inside k m =
            let e = inside_held low top d a g k m (cell g 0) (cell g 10) refl refl in
            let o = guess_open x.spot g l (h.spot k m) c in
            record {
              deep = deeper;
              spot = λ p q. rw (← e.0) o.0;
              stored = λ j p q r. rw (← e.1) (at j p q r (ℕ_discrete j d) o.1);
            }
          where
            at : (j : ℕ) → low ≤ j → j < d + 1 → j < top → Dec (j ≡ d) → alike v (cell g 10) ≡ true
                → alike (level (v ∷ x.held) j) (get_or (set a (d - low) (cell g 10)) (j - low) 0) ≡ true
            at j p q r (yes z) t =
                rw (z, level_top v x.held d h.deep, get_or-set_same a (d - low) (cell g 10) 0 (omega arith)) t
            at j p q r (no z) t =
                under (set a (d - low) (cell g 10)) (λ i y u. get_or-set_other a (d - low) (i - low) (cell g 10) 0 (λ w. omega arith)) j p (omega arith) r

        above : low ≤ d → top ≤ d → Guessed (guess_stored a low top d g) low top (d + 1) (guess_inside low top d g) y
        above k m = record {
          deep = deeper;
          spot = λ p q. absurd (off q);
          stored = λ j p q r. rw (← (inside_above low top d a g k m).1) (under a (λ i y u. refl) j p (omega arith) r);
        }
          where
            off : d + 1 < top → ⊥
            off q = omega arith

        go : (b : Bool) → ltb d low ≡ b → (t : Bool) → ltb d top ≡ t → Guessed (guess_stored a low top d g) low top (d + 1) (guess_inside low top d g) y
        go true p t q = below (ltb-true d low p)
        go false p true q = inside (ltb-false d low p) (ltb-true d top q)
        go false p false q = above (ltb-false d low p) (ltb-false d top q)

  pub guessed_close : (n u : ℕ) (held : List ℕ) → x.held ≡ u ∷ held
      → Guessed a low top (d - 1) (if_between low top (d - 1) (get_or a (d - 1 - low) 0) g) (stand n u held)
  guessed_close n u held e =
      let deep : d ≡ suc (length held) = h.deep ∙ ap length e in
      record {
        deep = omega (arith, deep);
        spot = λ l m. rw (← (if_inside low top (d - 1) (get_or a (d - 1 - low) 0) g l m)) (back deep l m);
        stored = λ j l m o. rw (← (level_under u held j (omega (arith, deep)))) (same j l (omega (arith, deep)) o);
      }
    where
      same : (j : ℕ) → low ≤ j → j < d → j < top → alike (level (u ∷ held) j) (get_or a (j - low) 0) ≡ true
      same j l m o = rw e at (h.stored j l m o)

      back : d ≡ suc (length held) → low ≤ d - 1 → d - 1 < top → alike u (get_or a (d - 1 - low) 0) ≡ true
      back q l m = rw (level_top u held (d - 1) (omega (arith, q))) at (same (d - 1) l (omega (arith, q)) m)

-- ---- one lexeme, as `guesses::guess_turn` returns

module _ (text a : List ℕ) (low top : ℕ) (g : Guess) (i : ℕ) (l : i < length text) (n : ℕ) where
  abbrev guess : ℕ → ℕ → Guess
  guess d s = record { next = n; depth = d; spot = s }

  pub turned_word : g.depth ≤ i → code_of (get_or text i 0) ≡ 6 → (e : ℕ) → e ≡ run_end text (i + 1) → n ≡ lexeme_from text e
      → (s : ℕ) → s ≡ if_between low top g.depth (cell g.spot (guess_column (part text i e))) g.spot
      → GuessTurned text a a low top g i (guess g.depth s)
  turned_word d k e p q s f =
      let w = end_within text (i + 1) (omega arith) in
      let v = lexeme_within text e (omega (arith, w.1, p)) in
      record {
        later = omega (arith, w.0, v.0, p, q);
        inside = omega (arith, v.1, q);
        shallow = omega (arith, w.0, v.0, p, q);
        guessed = λ known letters t held y snd nx h. go known letters t held y snd nx h;
      }
    where
      go : (known : Name → Bool) → Lettered known → (t : ℕ) (held : List ℕ) (y : Stand) → Sound text (stand i t held) → Next known text (stand i t held) y
          → Guessed a low top g.depth g.spot (stand i t held) → (y.byte ≡ n) × Guessed a low top g.depth s y
      go known letters t held y snd (words _ c u) h =
          let same : lexeme_from text (run_end text (i + 1)) ≡ n = sym (q ∙ ap (lexeme_from text) p) in
          let z : s ≡ if_between low top g.depth (cell g.spot (guess_column (run_at text i))) g.spot = f
          ∙ ap (λ j. if_between low top g.depth (cell g.spot (guess_column (part text i j))) g.spot) p in (
            same,
            rw z
                (guessed_word a low top g.depth g.spot (stand i t held) h (cell t (code_of_run (run_at text i))) (lexeme_from text (run_end text (i + 1)))
                (cell g.spot (guess_column (run_at text i)))
                (λ o. guessed_run known letters t g.spot (run_at text i) snd.low o c u)),
          )
      go known letters t held y snd (opens b c) h = absurd (off (sym k ∙ b))
        where
          off : ◌≡◌ {A = ℕ} 6 3 → ⊥
          off z = omega arith
      go known letters t held y snd (closes b c u rest z) h = absurd (off (sym k ∙ b))
        where
          off : ◌≡◌ {A = ℕ} 6 4 → ⊥
          off z = omega arith

  module _ (q : n ≡ lexeme_from text (i + 1)) where
    bounds : (i < n) × (n ≤ length text)
    bounds = let v = lexeme_within text (i + 1) (omega arith) in (omega (arith, v.0, q), omega (arith, v.1, q))

    pub turned_open : g.depth ≤ i → code_of (get_or text i 0) ≡ 3 → top ≤ low + length a → (b : List ℕ) → b ≡ guess_stored a low top g.depth g.spot
        → (s : ℕ) → s ≡ guess_inside low top g.depth g.spot → GuessTurned text a b low top g i (guess (g.depth + 1) s)
    turned_open d k fits b p s f = record {
      later = bounds.0;
      inside = bounds.1;
      shallow = omega (arith, bounds.0);
      guessed = λ known letters t held y snd nx h. go known t held y snd nx h;
    }
      where
        go : (known : Name → Bool) (t : ℕ) (held : List ℕ) (y : Stand) → Sound text (stand i t held) → Next known text (stand i t held) y
            → Guessed a low top g.depth g.spot (stand i t held) → (y.byte ≡ n) × Guessed b low top (g.depth + 1) s y
        go known t held y snd (opens _ c) h =
            (sym q, rw (p, f) (guessed_open a low top g.depth g.spot (stand i t held) h (lexeme_from text (i + 1)) snd.low c fits))
        go known t held y snd (words e c u) h = absurd (off (sym k ∙ e))
          where
            off : ◌≡◌ {A = ℕ} 3 6 → ⊥
            off z = omega arith
        go known t held y snd (closes e c u rest z) h = absurd (off (sym k ∙ e))
          where
            off : ◌≡◌ {A = ℕ} 3 4 → ⊥
            off z = omega arith

    module _ (x : code_of (get_or text i 0) ≡ 6 → ⊥) (z : code_of (get_or text i 0) ≡ 3 → ⊥) where
      pub turned_empty : g.depth ≡ 0 → GuessTurned text a a low top g i (guess g.depth g.spot)
      turned_empty d = record {
        later = bounds.0;
        inside = bounds.1;
        shallow = omega (arith, d);
        guessed = λ known letters t held y snd nx h. go known t held y nx h;
      }
        where
          go : (known : Name → Bool) (t : ℕ) (held : List ℕ) (y : Stand) → Next known text (stand i t held) y
              → Guessed a low top g.depth g.spot (stand i t held)
              → (y.byte ≡ n) × Guessed a low top g.depth g.spot y
          go known t held y (words e c u) h = absurd (x e)
          go known t held y (opens e c) h = absurd (z e)
          go known t held y (closes e c u rest o) h = absurd (off (sym d ∙ h.deep ∙ ap length o))
            where
              off : 0 ≡ suc (length rest) → ⊥
              off z = omega arith

      pub turned_close : g.depth ≤ i → (s : ℕ) → s ≡ if_between low top (g.depth - 1) (get_or a (g.depth - 1 - low) 0) g.spot
          → GuessTurned text a a low top g i (guess (g.depth - 1) s)
      turned_close d s f = record {
        later = bounds.0;
        inside = bounds.1;
        shallow = omega (arith, bounds.0);
        guessed = λ known letters t held y snd nx h. go known t held y nx h;
      }
        where
          go : (known : Name → Bool) (t : ℕ) (held : List ℕ) (y : Stand) → Next known text (stand i t held) y
              → Guessed a low top g.depth g.spot (stand i t held)
              → (y.byte ≡ n) × Guessed a low top (g.depth - 1) s y
          go known t held y (words e c u) h = absurd (x e)
          go known t held y (opens e c) h = absurd (z e)
          go known t held y (closes e c u rest o) h =
              (sym q, rw f (guessed_close a low top g.depth g.spot (stand i t held) h (lexeme_from text (i + 1)) u rest o))

-- ---- the loop of `guesses::find_levels`

-- on the way to z
pub record Way (known : Name → Bool) (text a : List ℕ) (low top depth g i : ℕ) (z : Stand) : Type 0 where
  pub spot : ℕ
  pub held : List ℕ
  pub sound : Sound text (stand i spot held)
  pub reached : Reached known text z (stand i spot held)
  pub guessed : Guessed a low top depth g (stand i spot held)

pub record Seeking (text a : List ℕ) (low top stop depth g i : ℕ) : Type 0 where
  pub inside : i ≤ length text
  pub shallow : depth ≤ i
  pub way : (known : Name → Bool) → Lettered known → (z : Stand) → z.byte ≡ stop → Reached known text z (origin text) → Way known text a low top depth g i z

pub seeking_start : (text a : List ℕ) (low top stop i : ℕ) → i ≡ lexeme_from text 0 → Seeking text a low top stop 0 1 i
unfolding alike
seeking_start text a low top stop i e =
    let v = lexeme_within text 0 (omega arith) in
    record {
      inside = omega (arith, v.1, e);
      shallow = omega arith;
      way = λ known letters z q r. rw e (record {
        spot = 1;
        held = [];
        sound = sound_origin text;
        reached = r;
        guessed = record { deep = refl; spot = λ l m. refl; stored = λ j l m o. absurd (omega (arith, m)) };
      });
    }

module _ (text a : List ℕ) (low top stop depth g i : ℕ) (h : Seeking text a low top stop depth g i) where
  pub seeking_on : i < stop → (b : List ℕ) (at r : Guess) → at.depth ≡ depth → at.spot ≡ g → GuessTurned text a b low top at i r
      → Seeking text b low top stop r.depth r.spot r.next
  seeking_on l b at r ed es t = record {
    inside = t.inside;
    shallow = t.shallow;
    way = λ known letters z q o. go known letters z q (h.way known letters z q o);
  }
    where
      go : (known : Name → Bool) → Lettered known → (z : Stand) → z.byte ≡ stop → Way known text a low top depth g i z
          → Way known text b low top r.depth r.spot r.next z
      go known letters z q w =
          let o = next_after known text z (stand i w.spot w.held) w.reached (omega (arith, q, l)) in
          let s = sound_next known text (stand i w.spot w.held) o.to w.sound o.inside o.next in
          let k : Guessed a low top at.depth at.spot (stand i w.spot w.held) = rw (ed, es) w.guessed in
          let n = t.guessed known letters w.spot w.held o.to w.sound o.next k in
          rw (← n.0) (record { spot = o.to.spot; held = o.to.held; sound = s.0; reached = o.rest; guessed = n.1 })

  pub seeking_end : stop ≤ i → LevelsFound text a low top stop
  seeking_end l known letters s held r d j p q =
      let z = stand stop s held in
      let w = h.way known letters z refl r in
      let e = at_goal known text z (stand i w.spot w.held) w.sound w.reached l in
      let same : w.held ≡ held = ap (λ x. x.held) e in
      let deep : depth ≡ top = w.guessed.deep ∙ ap length same ∙ d in
      rw same at (w.guessed.stored j p (omega (arith, deep)) q)
