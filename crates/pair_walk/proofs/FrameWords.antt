-- Frames in words.
--     frames_length                   an agenda has as many frames as its height says
--     frames_same                     words from its height on do not matter
--     frames_pushed, frames_advanced  a frame stored, and two of its words
--     frames_top                      the frame on top
--     crossed_few                     no more variables are crossed than there are frames
--     frame_pending, frame_leave      a frame whose first word is not 0, and one whose first word is
--     place_fits, other_fits          the places of variables crossed
--     kept_more                       a pair of variables crossed
--     kept_same                       the same variables crossed
--     turn_none, turn_lower, turn_other, turn_at     the next pair, by the code's tests
--     taken_off, taken_on             the frame after that
--     closes_here, closes_rising, follows_none     the test for an application of which nothing is left, by the nexts of two links
use mathlib.Core.Path.{◌≡◌, refl, ap, ap₂, ◌∙◌}
use mathlib.Core.Bool.{Bool, true, false, cond, ◌&&◌, and-false}
use mathlib.Core.List.{List, [], ◌∷◌}
use Prim.Native.Nat.{ℕ, zero, suc, ◌+◌, ◌*◌, ◌-◌, ◌≤◌, ◌<◌}
use native.Mathlib.Omega.{arith}
use lib.ListN.{length, get_or, set}
use lib.Dec.{eqb, ltb, leb}
use lib.Seq.{lt-length-set, get_or-set_same, get_or-set_other}
use borrow.Author.Tests.{lt-ltb, le-ltb, ne_eqb}
use Rattle.std.specs.Prelude.{Result, Ok, Err}
use Rattle.bundle.specs.Bundle.{Bundle, term_of}
use Rattle.bundle.specs.Links.{follows, next_of}
use Rattle.logic.specs.declared.Limited.{Limited}
use Rattle.logic.specs.declared.Limited.TheVariants.{Different, Spent}
use Rattle.logic.specs.ReflWalk.{Crossed, lefts, rights}
use Rattle.crossings.specs.Places.{stamp, Binders, HaveCrossed}
use Rattle.crossings.proofs.Stamps.{stamp_le, lefts_length, rights_length}
use Rattle.pair_walk.specs.declared.turns.Pair.{Pair}
use Rattle.pair_walk.specs.Agenda.{Frame, pending, leave, frame_of, frames, crossed_by, rest, advanced, closes, Kept, Path, with_frames, turn_to}

pub frame_pending : (l r i j e : ℕ) → 1 ≤ l → frame_of l r i j e ≡ pending l r i j
unfolding frame_of
frame_pending zero r i j e h = absurd (omega arith)
frame_pending (suc l) r i j e h = refl

pub frame_leave : (l x y o p : ℕ) → l ≡ 0 → frame_of l x y o p ≡ leave x y o p
unfolding frame_of
frame_leave zero x y o p h = refl
frame_leave (suc l) x y o p h = absurd (omega arith)

pub frames_length : (w : List ℕ) (h : ℕ) → length (frames w h) ≡ h
unfolding frames
frames_length w zero = refl
frames_length w (suc h) = ap suc (frames_length w h)

pub crossed_few : (fs : List Frame) → length (crossed_by fs) ≤ length fs
unfolding crossed_by
crossed_few [] = omega arith
crossed_few (pending l r i j ∷ fs) = omega (arith, crossed_few fs)
crossed_few (leave x y o p ∷ fs) = omega (arith, crossed_few fs)

pub frames_same : (w w' : List ℕ) (h : ℕ) → ((k : ℕ) → k < 5 * h → get_or w' k 0 ≡ get_or w k 0) → frames w' h ≡ frames w h
unfolding frames
frames_same w w' zero e = refl
frames_same w w' (suc h) e =
    ap₂ ◌∷◌
    (rw (
      e (5 * h) (omega arith),
      e (5 * h + 1) (omega arith),
      e (5 * h + 2) (omega arith),
      e (5 * h + 3) (omega arith),
      e (5 * h + 4) (omega arith),
    )) (frames_same w w' h (λ k l. e k (omega arith)))

-- the frame of height h, where its words are known and those below it are as they were
frames_stored : (w w' : List ℕ) (h l r i j e : ℕ) → ((k : ℕ) → k < 5 * h → get_or w' k 0 ≡ get_or w k 0) → get_or w' (5 * h) 0 ≡ l → get_or w' (5 * h + 1) 0 ≡ r
    → get_or w' (5 * h + 2) 0 ≡ i → get_or w' (5 * h + 3) 0 ≡ j → get_or w' (5 * h + 4) 0 ≡ e → frames w' (suc h) ≡ frame_of l r i j e ∷ frames w h
unfolding frames
frames_stored w w' h l r i j e same p q s t u = ap₂ ◌∷◌ (rw (p, q, s, t, u)) (frames_same w w' h same)

module _ (w : List ℕ) (h : ℕ) (room : 5 * h + 5 ≤ length w) where
  pub frames_pushed : (l r i j e : ℕ)
      → frames (set (set (set (set (set w (5 * h) l) (5 * h + 1) r) (5 * h + 2) i) (5 * h + 3) j) (5 * h + 4) e) (suc h) ≡ frame_of l r i j e ∷ frames w h
  frames_pushed l r i j e =
      let f : ℕ = 5 * h in
      let w₁ : List ℕ = set w f l in
      let w₂ : List ℕ = set w₁ (f + 1) r in
      let w₃ : List ℕ = set w₂ (f + 2) i in
      let w₄ : List ℕ = set w₃ (f + 3) j in
      let w₅ : List ℕ = set w₄ (f + 4) e in
      frames_stored w w₅ h l r i j e
      (λ k m. get_or-set_other w₄ (f + 4) k e 0 (λ z. omega arith) ∙ get_or-set_other w₃ (f + 3) k j 0 (λ z. omega arith) ∙ get_or-set_other w₂ (f + 2) k i 0 (λ z. omega arith)
      ∙ get_or-set_other w₁ (f + 1) k r 0 (λ z. omega arith) ∙ get_or-set_other w f k l 0 (λ z. omega arith))
      (get_or-set_other w₄ (f + 4) f e 0 (λ z. omega arith) ∙ get_or-set_other w₃ (f + 3) f j 0 (λ z. omega arith) ∙ get_or-set_other w₂ (f + 2) f i 0 (λ z. omega arith)
      ∙ get_or-set_other w₁ (f + 1) f r 0 (λ z. omega arith) ∙ get_or-set_same w f l 0 (omega arith))
      (get_or-set_other w₄ (f + 4) (f + 1) e 0 (λ z. omega arith) ∙ get_or-set_other w₃ (f + 3) (f + 1) j 0 (λ z. omega arith) ∙ get_or-set_other w₂ (f + 2) (f + 1) i 0 (λ z. omega arith)
      ∙ get_or-set_same w₁ (f + 1) r 0 (lt-length-set w f l (omega arith)))
      (get_or-set_other w₄ (f + 4) (f + 2) e 0 (λ z. omega arith) ∙ get_or-set_other w₃ (f + 3) (f + 2) j 0 (λ z. omega arith)
      ∙ get_or-set_same w₂ (f + 2) i 0 (lt-length-set w₁ (f + 1) r (lt-length-set w f l (omega arith))))
      (get_or-set_other w₄ (f + 4) (f + 3) e 0 (λ z. omega arith)
      ∙ get_or-set_same w₃ (f + 3) j 0 (lt-length-set w₂ (f + 2) i (lt-length-set w₁ (f + 1) r (lt-length-set w f l (omega arith)))))
      (get_or-set_same w₄ (f + 4) e 0
      (lt-length-set w₃ (f + 3) j (lt-length-set w₂ (f + 2) i (lt-length-set w₁ (f + 1) r (lt-length-set w f l (omega arith))))))

  pub frames_advanced : (i j : ℕ) → frames (set (set w (5 * h + 2) i) (5 * h + 3) j) (suc h)
      ≡ frame_of (get_or w (5 * h) 0) (get_or w (5 * h + 1) 0) i j (get_or w (5 * h + 4) 0) ∷ frames w h
  frames_advanced i j =
      let f : ℕ = 5 * h in
      let w₁ : List ℕ = set w (f + 2) i in
      let w₂ : List ℕ = set w₁ (f + 3) j in
      frames_stored w w₂ h (get_or w f 0) (get_or w (f + 1) 0) i j (get_or w (f + 4) 0)
      (λ k m. get_or-set_other w₁ (f + 3) k j 0 (λ z. omega arith) ∙ get_or-set_other w (f + 2) k i 0 (λ z. omega arith))
      (get_or-set_other w₁ (f + 3) f j 0 (λ z. omega arith) ∙ get_or-set_other w (f + 2) f i 0 (λ z. omega arith))
      (get_or-set_other w₁ (f + 3) (f + 1) j 0 (λ z. omega arith) ∙ get_or-set_other w (f + 2) (f + 1) i 0 (λ z. omega arith))
      (get_or-set_other w₁ (f + 3) (f + 2) j 0 (λ z. omega arith) ∙ get_or-set_same w (f + 2) i 0 (omega arith))
      (get_or-set_same w₁ (f + 3) j 0 (lt-length-set w (f + 2) i (omega arith)))
      (get_or-set_other w₁ (f + 3) (f + 4) j 0 (λ z. omega arith) ∙ get_or-set_other w (f + 2) (f + 4) i 0 (λ z. omega arith))

-- the frame on top, of the words that are read of it
pub frames_top : (w : List ℕ) (h : ℕ) → frames w (suc h)
    ≡ frame_of (get_or w (5 * h) 0) (get_or w (5 * h + 1) 0) (get_or w (5 * h + 2) 0) (get_or w (5 * h + 3) 0) (get_or w (5 * h + 4) 0) ∷ frames w h
unfolding frames
frames_top w h = refl

-- ---- turns

module _ (l x y left : ℕ) where
  pub turn_none : left ≡ 0 → Err Spent ≡ turn_to l x y left
  unfolding turn_to
  turn_none e = rw e

  pub turn_lower : (left ≡ 0 → ⊥) → x < l → Ok (record { l = x; r = y; left = left - 1 }) ≡ turn_to l x y left
  unfolding turn_to
  turn_lower ne lower = go left refl
    where
      go : (n : ℕ) → left ≡ n → Ok (record { l = x; r = y; left = left - 1 }) ≡ turn_to l x y n
      go zero e = absurd (ne e)
      go (suc n) e = let less : left - 1 ≡ n = omega arith in rw (lt-ltb x l lower, less)

  pub turn_other : (left ≡ 0 → ⊥) → l ≤ x → Err (Different (left - 1)) ≡ turn_to l x y left
  unfolding turn_to
  turn_other ne high = go left refl
    where
      go : (n : ℕ) → left ≡ n → Err (Different (left - 1)) ≡ turn_to l x y n
      go zero e = absurd (ne e)
      go (suc n) e = let less : left - 1 ≡ n = omega arith in rw (le-ltb x l high, less)

-- ---- variables crossed

-- a place among the variables crossed is at most their number
pub place_fits : (ps : Crossed) (x : ℕ) {t depth : ℕ} → t ≡ stamp (lefts ps) x → depth ≡ length ps → t ≤ depth
place_fits ps x e d = omega (arith, e, d, stamp_le (lefts ps) x, lefts_length ps)

pub other_fits : (ps : Crossed) (y : ℕ) {t depth : ℕ} → t ≡ stamp (rights ps) y → depth ≡ length ps → t ≤ depth
other_fits ps y e d = omega (arith, e, d, stamp_le (rights ps) y, rights_length ps)

-- a pair of variables more, and its frame
pub kept_more : (b b' : Binders) (w w' : List ℕ) (most h depth x y o q : ℕ) → Kept b w most h depth → b'.sets ≡ b.sets → h < most → length w' ≡ length w
    → frames w' (suc h) ≡ frame_of 0 x y o q ∷ frames w h → HaveCrossed b' ((x, y) ∷ crossed_by (frames w h)) → Kept b' w' most (suc h) (suc depth)
unfolding frame_of crossed_by
kept_more b b' w w' most h depth x y o q kept same room len e placed = record {
  long = omega (arith, kept.long, len);
  high = omega arith;
  few = kept.few;
  bits = rw same kept.bits;
  crossing = record { placed = rw e placed; deep = rw e (ap suc kept.crossing.deep) };
}

-- other frames that cross the same
pub kept_same : (b : Binders) (w w' : List ℕ) (most h h' depth : ℕ) → Kept b w most h depth → h' ≤ most → length w' ≡ length w
    → crossed_by (frames w' h') ≡ crossed_by (frames w h) → Kept b w' most h' depth
kept_same b w w' most h h' depth kept room len e = record {
  long = omega (arith, kept.long, len);
  high = room;
  few = kept.few;
  bits = kept.bits;
  crossing = record { placed = rw e kept.crossing.placed; deep = rw e kept.crossing.deep };
}

-- ---- taken pairs

-- the next pair, said of equal numbers
pub turn_at : (l left : ℕ) {x y u v : ℕ} {t : Result Pair Limited} → x ≡ u → y ≡ v → t ≡ turn_to l x y left → t ≡ turn_to l u v left
turn_at l left p q e = e ∙ rw (p, q)

-- what `take` leaves, by its test for an application of which nothing is left
module _ (b : Bundle) (p : Path) (l i j : ℕ) {k u v : ℕ} (dk : k ≡ (term_of b l).kind) (du : u ≡ next_of b.links i) (dv : v ≡ next_of b.links j) {q : Path} where
  pub taken_off : closes k u v ≡ true → q ≡ with_frames p (rest p.frames)
      → q ≡ with_frames p (cond (closes (term_of b l).kind (next_of b.links i) (next_of b.links j)) (rest p.frames)
      (advanced (next_of b.links i) (next_of b.links j) p.frames))
  taken_off e d = let e' : closes (term_of b l).kind (next_of b.links i) (next_of b.links j) ≡ true = rw (← dk, ← du, ← dv) e in d ∙ rw e' refl

  pub taken_on : closes k u v ≡ false → q ≡ with_frames p (advanced u v p.frames)
      → q ≡ with_frames p (cond (closes (term_of b l).kind (next_of b.links i) (next_of b.links j)) (rest p.frames)
      (advanced (next_of b.links i) (next_of b.links j) p.frames))
  taken_on e d = let e' : closes (term_of b l).kind (next_of b.links i) (next_of b.links j) ≡ false = rw (← dk, ← du, ← dv) e in d ∙ rw (e', du, dv) refl

-- that test where both nexts are 0, and where the first rises
pub closes_here : (k i j : ℕ) → k ≡ 2 → (eqb i 0 && eqb j 0) ≡ true → closes k i j ≡ true
closes_here k i j e h = rw e h

pub closes_rising : (k i j n : ℕ) → n < i → closes k i j ≡ false
closes_rising k i j n up = rw (ne_eqb i 0 (λ z. omega arith), and-false (eqb k 2))

-- a next that is 0 ends the list
pub follows_none : (n i next : ℕ) → next ≡ 0 → next ≡ follows n i next
unfolding follows
follows_none n i next e = go (ltb i next && leb next n)
  where
    go : (p : Bool) → next ≡ cond p next 0
    go true = refl
    go false = e
