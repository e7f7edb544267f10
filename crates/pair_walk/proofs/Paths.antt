-- A path's agenda, as its frames.
--     top_is, rest_is                the frame on top, and those below it
--     kept_room                      room for one frame more
--     pending_some, kept_popped      the frame of a pair, and where it is taken off
--     advanced_is, kept_advanced     where it gets other links
--     leave_some, kept_uncrossed     variables left
use mathlib.Core.Path.{◌≡◌, refl, sym, ap, subst, ◌∙◌}
use mathlib.Core.List.{List, [], ◌∷◌}
use Prim.Native.Nat.{ℕ, zero, suc, ◌+◌, ◌*◌, ◌-◌, ◌≤◌, ◌<◌}
use native.Mathlib.Omega.{arith}
use lib.ListN.{length, get_or}
use Rattle.crossings.specs.Places.{Binders, HaveCrossed}
use Rattle.pair_walk.specs.Agenda.{Frame, pending, leave, frame_of, frames, crossed_by, IsPending, rest, advanced, LeaveHeld, Kept}
use Rattle.pair_walk.proofs.FrameWords.{frames_length, frames_top, crossed_few, place_fits, other_fits, kept_same}

pub rest_is : (w : List ℕ) (h : ℕ) → frames w (h - 1) ≡ rest (frames w h)
unfolding frames
rest_is w zero = refl
rest_is w (suc h) = let less : suc h - 1 ≡ h = omega arith in ap (frames w) less

pub top_is : (w : List ℕ) (h : ℕ) → (h ≡ 0 → ⊥) → frames w h
    ≡ frame_of (get_or w (5 * (h - 1)) 0) (get_or w (5 * (h - 1) + 1) 0) (get_or w (5 * (h - 1) + 2) 0) (get_or w (5 * (h - 1) + 3) 0)
    (get_or w (5 * (h - 1) + 4) 0) ∷ frames w (h - 1)
top_is w h some = let up : h ≡ suc (h - 1) = omega arith in ap (frames w) up ∙ frames_top w (h - 1)

pub pending_some : (w : List ℕ) (h : ℕ) → IsPending (frames w h) → 1 ≤ h
unfolding frames
pending_some w zero top = absurd top
pending_some w (suc h) top = omega arith

module _ {b : Binders} {w : List ℕ} {most h depth : ℕ} (kept : Kept b w most h depth) where
  pub kept_room : length (frames w h) < most → (h < most) × (5 * h + 5 ≤ length w) × (depth < 65535)
  kept_room room =
      let high : h < most = omega (arith, room, frames_length w h) in
      (high, omega (arith, kept.long), omega (arith, kept.crossing.deep, crossed_few (frames w h), frames_length w h, kept.few))

  -- ---- the frame of a pair

  module _ (top : IsPending (frames w h)) where
    some : 1 ≤ h
    some = pending_some w h top

    here : frames w h
        ≡ frame_of (get_or w (5 * (h - 1)) 0) (get_or w (5 * (h - 1) + 1) 0) (get_or w (5 * (h - 1) + 2) 0) (get_or w (5 * (h - 1) + 3) 0)
        (get_or w (5 * (h - 1) + 4) 0) ∷ frames w (h - 1)
    here = top_is w h (λ e. omega (arith, some))

    pub kept_popped : Kept b w most (h - 1) depth
    unfolding crossed_by
    kept_popped =
        kept_same b w w most h (h - 1) depth kept (omega (arith, kept.high)) refl (ap crossed_by (rest_is w h) ∙ go (frames w h) top)
      where
        go : (fs : List Frame) → IsPending fs → crossed_by (rest fs) ≡ crossed_by fs
        go [] t = absurd t
        go (pending l r i j ∷ fs) t = refl
        go (leave x y o p ∷ fs) t = absurd t

    module _ (w' : List ℕ) (i j : ℕ) (len : length w' ≡ length w) (is : frames w' (suc (h - 1))
        ≡ frame_of (get_or w (5 * (h - 1)) 0) (get_or w (5 * (h - 1) + 1) 0) i j (get_or w (5 * (h - 1) + 4) 0) ∷ frames w (h - 1)) where
      pub advanced_is : frames w' h ≡ advanced i j (frames w h)
      unfolding frame_of
      advanced_is =
          let up : h ≡ suc (h - 1) = omega (arith, some) in
          ap (frames w') up ∙ is
          ∙ go (get_or w (5 * (h - 1)) 0) (get_or w (5 * (h - 1) + 1) 0) (get_or w (5 * (h - 1) + 2) 0) (get_or w (5 * (h - 1) + 3) 0)
          (get_or w (5 * (h - 1) + 4) 0) (frames w (h - 1)) (subst IsPending here top)
          ∙ ap (advanced i j) (sym here)
        where
          go : (l r i' j' e : ℕ) (fs : List Frame) → IsPending (frame_of l r i' j' e ∷ fs) → frame_of l r i j e ∷ fs ≡ advanced i j (frame_of l r i' j' e ∷ fs)
          go zero r i' j' e fs t = absurd t
          go (suc l) r i' j' e fs t = refl

      pub kept_advanced : Kept b w' most h depth
      unfolding crossed_by
      kept_advanced = kept_same b w w' most h h depth kept kept.high len (ap crossed_by advanced_is ∙ go (frames w h))
        where
          go : (fs : List Frame) → crossed_by (advanced i j fs) ≡ crossed_by fs
          go [] = refl
          go (pending l r i' j' ∷ fs) = refl
          go (leave x y o p ∷ fs) = refl

  -- ---- variables left

  module _ {x y o p : ℕ} {fs : List Frame} (top : frames w h ≡ leave x y o p ∷ fs) where
    pub leave_some : (1 ≤ h) × (1 ≤ depth) × HaveCrossed b ((x, y) ∷ crossed_by fs)
    unfolding crossed_by
    leave_some =
        let high : h ≡ suc (length fs) = sym (frames_length w h) ∙ ap length top in
        let deep : depth ≡ suc (length (crossed_by fs)) = rw top at kept.crossing.deep in
        (omega arith, omega arith, rw top at kept.crossing.placed)

    pub leave_fits : {v : ℕ} → LeaveHeld v x y o p (crossed_by fs) → (o ≤ 65535) × (p ≤ 65535)
    unfolding crossed_by
    leave_fits known =
        let ps = crossed_by fs in
        let deep : depth ≡ suc (length ps) = rw top at kept.crossing.deep in
        let few : depth ≤ 4096 = omega (arith, kept.crossing.deep, crossed_few (frames w h), frames_length w h, kept.few, kept.high) in
        (omega (arith, few, deep, place_fits ps x known.left_place refl), omega (arith, few, deep, other_fits ps y known.right_place refl))

    pub kept_uncrossed : (b' : Binders) → b'.sets ≡ b.sets → HaveCrossed b' (crossed_by fs) → Kept b' w most (h - 1) (depth - 1)
    unfolding crossed_by
    kept_uncrossed b' same placed =
        let below : frames w (h - 1) ≡ fs = rest_is w h ∙ ap rest top in
        let deep : depth ≡ suc (length (crossed_by fs)) = rw top at kept.crossing.deep in
        record {
          long = kept.long;
          high = omega (arith, kept.high);
          few = kept.few;
          bits = rw same kept.bits;
          crossing = record { placed = rw below placed; deep = rw below (omega (arith, deep)) };
        }
