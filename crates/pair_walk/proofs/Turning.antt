-- A turn on the frame on top of the agenda, of the words that are read of it.
--     one_none, both_none, both_zero      the code's tests of two links
--     Going, Turned, going_end            what is left to do is the whole; what a turn answers
--     leave_known, leave_on               variables are left
--     pending_is                          the frame of a pair
--     takes, take_turn, short_turn        the lists of a pair go on, or one is shorter
--     closed_on                           both have ended, and there are no bodies
--     binder_known, binder_turn, let_known, let_turn     both have ended, and the bodies are next
use mathlib.Core.Path.{◌≡◌, refl, sym, ap, subst, ◌∙◌}
use mathlib.Core.Bool.{Bool, true, false, not, ◌&&◌, ◌||◌, cond, false≢true}
use mathlib.Core.Logic.{◌⊎◌, inl, inr}
use mathlib.Core.List.{List, [], ◌∷◌}
use Prim.Native.Nat.{ℕ, ◌+◌, ◌≤◌}
use native.Mathlib.Omega.{arith}
use lib.ListN.{length}
use lib.Dec.{eqb}
use borrow.Author.Tests.{eqb-true}
use Rattle.std.specs.Prelude.{Result, Err}
use Rattle.bundle.specs.Bundle.{Bundle, link_of, term_of}
use Rattle.bundle.specs.Links.{items, next_of}
use Rattle.logic.specs.declared.Image.{Image}
use Rattle.logic.specs.declared.Limited.{Limited}
use Rattle.logic.specs.declared.Limited.TheVariants.{Different}
use Rattle.logic.specs.Terms.{Binder, Kind, kind_of, binder, letting}
use Rattle.logic.specs.ReflWalk.{cross_all, go_on, sorts_meet, all_sorts_meet, binder_meets, let_meets}
use Rattle.logic.proofs.Tests.{and_left, and_right}
use Rattle.pair_walk.specs.declared.path.Top.{Top}
use Rattle.pair_walk.specs.declared.turns.Pair.{Pair}
use Rattle.pair_walk.specs.Agenda.{Frame, pending, leave, frame_of, crossed_by, IsPending, rest, advanced, has_body, bound_as, body_as, closes, leaves, under, finish}
use Rattle.pair_walk.specs.Agenda.{MetAs, PendingHeld, LeaveHeld, Sound, Path, with_frames, turn_to, Takes, Taken, TurnHeld}
use Rattle.pair_walk.proofs.FrameWords.{frame_pending, frame_leave}
use Rattle.pair_walk.proofs.Finishing.{lists_on, left_short, right_short, closed_is, closed_off, bodies_are, leaves_crossed, leaves_finish}
use Rattle.pair_walk.proofs.CrossedLists.{leaves_length}
use Rattle.pair_walk.proofs.Soundness.{sound_less, leave_held, pending_held, taken_sound, bodies_room, bodies_sound, turn_held}

-- ---- tests of two links

pub one_none : (i j : ℕ) → ((i ≡ 0 → ⊥) × (j ≡ 0)) ⊎ (i ≡ 0) → (not (eqb i 0) || not (eqb j 0)) ≡ true
    → ((i ≡ 0) × (j ≡ 0 → ⊥)) ⊎ ((i ≡ 0 → ⊥) × (j ≡ 0))
one_none i j (inl h) e = inr h
one_none i j (inr z) e = inl (z, λ y. false≢true (rw (z, y) at e))

pub both_none : (i j : ℕ) → (not (eqb i 0) || not (eqb j 0)) ≡ false → (i ≡ 0) × (j ≡ 0)
both_none i j = go (eqb i 0) refl (eqb j 0) refl
  where
    go : (p : Bool) → eqb i 0 ≡ p → (q : Bool) → eqb j 0 ≡ q → (not p || not q) ≡ false → (i ≡ 0) × (j ≡ 0)
    go true d true e h = (eqb-true i 0 d, eqb-true j 0 e)
    go true d false e h = absurd (false≢true (sym h))
    go false d q e h = absurd (false≢true (sym h))

pub both_zero : (i j : ℕ) → (eqb i 0 && eqb j 0) ≡ true → (i ≡ 0) × (j ≡ 0)
both_zero i j e = (eqb-true i 0 (and_left (eqb i 0) (eqb j 0) e), eqb-true j 0 (and_right (eqb i 0) (eqb j 0) e))

-- ---- what a turn does to the path p₀, on its way at p

-- what is left to do at p is the whole
pub record Going (p₀ p : Path) (left : ℕ) : Type 0 where
  pub sound : Sound p.sets.bundle p.most left p.frames
  pub room : length p.frames + left ≤ p.most
  pub same : p ≡ with_frames p₀ p.frames
  pub whole : (free : ℕ → ℕ → Bool) (image : ℕ → Image)
      → finish free image p.sets.bundle p.frames left ≡ finish free image p₀.sets.bundle p₀.frames left

-- a turn's answer to p₀: the next pair, or the end
abbrev pub Turned : Path → ℕ → Path → Result Pair Limited → Type 0
Turned p₀ left q a =
    (q ≡ with_frames p₀ q.frames)
    × ((free : ℕ → ℕ → Bool) (image : ℕ → Image) → TurnHeld free image (finish free image p₀.sets.bundle p₀.frames left) left q a)

module _ {p₀ p : Path} {left : ℕ} (going : Going p₀ p left) where
  going_turn : (fs : List Frame) (a : Result Pair Limited) {q : Path} → q ≡ with_frames p fs
      → ((free : ℕ → ℕ → Bool) (image : ℕ → Image) → TurnHeld free image (finish free image p.sets.bundle p.frames left) left (with_frames p fs) a)
      → Turned p₀ left q a
  going_turn fs a e held =
      rw e (
        ap (λ (q : Path). with_frames q fs) going.same,
        λ free image. subst (λ (w : Limited). TurnHeld free image w left (with_frames p fs) a) (going.whole free image) (held free image),
      )

  pub going_end : {a : Limited} → ((free : ℕ → ℕ → Bool) (image : ℕ → Image) → finish free image p.sets.bundle p.frames left ≡ a) → Turned p₀ left p (Err a)
  going_end e = (going.same, λ free image. sym (going.whole free image) ∙ e free image)

-- ---- the frame on top, of the words that are read

module _ {p₀ p : Path} {left : ℕ} (going : Going p₀ p left) (t : Top) {gs : List Frame} (top : p.frames ≡ frame_of t.l t.r t.i t.j t.e ∷ gs) where
  -- it is taken off
  going_below : Sound p.sets.bundle p.most left gs
      → ((free : ℕ → ℕ → Bool) (image : ℕ → Image) → finish free image p.sets.bundle gs left ≡ finish free image p.sets.bundle p.frames left)
      → {q : Path} → q ≡ with_frames p gs → Going p₀ q left
  going_below below on e =
      let room : length gs + left ≤ p.most = omega (arith, going.room, ap length top) in
      rw e (record {
        sound = below;
        room = room;
        same = ap (λ (q : Path). with_frames q gs) going.same;
        whole = λ free image. on free image ∙ going.whole free image;
      })

  -- ---- variables are left

  module _ (none : t.l ≡ 0) where
    leave_top : p.frames ≡ leave t.r t.i t.j t.e ∷ gs
    leave_top = top ∙ ap (λ (f : Frame). f ∷ gs) (frame_leave t.l t.r t.i t.j t.e none)

    leave_here : LeaveHeld (length p.sets.bundle.variables) t.r t.i t.j t.e (crossed_by gs) × Sound p.sets.bundle p.most left gs
    leave_here = leave_held p.sets.bundle p.most left t.r t.i t.j t.e gs (subst (Sound p.sets.bundle p.most left) leave_top going.sound)

    pub leave_known : (fs : List Frame) × (p.frames ≡ leave t.r t.i t.j t.e ∷ fs) × LeaveHeld (length p.sets.bundle.variables) t.r t.i t.j t.e (crossed_by fs)
    leave_known = (gs, leave_top, leave_here.0)

    pub leave_on : {q : Path} → q ≡ with_frames p gs → Going p₀ q left
    unfolding finish
    leave_on = going_below leave_here.1 (λ free image. rw leave_top refl)

  -- ---- the lists of a pair

  module _ (one : t.l ≡ 0 → ⊥) where
    pending_top : p.frames ≡ pending t.l t.r t.i t.j ∷ gs
    pending_top = let positive : 1 ≤ t.l = omega arith in top ∙ ap (λ (f : Frame). f ∷ gs) (frame_pending t.l t.r t.i t.j t.e positive)

    pub pending_is : IsPending p.frames
    pending_is = rw pending_top tt

    here : Sound p.sets.bundle p.most left (pending t.l t.r t.i t.j ∷ gs)
    here = subst (Sound p.sets.bundle p.most left) pending_top going.sound

    held : PendingHeld p.sets.bundle p.most left t.l t.r t.i t.j gs × Sound p.sets.bundle p.most left gs
    held = pending_held p.sets.bundle p.most left t.l t.r t.i t.j gs here

    whole_is : (free : ℕ → ℕ → Bool) (image : ℕ → Image)
        → finish free image p.sets.bundle p.frames left ≡ finish free image p.sets.bundle (pending t.l t.r t.i t.j ∷ gs) left
    whole_is free image = ap (λ (fs : List Frame). finish free image p.sets.bundle fs left) pending_top

    -- both go on
    module _ (ni : t.i ≡ 0 → ⊥) (nj : t.j ≡ 0 → ⊥) where
      pub takes : Takes p t.i t.j
      takes = (pending_is, (ni, held.0.left_link), (nj, held.0.right_link))

      abbrev next_i : ℕ
      next_i = next_of p.sets.bundle.links t.i

      abbrev next_j : ℕ
      next_j = next_of p.sets.bundle.links t.j

      abbrev x : ℕ
      x = (link_of p.sets.bundle t.i).value

      abbrev y : ℕ
      y = (link_of p.sets.bundle t.j).value

      taken_held : (o : Bool) → closes (term_of p.sets.bundle t.l).kind next_i next_j ≡ o → (free : ℕ → ℕ → Bool) (image : ℕ → Image)
          → TurnHeld free image (finish free image p.sets.bundle (pending t.l t.r t.i t.j ∷ gs) left) left
          (with_frames p (cond o gs (pending t.l t.r next_i next_j ∷ gs))) (turn_to t.l x y left)
      unfolding crossed_by
      taken_held true closed free image =
          turn_held free image (finish free image p.sets.bundle (pending t.l t.r t.i t.j ∷ gs) left) (with_frames p gs) t.l x y left
          (lists_on free image p.sets.bundle t.l t.r t.i t.j left gs ni held.0.left_link nj held.0.right_link
          ∙ ap (go_on (under free image p.sets.bundle t.l x (crossed_by gs) y left)) (closed_off free image p.sets.bundle t.l t.r next_i next_j gs closed))
          (λ m more. sound_less p.sets.bundle p.most left m gs (omega arith) held.1) (omega (arith, ap length pending_top, going.room))
      taken_held false some_left free image =
          turn_held free image (finish free image p.sets.bundle (pending t.l t.r t.i t.j ∷ gs) left) (with_frames p (pending t.l t.r next_i next_j ∷ gs)) t.l x y left
          (lists_on free image p.sets.bundle t.l t.r t.i t.j left gs ni held.0.left_link nj held.0.right_link)
          (λ m more. taken_sound p.sets.bundle p.most left t.l t.r t.i t.j gs here m ni more) (omega (arith, ap length pending_top, going.room))

      pub take_turn : {a : Result Pair Limited} {q : Path} → Taken p t.l t.i t.j left q a → Turned p₀ left q a
      take_turn {a} (da, dq) =
          going_turn going (cond (closes (term_of p.sets.bundle t.l).kind next_i next_j) (rest p.frames) (advanced next_i next_j p.frames)) a dq
          (λ free image. rw (da, pending_top) (taken_held (closes (term_of p.sets.bundle t.l).kind next_i next_j) refl free image))

    pub short_turn : ((t.i ≡ 0) × (t.j ≡ 0 → ⊥)) ⊎ ((t.i ≡ 0 → ⊥) × (t.j ≡ 0)) → Turned p₀ left p (Err (Different left))
    short_turn (inl (z, nj)) =
        going_end going (λ free image. whole_is free image ∙ left_short free image p.sets.bundle t.l t.r t.i t.j left gs z nj held.0.right_link)
    short_turn (inr (ni, z)) =
        going_end going (λ free image. whole_is free image ∙ right_short free image p.sets.bundle t.l t.r t.i t.j left gs ni held.0.left_link z)

    -- ---- both lists have ended; at q the frame is off, and the left term's kind has been read

    module _ (out : (not (eqb t.i 0) || not (eqb t.j 0)) ≡ false) {q : Path} (off : q ≡ with_frames p gs) {b : Bundle} {n : ℕ} (db : b ≡ q.sets.bundle)
        (dn : n ≡ (term_of b t.l).kind) where
      ended : (t.i ≡ 0) × (t.j ≡ 0)
      ended = both_none t.i t.j out

      kind_is : {k : Kind} → kind_of n ≡ k → kind_of (term_of p.sets.bundle t.l).kind ≡ k
      kind_is dk = ap kind_of (sym (dn ∙ ap (λ (b : Bundle). (term_of b t.l).kind) (db ∙ ap (λ (q : Path). q.sets.bundle) off))) ∙ dk

      pub closed_on : {k : Kind} → kind_of n ≡ k → has_body k ≡ false → Going p₀ q left
      closed_on dk none =
          going_below held.1 (λ free image. rw pending_top (sym (closed_is free image p.sets.bundle t.l t.r t.i t.j left gs ended.0 ended.1
          (ap has_body (kind_is dk) ∙ none)))) off

      -- a pair of a kind that has bodies
      room_for : {k : Kind} → kind_of n ≡ k → length q.frames + length (bound_as q.sets.bundle k t.l) + left ≤ q.most
      room_for dk = rw off (rw (kind_is dk) at (bodies_room p.sets.bundle p.most left t.l t.r t.i t.j gs here ended.0))

      met_for : {k : Kind} → kind_of n ≡ k → MetAs q.sets.bundle k t.l t.r
      met_for dk = rw off (rw (kind_is dk) at held.0.met)

      bodies_held : (a : Result Pair Limited) → has_body (kind_of (term_of p.sets.bundle t.l).kind) ≡ true
          → a ≡ turn_to t.l (body_as p.sets.bundle (kind_of (term_of p.sets.bundle t.l).kind) t.l) (body_as p.sets.bundle (kind_of (term_of p.sets.bundle t.l).kind) t.r)
          left
          → (free : ℕ → ℕ → Bool) (image : ℕ → Image)
          → TurnHeld free image (finish free image p.sets.bundle p.frames left) left
          (with_frames p (leaves (bound_as p.sets.bundle (kind_of (term_of p.sets.bundle t.l).kind) t.l)
          (bound_as p.sets.bundle (kind_of (term_of p.sets.bundle t.l).kind) t.r) (crossed_by gs) gs)) a
      bodies_held a body da free image =
          let b = p.sets.bundle in
          let k = kind_of (term_of b t.l).kind in
          let xs = bound_as b k t.l in
          let ys = bound_as b k t.r in
          let fs = leaves xs ys (crossed_by gs) gs in
          let crossed : crossed_by fs ≡ cross_all xs ys (crossed_by gs) = leaves_crossed xs ys (crossed_by gs) gs refl in
          let same : finish free image b fs ≡ finish free image b gs = leaves_finish free image b xs ys (crossed_by gs) gs in
          let on : finish free image b p.frames left
          ≡ go_on (under free image b t.l (body_as b k t.l) (cross_all xs ys (crossed_by gs)) (body_as b k t.r) left) (finish free image b gs) =
          whole_is free image ∙ bodies_are free image b t.l t.r t.i t.j left gs ended.0 ended.1 body in
          rw da
          (turn_held free image (finish free image b p.frames left) (with_frames p fs) t.l (body_as b k t.l) (body_as b k t.r) left (rw (crossed, same) on)
          (λ m more. bodies_sound b p.most left t.l t.r t.i t.j gs here m more)
          (omega (arith, leaves_length xs ys (crossed_by gs) gs, bodies_room b p.most left t.l t.r t.i t.j gs here ended.0)))

      bodies_turn : {k : Kind} → kind_of n ≡ k → has_body k ≡ true → (a : Result Pair Limited) → {q' : Path}
          → (a ≡ turn_to t.l (body_as q.sets.bundle k t.l) (body_as q.sets.bundle k t.r) left)
          × (q' ≡ with_frames q (leaves (bound_as q.sets.bundle k t.l) (bound_as q.sets.bundle k t.r) (crossed_by q.frames) q.frames))
          → Turned p₀ left q' a
      bodies_turn {k} dk body a e =
          let e' = rw off at e in
          going_turn going (leaves (bound_as p.sets.bundle k t.l) (bound_as p.sets.bundle k t.r) (crossed_by gs) gs) a e'.1
          (subst (λ (k : Kind). has_body k ≡ true → a ≡ turn_to t.l (body_as p.sets.bundle k t.l) (body_as p.sets.bundle k t.r) left
          → (free : ℕ → ℕ → Bool) (image : ℕ → Image)
          → TurnHeld free image (finish free image p.sets.bundle p.frames left) left
          (with_frames p (leaves (bound_as p.sets.bundle k t.l) (bound_as p.sets.bundle k t.r) (crossed_by gs) gs)) a) (kind_is dk) (bodies_held a) body e'.0)

      module _ {κ : Binder} (dk : kind_of n ≡ binder κ) where
        pub binder_known : (length q.frames + 1 ≤ q.most) × (sorts_meet q.sets.bundle (term_of q.sets.bundle t.l).a (term_of q.sets.bundle t.r).a ≡ true)
        unfolding bound_as MetAs binder_meets
        binder_known =
            let b = q.sets.bundle in
            let room : length q.frames + 1 + left ≤ q.most = room_for dk in
            (omega arith, and_right (eqb (term_of b t.r).kind (term_of b t.l).kind) (sorts_meet b (term_of b t.l).a (term_of b t.r).a) (met_for dk))

        pub binder_turn : (a : Result Pair Limited) → {q' : Path} → (a ≡ turn_to t.l (term_of q.sets.bundle t.l).b (term_of q.sets.bundle t.r).b left)
            × (q' ≡ with_frames q (leaves ((term_of q.sets.bundle t.l).a ∷ []) ((term_of q.sets.bundle t.r).a ∷ []) (crossed_by q.frames) q.frames))
            → Turned p₀ left q' a
        unfolding body_as bound_as
        binder_turn = bodies_turn dk refl

      module _ (dk : kind_of n ≡ letting) where
        pub let_known : (length q.frames + length (items q.sets.bundle (term_of q.sets.bundle t.l).a) ≤ q.most)
            × (all_sorts_meet q.sets.bundle (items q.sets.bundle (term_of q.sets.bundle t.l).a) (items q.sets.bundle (term_of q.sets.bundle t.r).a) ≡ true)
        unfolding bound_as MetAs let_meets
        let_known =
            let b = q.sets.bundle in
            let xs = items b (term_of b t.l).a in
            let sorts = all_sorts_meet b xs (items b (term_of b t.r).a) in
            let room : length q.frames + length xs + left ≤ q.most = room_for dk in (
              omega arith,
              and_right (eqb (term_of b t.r).kind 5) sorts
                  (and_left (eqb (term_of b t.r).kind 5 && sorts) (eqb (length (items b (term_of b t.l).b)) (length xs)) (met_for dk)),
            )

        pub let_turn : (a : Result Pair Limited) → {q' : Path} → (a ≡ turn_to t.l (term_of q.sets.bundle t.l).c (term_of q.sets.bundle t.r).c left)
            × (q' ≡ with_frames q (leaves (items q.sets.bundle (term_of q.sets.bundle t.l).a) (items q.sets.bundle (term_of q.sets.bundle t.r).a)
            (crossed_by q.frames) q.frames))
            → Turned p₀ left q' a
        unfolding body_as bound_as
        let_turn = bodies_turn dk refl
