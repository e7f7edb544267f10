-- What is known of the frames, from turn to turn.
--     sound_less                 with fewer pairs left it is known still
--     known_kind                 a number of a kind is a term's
--     met_known                  terms that meet, and are no variables, are terms of the file
--     sorts_known, all_known_lem, bound_known     the variables of terms that meet are variables of the file
--     opened_sound, open_sound, leaves_sound     a pair that has met, and variables crossed
--     leave_held, pending_held, taken_sound, bodies_room, bodies_sound     the frame on top
--     turn_held                  what the next pair is to a walk
use mathlib.Core.Path.{◌≡◌, refl, sym, ap, ◌∙◌}
use mathlib.Core.Bool.{Bool, true, false, cond, ◌&&◌, false≢true}
use mathlib.Core.List.{List, [], ◌∷◌}
use Prim.Native.Nat.{ℕ, zero, suc, ◌+◌, ◌≤◌, ◌<◌}
use native.Mathlib.Omega.{arith}
use native.Mathlib.Decide.{dec_le}
use lib.ListN.{length, get_or-eq_default}
use lib.Dec.{eqb, ltb}
use borrow.Author.Tests.{eqb-true}
use Rattle.std.specs.Prelude.{Ok, Err}
use Rattle.bundle.specs.Bundle.{Bundle, TermRecord, no_term, term_of, sort_of_variable}
use Rattle.bundle.specs.Links.{items, starts_at, next_of}
use Rattle.bundle.specs.Lists.{numbers}
use Rattle.bundle.proofs.Walks.{walk_start, walk_start_le, walk_le, walk_length, walk_nil}
use Rattle.logic.specs.declared.Image.{Image}
use Rattle.logic.specs.declared.Limited.{Limited}
use Rattle.logic.specs.declared.Limited.TheVariants.{Different}
use Rattle.logic.specs.Lists.{All, Number}
use Rattle.logic.specs.Terms.{Kind, kind_of, variable, application, binder, letting, other}
use Rattle.logic.specs.ReflWalk.{Crossed, lefts, rights, sorts_meet, all_sorts_meet, application_meets, binder_meets, let_meets, go_on, none_within, within_by}
use Rattle.logic.proofs.Tests.{and_left, and_right, numbers_of_lem}
use Rattle.logic.proofs.TermKinds.{kind_number}
use Rattle.crossings.specs.Places.{stamp}
use Rattle.crossings.specs.Pairs.{meets_as, meets_by}
use Rattle.pair_walk.specs.Agenda.{Frame, pending, leave, crossed_by, bound_as, opened_as, closes, opened, leaves, under, finish, MetAs}
use Rattle.pair_walk.specs.Agenda.{PendingHeld, LeaveHeld}
use Rattle.pair_walk.specs.Agenda.{Sound, Path, turn_to, TurnHeld}
use Rattle.pair_walk.proofs.Finishing.{under_spent}

module _ (b : Bundle) where
  -- ---- numbers of terms and of variables

  known_term : (t : ℕ) → ((term_of b t).kind ≡ 0 → ⊥) → Number (length b.terms) t
  known_term zero ne = absurd (ne refl)
  known_term (suc t) ne = go (dec_le (length b.terms) t)
    where
      go : Dec (length b.terms ≤ t) → Number (length b.terms) (suc t)
      go (yes h) = absurd (ne (ap (λ (r : TermRecord). r.kind) (get_or-eq_default b.terms no_term h)))
      go (no h) = (omega arith, omega (arith))

  pub known_kind : (t : ℕ) (k : Kind) → kind_of (term_of b t).kind ≡ k → (k ≡ other → ⊥) → Number (length b.terms) t
  unfolding kind_of
  known_kind t k d ne = known_term t (λ e. ne (sym d ∙ ap kind_of e))

  numbered : (t n : ℕ) → (term_of b t).kind ≡ n → (n ≡ 0 → ⊥) → Number (length b.terms) t
  numbered t n d ne = known_term t (λ e. ne (sym d ∙ e))

  right_as : (free : ℕ → ℕ → Bool) (image : ℕ → Image) (k : Kind) (l r : ℕ) (ps : Crossed) → kind_of (term_of b l).kind ≡ k
      → ((term_of b l).kind ≡ 1 → ⊥) → meets_as free image b k (term_of b l) ps r ≡ true → Number (length b.terms) l × Number (length b.terms) r
  unfolding meets_as application_meets binder_meets let_meets
  right_as free image variable l r ps d ne e = absurd (ne (kind_number (term_of b l).kind variable d (λ q. let o : ◌≡◌ {A = ℕ} 0 1 = cc in omega arith)))
  right_as free image application l r ps d ne e = (
    known_kind l application d (λ q. let o : ◌≡◌ {A = ℕ} 0 1 = cc in omega arith),
    numbered r 2 (eqb-true (term_of b r).kind 2 (and_left (eqb (term_of b r).kind 2) (eqb (term_of b l).a (term_of b r).a) e)) (λ q. omega arith),
  )
  right_as free image (binder q) l r ps d ne e =
      let known : Number (length b.terms) l = known_kind l (binder q) d (λ q. let o : ◌≡◌ {A = ℕ} 0 1 = cc in omega arith) in
      let same : (term_of b r).kind ≡ (term_of b l).kind = eqb-true (term_of b r).kind (term_of b l).kind
      (and_left (eqb (term_of b r).kind (term_of b l).kind) (sorts_meet b (term_of b l).a (term_of b r).a) e) in
      (known, known_kind r (binder q) (ap kind_of same ∙ d) (λ q. let o : ◌≡◌ {A = ℕ} 0 1 = cc in omega arith))
  right_as free image letting l r ps d ne e = (
    known_kind l letting d (λ q. let o : ◌≡◌ {A = ℕ} 0 1 = cc in omega arith),
    numbered r 5 (eqb-true (term_of b r).kind 5 (and_left (eqb (term_of b r).kind 5) (all_sorts_meet b (items b (term_of b l).a) (items b (term_of b r).a))
        (and_left (eqb (term_of b r).kind 5 && all_sorts_meet b (items b (term_of b l).a) (items b (term_of b r).a))
        (eqb (length (items b (term_of b l).b)) (length (items b (term_of b l).a))) e))) (λ q. omega arith),
  )
  right_as free image other l r ps d ne e = absurd (false≢true e)

  pub met_known : (free : ℕ → ℕ → Bool) (image : ℕ → Image) (l r : ℕ) (ps : Crossed) → meets_by free image b (term_of b l) ps r ≡ true
      → ((term_of b l).kind ≡ 1 → ⊥) → Number (length b.terms) l × Number (length b.terms) r
  unfolding meets_by
  met_known free image l r ps e ne = right_as free image (kind_of (term_of b l).kind) l r ps refl ne e

  pub sorts_known : (x y : ℕ) → sorts_meet b x y ≡ true → Number (length b.variables) x × Number (length b.variables) y
  unfolding sorts_meet
  sorts_known x y e =
      let n : ℕ = length b.variables in
      let both = and_left (numbers n x && numbers n y) (eqb (sort_of_variable b x) (sort_of_variable b y)) e in
      let u = numbers_of_lem n x (and_left (numbers n x) (numbers n y) both) in
      let v = numbers_of_lem n y (and_right (numbers n x) (numbers n y) both) in
      ((u.0, omega (arith, u.1)), (v.0, omega (arith, v.1)))

  pub all_known_lem : (xs ys : List ℕ) → all_sorts_meet b xs ys ≡ true → All (Number (length b.variables)) xs × All (Number (length b.variables)) ys
  unfolding all_sorts_meet
  all_known_lem [] [] e = (tt, tt)
  all_known_lem [] (y ∷ ys) e = absurd (false≢true e)
  all_known_lem (x ∷ xs) [] e = absurd (false≢true e)
  all_known_lem (x ∷ xs) (y ∷ ys) e =
      let here = sorts_known x y (and_left (sorts_meet b x y) (all_sorts_meet b xs ys) e) in
      let later = all_known_lem xs ys (and_right (sorts_meet b x y) (all_sorts_meet b xs ys) e) in
      ((here.0, later.0), (here.1, later.1))

  pub bound_known : (k : Kind) (l r : ℕ) → MetAs b k l r → All (Number (length b.variables)) (bound_as b k l) × All (Number (length b.variables)) (bound_as b k r)
  unfolding MetAs bound_as binder_meets let_meets
  bound_known variable l r e = (tt, tt)
  bound_known application l r e = (tt, tt)
  bound_known (binder q) l r e =
      let here = sorts_known (term_of b l).a (term_of b r).a
      (and_right (eqb (term_of b r).kind (term_of b l).kind) (sorts_meet b (term_of b l).a (term_of b r).a) e) in
      ((here.0, tt), (here.1, tt))
  bound_known letting l r e =
      let xs = items b (term_of b l).a in
      let ys = items b (term_of b r).a in
      all_known_lem xs ys (and_right (eqb (term_of b r).kind 5) (all_sorts_meet b xs ys)
      (and_left (eqb (term_of b r).kind 5 && all_sorts_meet b xs ys) (eqb (length (items b (term_of b l).b)) (length xs)) e))
  bound_known other l r e = (tt, tt)

  -- ---- frames

  pub sound_less : (most left less : ℕ) (fs : List Frame) → less ≤ left → Sound b most left fs → Sound b most less fs
  unfolding Sound
  sound_less most left less [] h s = tt
  sound_less most left less (pending l r i j ∷ fs) h (p, s) = (
    record {
      met = p.met;
      known = p.known;
      left_link = p.left_link;
      right_link = p.right_link;
      room = omega (arith, p.room, h);
    },
    sound_less most left less fs h s,
  )
  sound_less most left less (leave x y o q ∷ fs) h (p, s) = (p, sound_less most left less fs h s)

  pub leaves_sound : (most left : ℕ) (xs ys : List ℕ) (ps : Crossed) (fs : List Frame) → crossed_by fs ≡ ps → All (Number (length b.variables)) xs
      → All (Number (length b.variables)) ys → Sound b most left fs → Sound b most left (leaves xs ys ps fs)
  unfolding leaves Sound
  leaves_sound most left [] ys ps fs e u v s = s
  leaves_sound most left (x ∷ xs) [] ps fs e u v s = s
  leaves_sound most left (x ∷ xs) (y ∷ ys) ps fs e u v s =
      leaves_sound most left xs ys ((x, y) ∷ ps) (leave x y (stamp (lefts ps) x) (stamp (rights ps) y) ∷ fs) (ap (λ (l : Crossed). (x, y) ∷ l) e) u.1 v.1 (
        record {
          left_known = u.0;
          right_known = v.0;
          left_place = ap (λ (l : Crossed). stamp (lefts l) x) (sym e);
          right_place = ap (λ (l : Crossed). stamp (rights l) y) (sym e);
        },
        s,
      )

  starts : (t : ℕ) → starts_at (length b.links) t ≤ (length b.links)
  starts t = walk_start_le b t (starts_at (length b.links) t) refl

  opened_as_lem : (free : ℕ → ℕ → Bool) (image : ℕ → Image) (k : Kind) (l r : ℕ) (ps : Crossed) (fs : List Frame) (most left : ℕ)
      → kind_of (term_of b l).kind ≡ k → meets_as free image b k (term_of b l) ps r ≡ true → length fs + left < most
      → Sound b most left fs → Sound b most left (opened_as b k l r fs)
  unfolding opened_as Sound meets_as MetAs bound_as let_meets
  opened_as_lem free image variable l r ps fs most left d e room s = s
  opened_as_lem free image application l r ps fs most left d e room s = (
    record {
      met = rw d tt;
      known = known_kind l application d (λ q. let o : ◌≡◌ {A = ℕ} 0 1 = cc in omega arith);
      left_link = starts (term_of b l).b;
      right_link = starts (term_of b r).b;
      room = rw d (omega arith);
    },
    s,
  )
  opened_as_lem free image (binder q) l r ps fs most left d e room s = (
    record {
      met = rw d e;
      known = known_kind l (binder q) d (λ q. let o : ◌≡◌ {A = ℕ} 0 1 = cc in omega arith);
      left_link = omega arith;
      right_link = omega arith;
      room = rw d (omega arith);
    },
    s,
  )
  opened_as_lem free image letting l r ps fs most left d e room s =
      let many : length (items b (term_of b l).b) ≡ length (items b (term_of b l).a) =
      eqb-true (length (items b (term_of b l).b)) (length (items b (term_of b l).a))
      (and_right (eqb (term_of b r).kind 5 && all_sorts_meet b (items b (term_of b l).a) (items b (term_of b r).a))
      (eqb (length (items b (term_of b l).b)) (length (items b (term_of b l).a))) e) in
      let start : length (items b (term_of b l).b) ≡ length (items b (starts_at (length b.links) (term_of b l).b)) =
      ap length (walk_start b (term_of b l).b (starts_at (length b.links) (term_of b l).b) refl) in (
        record {
          met = rw d e;
          known = known_kind l letting d (λ q. let o : ◌≡◌ {A = ℕ} 0 1 = cc in omega arith);
          left_link = starts (term_of b l).b;
          right_link = starts (term_of b r).b;
          room = rw d (omega arith);
        },
        s,
      )
  opened_as_lem free image other l r ps fs most left d e room s = absurd (false≢true e)

  pub opened_sound : (free : ℕ → ℕ → Bool) (image : ℕ → Image) (l r : ℕ) (ps : Crossed) (fs : List Frame) (most left : ℕ)
      → meets_by free image b (term_of b l) ps r ≡ true → length fs + left < most
      → Sound b most left fs → Sound b most left (opened_as b (kind_of (term_of b l).kind) l r fs)
  unfolding meets_by
  opened_sound free image l r ps fs most left e room s = opened_as_lem free image (kind_of (term_of b l).kind) l r ps fs most left refl e room s

  opened_length_as : (k : Kind) (l r : ℕ) (fs : List Frame) → length (opened_as b k l r fs) ≤ length fs + 1
  unfolding opened_as
  opened_length_as variable l r fs = omega arith
  opened_length_as application l r fs = omega arith
  opened_length_as (binder q) l r fs = omega arith
  opened_length_as letting l r fs = omega arith
  opened_length_as other l r fs = omega arith

  -- the same where an application with no arguments has no frame
  pub open_sound : (free : ℕ → ℕ → Bool) (image : ℕ → Image) (l r : ℕ) (fs : List Frame) (most left : ℕ)
      → meets_by free image b (term_of b l) (crossed_by fs) r ≡ true → length fs + left < most
      → Sound b most left fs → Sound b most left (opened b l r fs) × (length (opened b l r fs) ≤ length fs + 1)
  unfolding opened
  open_sound free image l r fs most left e room s =
      go (closes (term_of b l).kind (starts_at (length b.links) (term_of b l).b) (starts_at (length b.links) (term_of b r).b))
    where
      go : (o : Bool) → Sound b most left (cond o fs (opened_as b (kind_of (term_of b l).kind) l r fs))
          × (length (cond o fs (opened_as b (kind_of (term_of b l).kind) l r fs)) ≤ length fs + 1)
      go true = (s, omega arith)
      go false = (opened_sound free image l r (crossed_by fs) fs most left e room s, opened_length_as (kind_of (term_of b l).kind) l r fs)

  -- ---- the frame on top

  pub leave_held : (most left x y o q : ℕ) (fs : List Frame) → Sound b most left (leave x y o q ∷ fs)
      → LeaveHeld (length b.variables) x y o q (crossed_by fs) × Sound b most left fs
  unfolding Sound
  leave_held most left x y o q fs s = s

  module _ (most left l r i j : ℕ) (fs : List Frame) (s : Sound b most left (pending l r i j ∷ fs)) where
    pub pending_held : PendingHeld b most left l r i j fs × Sound b most left fs
    unfolding Sound
    pending_held = s

    pub taken_sound : (m : ℕ) → (i ≡ 0 → ⊥) → left ≡ suc m → Sound b most m (pending l r (next_of b.links i) (next_of b.links j) ∷ fs)
    unfolding Sound
    taken_sound m ni more =
        let was = pending_held.0 in
        let fewer : length (items b i) ≡ length (items b (next_of b.links i)) + 1 = walk_length b i (next_of b.links i) ni was.left_link refl in (
          record {
            met = was.met;
            known = was.known;
            left_link = walk_le b i (next_of b.links i) refl;
            right_link = walk_le b j (next_of b.links j) refl;
            room = omega (arith, was.room);
          },
          sound_less most left m fs (omega arith) pending_held.1,
        )

    -- there is room for the variables once both lists have ended
    pub bodies_room : i ≡ 0 → length fs + length (bound_as b (kind_of (term_of b l).kind) l) + left ≤ most
    bodies_room z = let none : length (items b i) ≡ 0 = ap length (walk_nil b i z) in omega (arith, pending_held.0.room)

    pub bodies_sound : (m : ℕ) → left ≡ suc m
        → Sound b most m (leaves (bound_as b (kind_of (term_of b l).kind) l) (bound_as b (kind_of (term_of b l).kind) r) (crossed_by fs) fs)
    bodies_sound m more =
        let known = bound_known (kind_of (term_of b l).kind) l r pending_held.0.met in
        leaves_sound most m (bound_as b (kind_of (term_of b l).kind) l) (bound_as b (kind_of (term_of b l).kind) r) (crossed_by fs) fs refl known.0 known.1
        (sound_less most left m fs (omega arith) pending_held.1)

-- ---- the next pair

module _ (free : ℕ → ℕ → Bool) (image : ℕ → Image) (whole : Limited) (p : Path) (l x y : ℕ) where
  pub turn_held : (left : ℕ)
      → whole ≡ go_on (under free image p.sets.bundle l x (crossed_by p.frames) y left) (finish free image p.sets.bundle p.frames)
      → ((m : ℕ) → left ≡ suc m → Sound p.sets.bundle p.most m p.frames) → length p.frames + left ≤ p.most
      → TurnHeld free image whole left p (turn_to l x y left)
  unfolding turn_to go_on
  turn_held zero e sound room =
      e ∙ ap (λ (a : Limited). go_on a (finish free image p.sets.bundle p.frames)) (under_spent free image p.sets.bundle l x (crossed_by p.frames) y)
  turn_held (suc m) e sound room = go (ltb x l) e
    where
      go : (t : Bool)
          → whole ≡ go_on (cond t (within_by free image p.sets.bundle x) none_within (crossed_by p.frames) y (suc m)) (finish free image p.sets.bundle p.frames)
          → TurnHeld free image whole (suc m) p (cond t (Ok (record { l = x; r = y; left = m })) (Err (Different m)))
      go true d = (d, sound m refl, omega arith, omega arith)
      go false d = d
