-- The agenda of the walk of whole-term REFL: a stack of frames in words of 16 bits, five words a frame, and what is left to do where a pair of terms
-- has been walked. A frame says that two lists of terms are still to be walked, and then the bodies; or that a crossed pair of variables is left.
use Rattle.std.specs.Prelude.{ℕ, zero, suc, ◌+◌, ◌*◌, ◌≤◌, ◌<◌, ◌≡◌, Bool, true, false, ◌&&◌, length, get_or, eqb, ltb}
use Rattle.std.specs.Prelude.{Option, None, Some, Result, Ok, Err}
use Rattle.std.proofs.Math.Bool.{cond}
use mathlib.Core.List.{List, [], ◌∷◌}
use Rattle.bundle.specs.Bundle.{Bundle, term_of, link_of}
use Rattle.bundle.specs.Links.{items, starts_at, next_of}
use Rattle.logic.specs.declared.Image.{Image}
use Rattle.logic.specs.declared.Limited.{Limited}
use Rattle.logic.specs.declared.Limited.TheVariants.{Same, Different, Spent}
use Rattle.logic.specs.Lists.{Number}
use Rattle.logic.specs.Table.{below}
use Rattle.logic.specs.Terms.{Kind, kind_of, variable, application, binder, letting, other}
use Rattle.logic.specs.ReflWalk.{Crossed, lefts, rights, binder_meets, let_meets, cross_all, go_on, lists_within, none_within, within_by, pair_limit}
use Rattle.free_variables.specs.TermSets.{TermSets}
use Rattle.crossings.specs.Places.{stamp, Binders, HaveCrossed}
use Rattle.pair_walk.specs.declared.path.Top.{Top}
use Rattle.pair_walk.specs.declared.turns.Pair.{Pair}

-- ---- frames

-- pending l r i j: of the terms l and r, which meet by themselves, the lists from the links i and j on are still to be walked, and then the bodies.
-- leave x y o p: the variables x and y were crossed, and had the places o and p before.
pub data Frame : Type 0 where
  pending : ℕ → ℕ → ℕ → ℕ → Frame
  leave : ℕ → ℕ → ℕ → ℕ → Frame

-- a frame of its words: the first is the left term, 0 where variables are left
unfoldable pub frame_of : ℕ → ℕ → ℕ → ℕ → ℕ → Frame
frame_of zero x y o p = leave x y o p
frame_of (suc l) r i j e = pending (suc l) r i j

unfoldable pub frame_at : List ℕ → ℕ → Frame
unfolding frame_of
frame_at w k = frame_of (get_or w k 0) (get_or w (k + 1) 0) (get_or w (k + 2) 0) (get_or w (k + 3) 0) (get_or w (k + 4) 0)

-- the agenda of height h, the top first
unfoldable pub frames : List ℕ → ℕ → List Frame
unfolding frame_at
frames w zero = []
frames w (suc h) = frame_at w (5 * h) ∷ frames w h

-- the variables that are crossed
unfoldable pub crossed_by : List Frame → Crossed
crossed_by [] = []
crossed_by (pending l r i j ∷ fs) = crossed_by fs
crossed_by (leave x y o p ∷ fs) = (x, y) ∷ crossed_by fs

-- the frame of a pair is on top
abbrev pub IsPending : List Frame → Type 0
IsPending [] = ⊥
IsPending (pending l r i j ∷ fs) = Unit {0}
IsPending (leave x y o p ∷ fs) = ⊥

-- what is below the top
abbrev pub rest : List Frame → List Frame
rest [] = []
rest (f ∷ fs) = fs

-- with other links in the frame of a pair on top
abbrev pub advanced : ℕ → ℕ → List Frame → List Frame
advanced i j [] = []
advanced i j (pending l r i' j' ∷ fs) = pending l r i j ∷ fs
advanced i j (leave x y o p ∷ fs) = leave x y o p ∷ fs

-- the words of the frame on top, `None` where there is none
abbrev pub IsTop : List Frame → Option Top → Type 0
IsTop fs None = fs ≡ []
IsTop fs (Some t) = fs ≡ frame_of t.l t.r t.i t.j t.e ∷ rest fs

-- ---- by the kind of a pair

-- whether a term has a body in which it binds variables
abbrev pub has_body : Kind → Bool
has_body variable = false
has_body application = false
has_body (binder q) = true
has_body letting = true
has_body other = false

-- the variables that a term binds, its body, and the first link of its terms to walk before that
unfoldable pub bound_as : Bundle → Kind → ℕ → List ℕ
unfolding items
bound_as b variable t = []
bound_as b application t = []
bound_as b (binder q) t = (term_of b t).a ∷ []
bound_as b letting t = items b (term_of b t).a
bound_as b other t = []

unfoldable pub body_as : Bundle → Kind → ℕ → ℕ
body_as b variable t = 0
body_as b application t = 0
body_as b (binder q) t = (term_of b t).b
body_as b letting t = (term_of b t).c
body_as b other t = 0

unfoldable pub start_as : Bundle → Kind → ℕ → ℕ
unfolding starts_at
start_as b variable t = starts_at (length b.links) (term_of b t).b
start_as b application t = starts_at (length b.links) (term_of b t).b
start_as b (binder q) t = 0
start_as b letting t = starts_at (length b.links) (term_of b t).b
start_as b other t = starts_at (length b.links) (term_of b t).b

-- the frames once a pair has met, by its kind: a variable has nothing more to walk
unfoldable pub opened_as : Bundle → Kind → ℕ → ℕ → List Frame → List Frame
unfolding start_as
opened_as b variable l r fs = fs
opened_as b application l r fs = pending l r (start_as b application l) (start_as b application r) ∷ fs
opened_as b (binder q) l r fs = pending l r 0 0 ∷ fs
opened_as b letting l r fs = pending l r (start_as b letting l) (start_as b letting r) ∷ fs
opened_as b other l r fs = pending l r (start_as b other l) (start_as b other r) ∷ fs

-- An application, of kind 2, of which nothing is left from the links i and j on has no frame.
abbrev pub closes : ℕ → ℕ → ℕ → Bool
closes k i j = (eqb k 2 && eqb i 0) && eqb j 0

unfoldable pub opened : Bundle → ℕ → ℕ → List Frame → List Frame
unfolding opened_as starts_at kind_of
opened b l r fs =
    cond (closes (term_of b l).kind (starts_at (length b.links) (term_of b l).b) (starts_at (length b.links) (term_of b r).b)) fs
    (opened_as b (kind_of (term_of b l).kind) l r fs)

-- the frames once variables are crossed, in pairs, where those of ps were before
unfoldable pub leaves : List ℕ → List ℕ → Crossed → List Frame → List Frame
unfolding stamp lefts rights
leaves [] ys ps fs = fs
leaves (x ∷ xs) [] ps fs = fs
leaves (x ∷ xs) (y ∷ ys) ps fs = leaves xs ys ((x, y) ∷ ps) (leave x y (stamp (lefts ps) x) (stamp (rights ps) y) ∷ fs)

-- ---- what is left to do

module _ (free : ℕ → ℕ → Bool) (image : ℕ → Image) (b : Bundle) where
  -- the walk from terms lower than l
  abbrev pub under : ℕ → ℕ → Crossed → ℕ → ℕ → Limited
  under l = below none_within l (within_by free image b)

  -- the bodies of l and r, inside the variables of both, and then g; g alone where there are none
  unfoldable pub closing : Kind → ℕ → ℕ → Crossed → (ℕ → Limited) → ℕ → Limited
  unfolding go_on cross_all bound_as body_as
  closing k l r ps g n = cond (has_body k) (go_on (under l (body_as b k l) (cross_all (bound_as b k l) (bound_as b k r) ps) (body_as b k r) n) g) (g n)

  unfoldable pub finish : List Frame → ℕ → Limited
  unfolding closing crossed_by lists_within go_on
  finish [] n = Same n
  finish (leave x y o p ∷ fs) n = finish fs n
  finish (pending l r i j ∷ fs) n =
      go_on (lists_within (under l) (crossed_by fs) (items b i) (items b j) n) (closing (kind_of (term_of b l).kind) l r (crossed_by fs) (finish fs))

-- ---- what is known of the frames

-- a pair that has bodies has met
unfoldable pub MetAs : Bundle → Kind → ℕ → ℕ → Type 0
MetAs b variable l r = Unit {0}
MetAs b application l r = Unit {0}
MetAs b (binder q) l r = binder_meets b (term_of b l) r ≡ true
MetAs b letting l r = let_meets b (term_of b l) r ≡ true
MetAs b other l r = Unit {0}

-- There is room for the variables of each pair that are to be crossed, where `most` pairs could be visited and so many are left.
pub record PendingHeld (b : Bundle) (most left : ℕ) (l r i j : ℕ) (fs : List Frame) : Type 0 where
  pub met : MetAs b (kind_of (term_of b l).kind) l r
  pub known : Number (length b.terms) l
  pub left_link : i ≤ length b.links
  pub right_link : j ≤ length b.links
  pub room : length fs + length (bound_as b (kind_of (term_of b l).kind) l) + left ≤ most + length (items b i)

pub record LeaveHeld (variables : ℕ) (x y o p : ℕ) (ps : Crossed) : Type 0 where
  pub left_known : Number variables x
  pub right_known : Number variables y
  pub left_place : o ≡ stamp (lefts ps) x
  pub right_place : p ≡ stamp (rights ps) y

unfoldable pub Sound : Bundle → ℕ → ℕ → List Frame → Type 0
unfolding crossed_by
Sound b most left [] = Unit {0}
Sound b most left (pending l r i j ∷ fs) = PendingHeld b most left l r i j fs × Sound b most left fs
Sound b most left (leave x y o p ∷ fs) = LeaveHeld (length b.variables) x y o p (crossed_by fs) × Sound b most left fs

-- ---- the path of a walk

-- the arrays have the variables that the agenda of height h says are crossed, `depth` pairs of them
pub record Crossing (binders : Binders) (agenda : List ℕ) (h depth : ℕ) : Type 0 where
  pub placed : HaveCrossed binders (crossed_by (frames agenda h))
  pub deep : depth ≡ length (crossed_by (frames agenda h))

-- and the agenda has room for `most` frames, and the sets for each variable
pub record Kept (binders : Binders) (agenda : List ℕ) (most h depth : ℕ) : Type 0 where
  pub long : 5 * most ≤ length agenda
  pub high : h ≤ most
  pub few : most ≤ pair_limit
  pub bits : length binders.sets.bundle.variables ≤ 64 * binders.sets.n
  pub crossing : Crossing binders agenda h depth

-- what is said of a path: the sets of its file's terms, the frames that there is room for, and the frames
pub record Path : Type 0 where
  pub sets : TermSets
  pub most : ℕ
  pub frames : List Frame

abbrev pub with_frames : Path → List Frame → Path
with_frames p fs = record { sets = p.sets; most = p.most; frames = fs }

-- ---- turns

-- the terms x and y below l are taken up as the next pair, where so many are left
unfoldable pub turn_to : ℕ → ℕ → ℕ → ℕ → Result Pair Limited
turn_to l x y zero = Err Spent
turn_to l x y (suc n) = cond (ltb x l) (Ok (record { l = x; r = y; left = n })) (Err (Different n))

-- The frame of a pair is on top, and i and j are links of the file.
abbrev pub Takes : Path → ℕ → ℕ → Type 0
Takes p i j = IsPending p.frames × ((i ≡ 0 → ⊥) × (i ≤ length p.sets.bundle.links)) × ((j ≡ 0 → ⊥) × (j ≤ length p.sets.bundle.links))

-- The terms at the links are the next pair; the frame has the next links, or an application's is taken off where there are none.
abbrev pub Taken : Path → ℕ → ℕ → ℕ → ℕ → Path → Result Pair Limited → Type 0
Taken p l i j left q t =
    (t ≡ turn_to l (link_of p.sets.bundle i).value (link_of p.sets.bundle j).value left)
    × (q ≡ with_frames p (cond (closes (term_of p.sets.bundle l).kind (next_of p.sets.bundle.links i) (next_of p.sets.bundle.links j)) (rest p.frames)
    (advanced (next_of p.sets.bundle.links i) (next_of p.sets.bundle.links j) p.frames)))

-- What a turn is to a walk: it has ended, or the pair that is taken up, and then what is left to do, is the whole.
abbrev pub TurnHeld : (ℕ → ℕ → Bool) → (ℕ → Image) → Limited → ℕ → Path → Result Pair Limited → Type 0
TurnHeld free image whole left path (Err a) = whole ≡ a
TurnHeld free image whole left path (Ok p) =
    (whole ≡ go_on (within_by free image path.sets.bundle p.l (crossed_by path.frames) p.r (suc p.left)) (finish free image path.sets.bundle path.frames))
    × Sound path.sets.bundle path.most p.left path.frames × (length path.frames + p.left < path.most) × (p.left < left)
