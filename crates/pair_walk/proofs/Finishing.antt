-- What is left to do, frame by frame.
--     go_on_on                       a walk, a second and a third
--     within_spent, under_spent      with no pair left a walk is spent
--     differs_here                   a pair that does not meet
--     opened_is, opened_on           a pair that meets, and what is left of it
--     lists_on, lists_short          the lists of a pair go on, or one is shorter
--     closed_is, closed_off, bodies_are     both lists have ended: nothing more, or the bodies
--     leaves_crossed, leaves_finish  variables crossed
--     finish_none                    nothing is left
use mathlib.Core.Path.{◌≡◌, refl, sym, ap, ◌∙◌, fun_ext}
use mathlib.Core.Bool.{Bool, true, false, cond, ◌&&◌, false≢true}
use mathlib.Core.List.{List, [], ◌∷◌}
use Prim.Native.Nat.{ℕ, suc, ◌≤◌}
use lib.ListN.{length}
use lib.Dec.{eqb, ltb}
use borrow.Author.Tests.{eqb-true}
use Rattle.bundle.specs.Bundle.{Bundle, TermRecord, link_of, term_of}
use Rattle.bundle.specs.Links.{items, starts_at, next_of}
use Rattle.bundle.proofs.Walks.{walk_start, walk_nil, walk_some}
use Rattle.logic.specs.declared.Image.{Image}
use Rattle.logic.specs.declared.Limited.{Limited}
use Rattle.logic.specs.declared.Limited.TheVariants.{Same, Different, Spent}
use Rattle.logic.specs.Terms.{Kind, kind_of, variable, application, binder, letting, other}
use Rattle.logic.specs.ReflWalk.{Crossed, cross_all, let_crossed, go_on, lists_within, within_as, within_of, none_within, within_by}
use Rattle.logic.proofs.ReflWalk.{within_below}
use Rattle.logic.proofs.Tests.{and_left, and_right}
use Rattle.crossings.specs.Pairs.{meets_as, meets_by}
use Rattle.pair_walk.specs.Agenda.{Frame, pending, crossed_by, has_body, bound_as, body_as, opened_as, closes, opened, leaves}
use Rattle.pair_walk.specs.Agenda.{under, closing, finish}

pub go_on_on : (a : Limited) (f g : ℕ → Limited) → go_on (go_on a f) g ≡ go_on a (λ n. go_on (f n) g)
unfolding go_on
go_on_on (Same n) f g = refl
go_on_on (Different n) f g = refl
go_on_on Spent f g = refl

pub leaves_crossed : (xs ys : List ℕ) (ps : Crossed) (fs : List Frame) → crossed_by fs ≡ ps → crossed_by (leaves xs ys ps fs) ≡ cross_all xs ys ps
unfolding leaves cross_all crossed_by
leaves_crossed [] ys ps fs e = e
leaves_crossed (x ∷ xs) [] ps fs e = e
leaves_crossed (x ∷ xs) (y ∷ ys) ps fs e = leaves_crossed xs ys ((x, y) ∷ ps) _ (ap (λ (l : Crossed). (x, y) ∷ l) e)

module _ (free : ℕ → ℕ → Bool) (image : ℕ → Image) (b : Bundle) where
  -- ---- with no pair left

  spent_as : (k : Kind) (f : ℕ → Crossed → ℕ → ℕ → Limited) (s : TermRecord) (ps : Crossed) (r : ℕ) → within_as free image b k f s ps r 0 ≡ Spent
  unfolding within_as
  spent_as variable f s ps r = refl
  spent_as application f s ps r = refl
  spent_as (binder q) f s ps r = refl
  spent_as letting f s ps r = refl
  spent_as other f s ps r = refl

  pub within_spent : (l : ℕ) (ps : Crossed) (r : ℕ) → within_by free image b l ps r 0 ≡ Spent
  unfolding within_of
  within_spent l ps r =
      ap (λ (f : Crossed → ℕ → ℕ → Limited). f ps r 0) (within_below free image b l)
      ∙ spent_as (kind_of (term_of b l).kind) (under free image b l) (term_of b l) ps r

  pub under_spent : (l x : ℕ) (ps : Crossed) (y : ℕ) → under free image b l x ps y 0 ≡ Spent
  under_spent l x ps y = go (ltb x l)
    where
      go : (p : Bool) → cond p (within_by free image b x) none_within ps y 0 ≡ Spent
      go true = within_spent x ps y
      go false = refl

  -- ---- a pair

  -- what a record's walk is where the pair meets, and where it does not
  differs_as : (k : Kind) (f : ℕ → Crossed → ℕ → ℕ → Limited) (s : TermRecord) (ps : Crossed) (r n : ℕ) → meets_as free image b k s ps r ≡ false
      → within_as free image b k f s ps r (suc n) ≡ Different n
  unfolding within_as meets_as
  differs_as variable f s ps r n e = rw e
  differs_as application f s ps r n e = rw e
  differs_as (binder q) f s ps r n e = rw e
  differs_as letting f s ps r n e = rw e
  differs_as other f s ps r n e = refl

  pub differs_here : (l : ℕ) (ps : Crossed) (r n : ℕ) (g : ℕ → Limited) → meets_by free image b (term_of b l) ps r ≡ false
      → go_on (within_by free image b l ps r (suc n)) g ≡ Different n
  unfolding within_of meets_by go_on
  differs_here l ps r n g e =
      ap (λ (f : Crossed → ℕ → ℕ → Limited). go_on (f ps r (suc n)) g) (within_below free image b l)
      ∙ ap (λ (a : Limited). go_on a g) (differs_as (kind_of (term_of b l).kind) (under free image b l) (term_of b l) ps r n e)

  start_is : (t : ℕ) → items b (starts_at (length b.links) t) ≡ items b t
  start_is t = sym (walk_start b t (starts_at (length b.links) t) refl)

  opened_as_lem : (k : Kind) (l r : ℕ) (fs : List Frame) (n : ℕ) → kind_of (term_of b l).kind ≡ k → meets_as free image b k (term_of b l) (crossed_by fs) r ≡ true
      → go_on (within_as free image b k (under free image b l) (term_of b l) (crossed_by fs) r (suc n)) (finish free image b fs)
      ≡ finish free image b (opened_as b k l r fs) n
  unfolding within_as meets_as go_on finish opened_as closing
  opened_as_lem variable l r fs n d e = rw e
  opened_as_lem application l r fs n d e = rw (e, d, start_is (term_of b l).b, start_is (term_of b r).b)
  opened_as_lem (binder q) l r fs n d e = rw (e, d)
  opened_as_lem letting l r fs n d e = rw (e, d, start_is (term_of b l).b, start_is (term_of b r).b)
      (go_on_on (lists_within (under free image b l) (crossed_by fs) (items b (term_of b l).b) (items b (term_of b r).b) n)
      (under free image b l (term_of b l).c (let_crossed b (term_of b l) r (crossed_by fs)) (term_of b r).c) (finish free image b fs))
  opened_as_lem other l r fs n d e = absurd (false≢true e)

  pub opened_is : (l r : ℕ) (fs : List Frame) (n : ℕ) → meets_by free image b (term_of b l) (crossed_by fs) r ≡ true
      → go_on (within_by free image b l (crossed_by fs) r (suc n)) (finish free image b fs)
      ≡ finish free image b (opened_as b (kind_of (term_of b l).kind) l r fs) n
  unfolding within_of meets_by
  opened_is l r fs n e =
      ap (λ (f : Crossed → ℕ → ℕ → Limited). go_on (f (crossed_by fs) r (suc n)) (finish free image b fs)) (within_below free image b l)
      ∙ opened_as_lem (kind_of (term_of b l).kind) l r fs n refl e

  -- ---- the lists of a pair

  pub lists_on : (l r i j n : ℕ) (fs : List Frame) → (i ≡ 0 → ⊥) → i ≤ (length b.links) → (j ≡ 0 → ⊥) → j ≤ (length b.links)
      → finish free image b (pending l r i j ∷ fs) n
      ≡ go_on (under free image b l (link_of b i).value (crossed_by fs) (link_of b j).value n)
      (finish free image b (pending l r (next_of b.links i) (next_of b.links j) ∷ fs))
  unfolding finish lists_within
  lists_on l r i j n fs ni hi nj hj =
      rw (walk_some b i ni hi, walk_some b j nj hj)
      (go_on_on (under free image b l (link_of b i).value (crossed_by fs) (link_of b j).value n)
      (lists_within (under free image b l) (crossed_by fs) (items b (next_of b.links i)) (items b (next_of b.links j)))
      (closing free image b (kind_of (term_of b l).kind) l r (crossed_by fs) (finish free image b fs)))

  pub left_short : (l r i j n : ℕ) (fs : List Frame) → i ≡ 0 → (j ≡ 0 → ⊥) → j ≤ (length b.links) → finish free image b (pending l r i j ∷ fs) n ≡ Different n
  unfolding finish lists_within go_on
  left_short l r i j n fs ei nj hj = rw (walk_nil b i ei, walk_some b j nj hj)

  pub right_short : (l r i j n : ℕ) (fs : List Frame) → (i ≡ 0 → ⊥) → i ≤ (length b.links) → j ≡ 0 → finish free image b (pending l r i j ∷ fs) n ≡ Different n
  unfolding finish lists_within go_on
  right_short l r i j n fs ni hi ej = rw (walk_some b i ni hi, walk_nil b j ej)

  pub closed_is : (l r i j n : ℕ) (fs : List Frame) → i ≡ 0 → j ≡ 0 → has_body (kind_of (term_of b l).kind) ≡ false
      → finish free image b (pending l r i j ∷ fs) n ≡ finish free image b fs n
  unfolding finish lists_within go_on closing
  closed_is l r i j n fs ei ej e = rw (walk_nil b i ei, walk_nil b j ej, e)

  -- an application of which nothing is left
  pub closed_off : (l r u v : ℕ) (fs : List Frame) → closes (term_of b l).kind u v ≡ true
      → finish free image b (pending l r u v ∷ fs) ≡ finish free image b fs
  unfolding kind_of
  closed_off l r u v fs e =
      let k : ℕ = (term_of b l).kind in
      let both = and_left (eqb k 2 && eqb u 0) (eqb v 0) e in
      let two : k ≡ 2 = eqb-true k 2 (and_left (eqb k 2) (eqb u 0) both) in
      let none : has_body (kind_of k) ≡ false = rw two in
      fun_ext (λ m. closed_is l r u v m fs (eqb-true u 0 (and_right (eqb k 2) (eqb u 0) both)) (eqb-true v 0 (and_right (eqb k 2 && eqb u 0) (eqb v 0) e))
      none)

  opened_off : (l r : ℕ) (fs : List Frame) → closes (term_of b l).kind (starts_at (length b.links) (term_of b l).b) (starts_at (length b.links) (term_of b r).b) ≡ true
      → finish free image b (opened_as b (kind_of (term_of b l).kind) l r fs) ≡ finish free image b fs
  unfolding kind_of opened_as
  opened_off l r fs e =
      let k : ℕ = (term_of b l).kind in
      let u : ℕ = starts_at (length b.links) (term_of b l).b in
      let v : ℕ = starts_at (length b.links) (term_of b r).b in
      let two : k ≡ 2 = eqb-true k 2 (and_left (eqb k 2) (eqb u 0) (and_left (eqb k 2 && eqb u 0) (eqb v 0) e)) in
      let is : opened_as b (kind_of k) l r fs ≡ pending l r u v ∷ fs = ap (λ (m : ℕ). opened_as b (kind_of m) l r fs) two in
      ap (finish free image b) is ∙ closed_off l r u v fs e

  -- a pair that meets, and what is put onto the agenda for it
  pub opened_on : (l r : ℕ) (fs : List Frame) (n : ℕ) → meets_by free image b (term_of b l) (crossed_by fs) r ≡ true
      → go_on (within_by free image b l (crossed_by fs) r (suc n)) (finish free image b fs) ≡ finish free image b (opened b l r fs) n
  unfolding opened
  opened_on l r fs n e =
      go (closes (term_of b l).kind (starts_at (length b.links) (term_of b l).b) (starts_at (length b.links) (term_of b r).b)) refl
    where
      go : (p : Bool) → closes (term_of b l).kind (starts_at (length b.links) (term_of b l).b) (starts_at (length b.links) (term_of b r).b) ≡ p
          → go_on (within_by free image b l (crossed_by fs) r (suc n)) (finish free image b fs)
          ≡ finish free image b (cond p fs (opened_as b (kind_of (term_of b l).kind) l r fs)) n
      go true d = opened_is l r fs n e ∙ ap (λ (g : ℕ → Limited). g n) (opened_off l r fs d)
      go false d = opened_is l r fs n e

  pub bodies_are : (l r i j n : ℕ) (fs : List Frame) → i ≡ 0 → j ≡ 0 → has_body (kind_of (term_of b l).kind) ≡ true
      → finish free image b (pending l r i j ∷ fs) n
      ≡ go_on (under free image b l (body_as b (kind_of (term_of b l).kind) l)
      (cross_all (bound_as b (kind_of (term_of b l).kind) l) (bound_as b (kind_of (term_of b l).kind) r) (crossed_by fs)) (body_as b (kind_of (term_of b l).kind)
      r) n)
      (finish free image b fs)
  unfolding finish lists_within go_on closing
  bodies_are l r i j n fs ei ej e = rw (walk_nil b i ei, walk_nil b j ej, e)

  -- ---- variables crossed

  pub leaves_finish : (xs ys : List ℕ) (ps : Crossed) (fs : List Frame) → finish free image b (leaves xs ys ps fs) ≡ finish free image b fs
  unfolding leaves finish
  leaves_finish [] ys ps fs = refl
  leaves_finish (x ∷ xs) [] ps fs = refl
  leaves_finish (x ∷ xs) (y ∷ ys) ps fs = leaves_finish xs ys ((x, y) ∷ ps) _

  -- ---- nothing is left

  pub finish_none : (fs : List Frame) (n : ℕ) → fs ≡ [] → finish free image b fs n ≡ Same n
  unfolding finish
  finish_none fs n e = rw e
