-- Variables crossed on the way into bodies, item by item.
--     leaves_length                as many frames more as there are pairs, at most
--     Along                        what holds on the way along two lists
--     along_here, along_on, along_end     a pair of items, the rest, the end
--     along_uneven                 the lists end together
use mathlib.Core.Path.{◌≡◌, ap, ◌∙◌}
use mathlib.Core.Bool.{true, ◌&&◌, false≢true}
use mathlib.Core.List.{List, [], ◌∷◌}
use Prim.Native.Nat.{ℕ, suc, ◌+◌, ◌≤◌, ◌<◌}
use native.Mathlib.Omega.{arith}
use lib.ListN.{length}
use Rattle.logic.specs.Lists.{Number}
use Rattle.logic.specs.ReflWalk.{Crossed, lefts, rights, sorts_meet, all_sorts_meet}
use Rattle.logic.proofs.Tests.{and_left, and_right}
use Rattle.crossings.specs.Places.{stamp}
use Rattle.pair_walk.specs.Agenda.{Frame, leave, crossed_by, leaves, Path, with_frames}
use Rattle.pair_walk.proofs.Soundness.{sorts_known}

pub leaves_length : (xs ys : List ℕ) (ps : Crossed) (fs : List Frame) → length (leaves xs ys ps fs) ≤ length fs + length xs
unfolding leaves
leaves_length [] ys ps fs = omega arith
leaves_length (x ∷ xs) [] ps fs = omega arith
leaves_length (x ∷ xs) (y ∷ ys) ps fs = omega (arith, leaves_length xs ys ((x, y) ∷ ps) (leave x y (stamp (lefts ps) x) (stamp (rights ps) y) ∷ fs))

pub record Along (p₀ : Path) (first second : List ℕ) (p : Path) (xs ys : List ℕ) : Type 0 where
  pub same : p ≡ with_frames p₀ p.frames
  pub room : length p.frames + length xs ≤ p₀.most
  pub sorts : all_sorts_meet p₀.sets.bundle xs ys ≡ true
  pub is : leaves xs ys (crossed_by p.frames) p.frames ≡ leaves first second (crossed_by p₀.frames) p₀.frames

module _ {p₀ p : Path} {first second xs ys : List ℕ} (along : Along p₀ first second p xs ys) where
  pub along_end : xs ≡ [] → p ≡ with_frames p₀ (leaves first second (crossed_by p₀.frames) p₀.frames)
  unfolding leaves
  along_end e = along.same ∙ ap (with_frames p₀) (rw e at along.is)

  module _ {x : ℕ} {xs' : List ℕ} (dx : xs ≡ x ∷ xs') where
    more : length xs ≡ suc (length xs')
    more = ap length dx

    pub along_uneven {ℓ} : {A : Type ℓ} → ys ≡ [] → A
    unfolding all_sorts_meet
    along_uneven e = absurd (false≢true (rw (dx, e) at along.sorts))

    module _ {y : ℕ} {ys' : List ℕ} (dy : ys ≡ y ∷ ys') where
      sorts_here : (sorts_meet p₀.sets.bundle x y && all_sorts_meet p₀.sets.bundle xs' ys') ≡ true
      unfolding all_sorts_meet
      sorts_here = rw (dx, dy) at along.sorts

      pub along_here : (length p.frames < p.most) × Number (length p.sets.bundle.variables) x × Number (length p.sets.bundle.variables) y
      along_here =
          let known = sorts_known p₀.sets.bundle x y (and_left (sorts_meet p₀.sets.bundle x y) (all_sorts_meet p₀.sets.bundle xs' ys') sorts_here) in
          rw along.same (omega (arith, along.room, more), known.0, known.1)

      pub along_on : {p' : Path}
          → p' ≡ with_frames p (leave x y (stamp (lefts (crossed_by p.frames)) x) (stamp (rights (crossed_by p.frames)) y) ∷ p.frames)
          → Along p₀ first second p' xs' ys'
      unfolding leaves crossed_by
      along_on e =
          let was : leaves (x ∷ xs') (y ∷ ys') (crossed_by p.frames) p.frames ≡ leaves first second (crossed_by p₀.frames) p₀.frames
          = rw (dx, dy) at along.is in
          rw e (record {
            same = ap (λ (q : Path). with_frames q (leave x y (stamp (lefts (crossed_by p.frames)) x) (stamp (rights (crossed_by p.frames)) y) ∷ p.frames)) along.same;
            room = omega (arith, along.room, more);
            sorts = and_right (sorts_meet p₀.sets.bundle x y) (all_sorts_meet p₀.sets.bundle xs' ys') sorts_here;
            is = was;
          })
