-- A walk at a pair.
--     Visiting                   the pair, counted already, and then what is left to do, is the whole
--     visit_start                the first pair
--     visit_differs              a pair that does not meet
--     open_known, visit_opened, opened_whole    a pair that meets
--     turned_end, turned_pair    what follows
use mathlib.Core.Path.{◌≡◌, refl, sym, ap, subst, ◌∙◌}
use mathlib.Core.Bool.{Bool, true, false}
use mathlib.Core.List.{[]}
use Prim.Native.Nat.{ℕ, suc, ◌+◌, ◌-◌, ◌≤◌, ◌<◌}
use native.Mathlib.Omega.{arith}
use lib.ListN.{length}
use Rattle.std.specs.Prelude.{Result, Ok, Err}
use Rattle.bundle.specs.Bundle.{term_of}
use Rattle.free_variables.specs.TermSets.{TermSets}
use Rattle.logic.specs.declared.Image.{Image}
use Rattle.logic.specs.declared.Limited.{Limited}
use Rattle.logic.specs.declared.Limited.TheVariants.{Same, Different, Spent}
use Rattle.logic.specs.Lists.{Number}
use Rattle.logic.specs.ReflWalk.{go_on, within_by}
use Rattle.crossings.specs.Pairs.{meets_by}
use Rattle.pair_walk.specs.declared.turns.Pair.{Pair}
use Rattle.pair_walk.specs.Agenda.{crossed_by, opened, finish, Sound, Path, TurnHeld}
use Rattle.pair_walk.proofs.Finishing.{differs_here, opened_on}
use Rattle.pair_walk.proofs.Soundness.{met_known, open_sound}

pub record Visiting (free : ℕ → ℕ → Bool) (image : ℕ → Image) (whole : Limited) (p : Path) (l r left : ℕ) : Type 0 where
  pub is : whole ≡ go_on (within_by free image p.sets.bundle l (crossed_by p.frames) r (suc left)) (finish free image p.sets.bundle p.frames)
  pub sound : Sound p.sets.bundle p.most left p.frames
  pub room : length p.frames + left < p.most

go_on_same : (a : Limited) → go_on a (λ n. Same n) ≡ a
unfolding go_on
go_on_same (Same n) = refl
go_on_same (Different n) = refl
go_on_same Spent = refl

module _ (free : ℕ → ℕ → Bool) (image : ℕ → Image) (sets : TermSets) (most : ℕ) where
  pub visit_start : (l r : ℕ) → 1 ≤ most
      → Visiting free image (within_by free image sets.bundle l [] r most) (record { sets = sets; most = most; frames = [] }) l r (most - 1)
  unfolding crossed_by finish Sound
  visit_start l r some =
      let one : suc (most - 1) ≡ most = omega arith in
      record {
        is = sym (ap (λ (m : ℕ). go_on (within_by free image sets.bundle l [] r m) (λ k. Same k)) one ∙ go_on_same (within_by free image sets.bundle l [] r most));
        sound = tt;
        room = omega arith;
      }

module _ {free : ℕ → ℕ → Bool} {image : ℕ → Image} {whole : Limited} {p : Path} {l r left : ℕ} (visit : Visiting free image whole p l r left) {m : Bool}
    (met : m ≡ meets_by free image p.sets.bundle (term_of p.sets.bundle l) (crossed_by p.frames) r) where
  pub visit_differs : m ≡ false → Different left ≡ whole
  visit_differs e =
      sym (visit.is ∙ differs_here free image p.sets.bundle l (crossed_by p.frames) r left (finish free image p.sets.bundle p.frames) (sym met ∙ e))

  module _ (e : m ≡ true) where
    pub open_known : (length p.frames < p.most)
        × (((term_of p.sets.bundle l).kind ≡ 1 → ⊥) → Number (length p.sets.bundle.terms) l × Number (length p.sets.bundle.terms) r)
    open_known = (
      omega (arith, visit.room),
      λ ne. met_known p.sets.bundle free image l r (crossed_by p.frames) (sym met ∙ e) ne,
    )

    pub visit_opened : Sound p.sets.bundle p.most left (opened p.sets.bundle l r p.frames)
        × (length (opened p.sets.bundle l r p.frames) + left ≤ p.most)
    visit_opened =
        let o = open_sound p.sets.bundle free image l r p.frames p.most left (sym met ∙ e) visit.room visit.sound in
        (o.0, omega (arith, o.1, visit.room))

    pub opened_whole : whole ≡ finish free image p.sets.bundle (opened p.sets.bundle l r p.frames) left
    opened_whole = visit.is ∙ opened_on free image p.sets.bundle l r p.frames left (sym met ∙ e)

module _ (free : ℕ → ℕ → Bool) (image : ℕ → Image) {whole rest : Limited} (p : Path) (left : ℕ) {t : Result Pair Limited}
    (h : TurnHeld free image rest left p t) (d : whole ≡ rest) where
  pub turned_end : {a : Limited} → t ≡ Err a → a ≡ whole
  turned_end e = sym (d ∙ subst (TurnHeld free image rest left p) e h)

  pub turned_pair : {q : Pair} → t ≡ Ok q → Visiting free image whole p q.l q.r q.left × (q.left < left)
  turned_pair e =
      let h' = subst (TurnHeld free image rest left p) e h in
      (record { is = d ∙ h'.0; sound = h'.1; room = h'.2 }, h'.3)
