-- Laws of writing one term's set.
--     kept_refl, kept_trans, below_kept, room_kept     what stays while only one set is written
--     unite_zero, unite_high, unite_low                the set of another term united: none, not lower, lower
--     remove_put                                       a variable removed
--     partly_refl, partly_on, partly_end           loops over lists: the set so far, and what is left to add
--     removing_turn, removing_end                  the same, and what is left to remove
use mathlib.Core.Path.{◌≡◌, refl, sym, ap, ◌∙◌}
use mathlib.Core.Logic.{inl}
use mathlib.Core.Bool.{Bool, true, false, cond, not, ◌&&◌, ◌||◌, and-true, and-false, or-false, or_assoc}
use mathlib.Core.List.{List, [], ◌∷◌}
use Prim.Native.Nat.{ℕ, ◌+◌, ◌*◌, ◌-◌, ◌≤◌, ◌<◌}
use native.Mathlib.Omega.{arith}
use lib.ListN.{length, get_or}
use lib.Dec.{eqb, ltb}
use lib.Bits.{bit_or}
use borrow.Author.Tests.{ltb-true, lt-ltb, le-ltb, eqb-true}
use Rattle.bundle.specs.Lists.{has}
use Rattle.bundle.proofs.Fields.{record_within}
use Rattle.sets.specs.Sets.{holds, member, without_bit, changed, removed, united}
use Rattle.sets.proofs.Members.{member_same, member_removed, member_united, changed_length, changed_out, filled_length, filled_out}
use Rattle.logic.specs.Free.{frees_of}
use Rattle.unions.specs.Put.{SetRoom, Kept, Put, set_below}
use Rattle.unions.specs.Unions.{Partly}

but_assoc : (m p q : Bool) → (m && not (p || q)) ≡ ((not p && m) && not q)
but_assoc true true q = refl
but_assoc true false q = refl
but_assoc false true q = refl
but_assoc false false q = refl

pub kept_refl : (w : List ℕ) (n at : ℕ) → Kept w w n at
kept_refl w n at = record { long = refl; others = λ j out. refl }

pub kept_trans : (w v u : List ℕ) (n at : ℕ) → Kept w v n at → Kept v u n at → Kept w u n at
kept_trans w v u n at p q = record { long = q.long ∙ p.long; others = λ j out. q.others j out ∙ p.others j out }

-- the sets below t are as they were where only that of t is written
pub below_kept : (w v : List ℕ) (n t at : ℕ) → SetRoom w n t at → Kept w v n at → (i x : ℕ) → set_below v n t i x ≡ set_below w n t i x
unfolding set_below
below_kept w v n t at room kept i x = go (ltb 0 i) refl (ltb i t) refl
  where
    go : (p : Bool) → ltb 0 i ≡ p → (q : Bool) → ltb i t ≡ q
        → cond (p && q) (member v (n * (i - 1)) n x) false ≡ cond (p && q) (member w (n * (i - 1)) n x) false
    go true d true e =
        let pos : 0 < i = ltb-true 0 i d in
        let low : i < t = ltb-true i t e in
        let fits : n * (i - 1) + n ≤ n * (t - 1) = record_within n (t - 1) i (λ z. omega arith) (omega arith) in
        let start : at ≡ n * (t - 1) = room.start in
        member_same v w (n * (i - 1)) n (λ k h. kept.others (n * (i - 1) + k) (inl (omega arith))) x
    go true d false e = refl
    go false d q e = refl

-- ---- one term

module _ (w : List ℕ) (n t at i : ℕ) where
  none_below : (ltb 0 i && ltb i t) ≡ false → Put w w n at (λ x. member w at n x || set_below w n t i x)
  unfolding set_below
  none_below e = record { kept = kept_refl w n at; members = λ x. rw e (sym (or-false (member w at n x))) }

  pub unite_zero : i ≡ 0 → Put w w n at (λ x. member w at n x || set_below w n t i x)
  unite_zero e = none_below (rw e)

  pub unite_high : t ≤ i → Put w w n at (λ x. member w at n x || set_below w n t i x)
  unite_high h = none_below (rw (le-ltb i t h) (and-false (ltb 0 i)))

  pub unite_low : (v : List ℕ) → SetRoom w n t at → (i ≡ 0 → ⊥) → i < t → v ≡ united w at (n * (i - 1)) n
      → Put w v n at (λ x. member w at n x || set_below w n t i x)
  unfolding set_below
  unite_low v room ne low e = rw e (record {
    kept = record {
      long = filled_length (λ k. bit_or (get_or w (at + k) 0) (get_or w (n * (i - 1) + k) 0)) w at n;
      others = λ j out. filled_out (λ k. bit_or (get_or w (at + k) 0) (get_or w (n * (i - 1) + k) 0)) w at n j out;
    };
    members = λ x. rw (lt-ltb 0 i (omega arith), lt-ltb i t low) (member_united w at (n * (i - 1)) n room.room x);
  })

-- ---- one variable removed, whether or not the set has a bit for it

not_held : (w : List ℕ) (n at y : ℕ) → holds n y ≡ false → member w at n y ≡ false
unfolding member
not_held w n at y h = rw h

removed_none : (w : List ℕ) (n at y : ℕ) → holds n y ≡ false → removed w at n y ≡ w
unfolding changed
removed_none w n at y h = rw h

remove_members : (w : List ℕ) (n at y : ℕ) → at + n ≤ length w → (x : ℕ) → member (removed w at n y) at n x ≡ (not (eqb x y) && member w at n x)
remove_members w n at y room x = go (holds n y) refl
  where
    same : holds n y ≡ false → (p : Bool) → eqb x y ≡ p → member w at n x ≡ (not p && member w at n x)
    same h true e = let q : x ≡ y = eqb-true x y e in rw q (not_held w n at y h)
    same h false e = refl

    go : (p : Bool) → holds n y ≡ p → member (removed w at n y) at n x ≡ (not (eqb x y) && member w at n x)
    go true h = member_removed w at n y room h x
    go false h = rw (removed_none w n at y h) (same h (eqb x y) refl)

pub remove_put : (w v : List ℕ) (n at y : ℕ) → at + n ≤ length w → v ≡ removed w at n y → Put w v n at (λ x. not (eqb x y) && member w at n x)
remove_put w v n at y room e = rw e (record {
  kept = record { long = changed_length without_bit w at n y; others = λ j out. changed_out without_bit w at n y j out };
  members = λ x. remove_members w n at y room x;
})

-- ---- lists: what is left to add or to remove, and the set so far, make up the whole

pub room_kept : (w v : List ℕ) (n t at : ℕ) → SetRoom w n t at → Kept w v n at → SetRoom v n t at
room_kept w v n t at room kept = record { one = room.one; start = room.start; room = omega (arith, room.room, kept.long) }

module _ {w : List ℕ} {n t at : ℕ} {whole : List ℕ} where
  pub partly_refl : Partly w w n t at whole whole
  partly_refl = record { kept = kept_refl w n at; members = λ x. refl }

  pub partly_on : {v u ys rest : List ℕ} {i : ℕ} → SetRoom w n t at → Partly w v n t at whole ys → ys ≡ i ∷ rest
      → Put v u n at (λ x. member v at n x || set_below v n t i x) → Partly w u n t at whole rest
  unfolding frees_of
  partly_on {v} {u} {ys} {rest} {i} room so e put = record {
    kept = kept_trans w v u n at so.kept put.kept;
    members = λ x. ap (λ (p : Bool). p || frees_of (set_below w n t) rest x)
        (put.members x ∙ ap (λ (p : Bool). member v at n x || p) (below_kept w v n t at room so.kept i x))
        ∙ or_assoc (member v at n x) (set_below w n t i x) (frees_of (set_below w n t) rest x)
        ∙ (rw e at (so.members x));
  }

  pub partly_end : {v ys : List ℕ} → Partly w v n t at whole ys → ys ≡ []
      → Put w v n at (λ x. member w at n x || frees_of (set_below w n t) whole x)
  unfolding frees_of
  partly_end {v} so e = record { kept = so.kept; members = λ x. sym (or-false (member v at n x)) ∙ (rw e at (so.members x)) }

module _ (w : List ℕ) (n at : ℕ) (whole : List ℕ) where
  abbrev pub Removing : List ℕ → List ℕ → Type 0
  Removing v ys = (x : ℕ) → (member v at n x && not (has x ys)) ≡ (member w at n x && not (has x whole))

  pub removing_turn : (v u ys rest : List ℕ) (i : ℕ) → Removing v ys → ys ≡ i ∷ rest → Put v u n at (λ x. not (eqb x i) && member v at n x) → Removing u rest
  unfolding has
  removing_turn v u ys rest i so e put x =
      ap (λ (p : Bool). p && not (has x rest)) (put.members x)
      ∙ sym (but_assoc (member v at n x) (eqb x i) (has x rest))
      ∙ (rw e at (so x))

  pub removing_end : (v ys : List ℕ) → Kept w v n at → Removing v ys → ys ≡ [] → Put w v n at (λ x. member w at n x && not (has x whole))
  unfolding has
  removing_end v ys kept so e = record { kept = kept; members = λ x. sym (and-true (member v at n x)) ∙ (rw e at (so x)) }
