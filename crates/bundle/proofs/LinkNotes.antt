-- What is noted at links of lists, on a walk that notes each link before the rest of its list is known.
--     zeros                              a new array is zero throughout
--     noted_none                         nothing is noted at first
--     OnWay, way_on, way_end             what holds at a link of such a walk: on to the next link, where it ends
--     lower_up                           links whose items are 1 to n stay so for a greater number
use mathlib.Core.Path.{◌≡◌, refl}
use mathlib.Core.List.{List}
use Prim.Native.Nat.{ℕ, zero, suc, ◌≤◌, ◌<◌}
use native.Mathlib.Omega.{arith}
use native.Mathlib.Decide.{ℕ_discrete}
use lib.ListN.{length, get_or, set, replicate}
use lib.Seq.{get_or-set_same, get_or-set_other}
use Rattle.bundle.specs.Links.{items}
use Rattle.bundle.specs.Bundle.{Bundle}
use Rattle.bundle.specs.LinkNotes.{Zeros, Noted, LowerNoted}
use Rattle.bundle.proofs.NumberLists.{each_up}

pub zeros : (n : ℕ) → Zeros (replicate n 0)
zeros n = record { zero = zero_at n }
  where
    zero_at : (n p : ℕ) → ◌≡◌ {A = ℕ} (get_or (replicate n 0) p 0) 0
    zero_at zero p = refl
    zero_at (suc n) zero = refl
    zero_at (suc n) (suc p) = zero_at n p

module _ (Good : ℕ → ℕ → Type 0) where
  pub noted_none : (n : ℕ) (w : List ℕ) → Zeros w → n < length w → Noted Good n w
  noted_none n w none long = record { enough = long; sound = λ p some. absurd (some (none.zero p)) }

  -- At link j of a walk, where v is to be noted: what is noted of j and above is good, and all that is noted is if v is good of j.
  pub record OnWay (w : List ℕ) (v j : ℕ) : Type 0 where
    pub above : (p : ℕ) → j ≤ p → (j ≡ 0 → ⊥) → (get_or w p 0 ≡ 0 → ⊥) → Good (get_or w p 0) p
    pub all : Good v j → (p : ℕ) → (get_or w p 0 ≡ 0 → ⊥) → Good (get_or w p 0) p

  pub way_end : (n : ℕ) (w : List ℕ) (v j : ℕ) → OnWay w v j → Good v j → n < length w → Noted Good n w
  way_end n w v j way good long = record { enough = long; sound = way.all good }

  -- v is noted of j, and the walk goes on to r, where u is to be noted
  pub way_on : (w : List ℕ) (v j u r : ℕ) → OnWay w v j → (j ≡ 0 → ⊥) → j < length w → ((r ≡ 0 → ⊥) → j < r) → (Good u r → Good v j) → OnWay (set w j v) u r
  way_on w v j u r way ne room up back = record { above = above; all = all }
    where
      above : (p : ℕ) → r ≤ p → (r ≡ 0 → ⊥) → (get_or (set w j v) p 0 ≡ 0 → ⊥) → Good (get_or (set w j v) p 0) p
      above p over some noted =
          let far : j < r = up some in
          let same : get_or (set w j v) p 0 ≡ get_or w p 0 = get_or-set_other w j p v 0 (λ z. omega arith) in
          rw same (way.above p (omega arith) ne (rw same at noted))

      all : Good u r → (p : ℕ) → (get_or (set w j v) p 0 ≡ 0 → ⊥) → Good (get_or (set w j v) p 0) p
      all e p noted = go (ℕ_discrete p j)
        where
          go : Dec (p ≡ j) → Good (get_or (set w j v) p 0) p
          go (yes z) = rw (z, get_or-set_same w j v 0 room) (back e)
          go (no other) =
              let same : get_or (set w j v) p 0 ≡ get_or w p 0 = get_or-set_other w j p v 0 other in
              rw same (way.all (back e) p (rw same at noted))

pub lower_up : (b : Bundle) (n m : ℕ) (w : List ℕ) → n ≤ m → LowerNoted b n w → LowerNoted b m w
lower_up b n m w h so = record { enough = so.enough; sound = λ p some. each_up n m (items b p) h (so.sound p some) }
