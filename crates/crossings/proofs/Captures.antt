-- The variables bound on the right against those that are free in a term.
--     no_captures     none of them is free in term t exactly where t is settled when just they are moved
use mathlib.Core.Path.{◌≡◌, refl, sym, ◌∙◌}
use mathlib.Core.Bool.{Bool, true, false, cond, not, ◌&&◌, false≢true}
use mathlib.Core.List.{List}
use Prim.Native.Nat.{ℕ, ◌+◌, ◌*◌, ◌-◌, ◌^◌, ◌<◌}
use lib.ListN.{length, get_or}
use Rattle.std.specs.Cmp.{both_ways}
use Rattle.bundle.specs.Lists.{numbers, each, has}
use Rattle.sets.specs.Sets.{member, disjoint_of}
use Rattle.sets.proofs.Members.{disjoint_none, none_disjoint}
use Rattle.logic.proofs.Tests.{each_has, has_each}
use Rattle.free_variables.specs.TermSets.{TermSets, Words, free_in, settled_in}

module _ (w : List ℕ) (first : ℕ) (m : List ℕ) (n : ℕ) (ys : List ℕ) (known : (y : ℕ) → member m 0 n y ≡ has y ys)
    (small : (k : ℕ) → get_or w (first + k) 0 < 2 ^ 64) where
  -- of the set at `first`
  none_common : disjoint_of w first m 0 n ≡ each (λ y. not (member w first n y)) ys
  none_common =
      both_ways (disjoint_of w first m 0 n) (each (λ y. not (member w first n y)) ys)
      (λ e. has_each (λ y. not (member w first n y)) ys (λ y h. out (member w first n y) (member m 0 n y) (disjoint_none w first m 0 n e y) (known y ∙ h)))
      (λ e. none_disjoint w first m 0 n small (λ y. apart y (member m 0 n y) refl e))
    where
      out : (p q : Bool) → (p && q) ≡ false → q ≡ true → not p ≡ true
      out true q e h = absurd (false≢true (sym e ∙ h))
      out false q e h = refl

      apart : (y : ℕ) (q : Bool) → member m 0 n y ≡ q → each (λ y. not (member w first n y)) ys ≡ true → (member w first n y && q) ≡ false
      apart y true d e = go (member w first n y) (each_has (λ y. not (member w first n y)) ys e y (sym (known y) ∙ d))
        where
          go : (p : Bool) → not p ≡ true → (p && true) ≡ false
          go true h = absurd (false≢true h)
          go false h = refl
      apart y false d e = go (member w first n y)
        where
          go : (p : Bool) → (p && false) ≡ false
          go true = refl
          go false = refl

module _ (s : TermSets) (m : List ℕ) (t : ℕ) (ys : List ℕ) (known : (y : ℕ) → member m 0 s.n y ≡ has y ys) (small : Words s.words) where
  pub no_captures : {p : Bool} → p ≡ settled_in s m 0 t → p ≡ each (λ y. not (free_in s t y)) ys
  unfolding settled_in free_in
  no_captures d = d ∙ go (numbers (length s.bundle.terms) t)
    where
      go : (p : Bool) → cond p (disjoint_of s.words (s.n * (t - 1)) m 0 s.n) true ≡ each (λ y. not (cond p (member s.words (s.n * (t - 1)) s.n y) false)) ys
      go true = none_common s.words (s.n * (t - 1)) m s.n ys known (λ k. small (s.n * (t - 1) + k))
      go false = sym (has_each (λ y. true) ys (λ y h. refl))
