-- Two lists of sorts compared, the second that of the terms of a list of links: what each turn of a walk knows. The first list is given by
-- an equation: it has ended, or it starts with x.
--     value_in         a link's value, in the same bundle
--     ended, short     the first list has ended; the second has, and the first has not
--     differs, on      both have an item: they differ, or the walk goes on
--     some_start       a list is not empty
--     replicate_cons   the equation of the first list, for sorts that are all the same
--     no_more          the first list has ended: the second has where its walk gives nothing
use mathlib.Core.Path.{◌≡◌, refl, sym, ap, ◌∙◌}
use mathlib.Core.Bool.{Bool, false, not, ◌&&◌}
use mathlib.Core.List.{List, [], ◌∷◌, map}
use Prim.Native.Nat.{ℕ, zero, suc, ◌-◌, ◌≤◌}
use native.Mathlib.Omega.{arith}
use lib.ListN.{length, replicate}
use lib.Dec.{eqb, eqb-suc-zero}
use borrow.Author.Tests.{eq-eqb, ne_eqb}
use Rattle.std.specs.Prelude.{Option}
use Rattle.std.specs.Option.{is_some}
use Rattle.std.specs.Iterator.{YieldsFirst}
use Rattle.bundle.specs.Bundle.{Bundle, link_of}
use Rattle.bundle.specs.Links.{items, next_of, starts_at}
use Rattle.bundle.specs.Lists.{same_list}
use Rattle.bundle.proofs.Ended.{ended as all_given}
use Rattle.bundle.proofs.Walks.{walk_start, walk_start_le, walk_nil, walk_cons, walk_some}
use Rattle.logic.specs.Sorts.{sort_at}
use Rattle.logic.specs.Checks.{not_empty}

pub replicate_cons : (n x : ℕ) → (n ≡ 0 → ⊥) → replicate n x ≡ x ∷ replicate (n - 1) x
replicate_cons zero x ne = absurd (ne refl)
replicate_cons (suc n) x ne = let e : suc n - 1 ≡ n = omega arith in rw e

pub no_more : (f : ℕ → ℕ) (r : Option ℕ) (xs rest : List ℕ) (none : Bool) → YieldsFirst {S = List ℕ} (λ s. s) xs r rest → is_some r ≡ not none
    → none ≡ same_list [] (map f xs)
unfolding same_list
no_more f r xs rest none y e = all_given r xs rest none y e ∙ nothing xs
  where
    nothing : (xs : List ℕ) → same_list [] xs ≡ same_list [] (map f xs)
    nothing [] = refl
    nothing (x ∷ xs) = refl

pub value_in : {a b : Bundle} → a ≡ b → (i : ℕ) → (link_of a i).value ≡ (link_of b i).value
value_in same i = ap (λ (b : Bundle). (link_of b i).value) same

module _ (b : Bundle) where
  -- the sorts of the terms of the list that starts at a link
  abbrev pub term_sorts : ℕ → List ℕ
  term_sorts j = map (sort_at b) (items b j)

  -- the list that starts at s, whose first link is r, is not empty where r is not 0
  pub some_start : (s r : ℕ) → r ≡ starts_at (length b.links) s → not_empty (items b s) ≡ not (eqb r 0)
  unfolding not_empty
  some_start s r e = rw (walk_start b s r e) (go r (walk_start_le b s r e))
    where
      go : (r : ℕ) → r ≤ (length b.links) → not_empty (items b r) ≡ not (eqb r 0)
      go zero h = rw (walk_nil b 0 refl)
      go (suc r) h = rw (walk_some b (suc r) (λ z. omega arith) h, eqb-suc-zero r)

  module _ {xs : List ℕ} {j : ℕ} where
    pub ended : xs ≡ [] → j ≤ (length b.links) → same_list xs (term_sorts j) ≡ eqb j 0
    unfolding same_list
    ended e h = rw e (go j h)
      where
        go : (j : ℕ) → j ≤ (length b.links) → same_list [] (term_sorts j) ≡ eqb j 0
        go zero h = rw (walk_nil b 0 refl)
        go (suc j) h = rw (walk_some b (suc j) (λ z. omega arith) h) (sym (eqb-suc-zero j))

    pub short : {x : ℕ} {rest : List ℕ} → xs ≡ x ∷ rest → j ≡ 0 → same_list xs (term_sorts j) ≡ false
    unfolding same_list
    short e z = rw (e, walk_nil b j z)

    -- link j has the term t, of sort s, and next r
    module _ {x : ℕ} {rest : List ℕ} {t s r : ℕ} (e : xs ≡ x ∷ rest) (ne : j ≡ 0 → ⊥) (h : j ≤ (length b.links))
        (p : t ≡ (link_of b j).value) (q : s ≡ sort_at b t) (n : r ≡ next_of b.links j) where
      both : same_list xs (term_sorts j) ≡ (eqb x s && same_list rest (term_sorts r))
      unfolding same_list
      both = rw (e, walk_cons b j t r ne h p n, q)

      pub differs : (x ≡ s → ⊥) → same_list xs (term_sorts j) ≡ false
      differs d = both ∙ rw (ne_eqb x s d)

      pub on : x ≡ s → same_list xs (term_sorts j) ≡ same_list rest (term_sorts r)
      on d = both ∙ rw (eq-eqb x s d)
