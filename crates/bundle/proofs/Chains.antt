-- Laws of lists of links. A walk needs three: `chain_nil`, `chain_cons` and `next_le`; its measure is the length of the list that is left.
--     chain_nil, chain_past    0 and a number past the last link start the empty list
--     chain_cons               a link's list is its value, and then the list of the link that follows
--     chain_short              a list has no more items than there are links
--     next_le, next_up         the link that follows is a link or 0; if it is not 0, it is above
use mathlib.Core.Path.{◌≡◌, refl, sym, ap, ◌∙◌}
use mathlib.Core.List.{List, [], ◌∷◌}
use mathlib.Core.Bool.{Bool, true, false, cond, ◌&&◌}
use Prim.Native.Nat.{ℕ, zero, suc, ◌+◌, ◌-◌, ◌<◌, ◌≤◌}
use native.Mathlib.Nat.{not-suc-le-zero, le_of_suc-le-suc}
use native.Mathlib.Omega.{arith}
use lib.ListN.{length, get_or}
use lib.Dec.{ltb, leb}
use borrow.Author.Tests.{ltb-true, leb-true, leb-false}
use Rattle.bundle.specs.Bundle.{Link, no_link, at}
use Rattle.bundle.specs.Links.{rest, lists, chain, follows, next_of}
use Rattle.bundle.proofs.Tab.{at_none}

-- two conds on one test that agree where it holds
cond_then : {A : Type 0} (p : Bool) (m n z : A) → (p ≡ true → m ≡ n) → cond p m z ≡ cond p n z
cond_then true m n z h = h refl
cond_then false m n z h = refl

skip_first : (x : List ℕ) (xs : List (List ℕ)) (n m : ℕ) → n < m → get_or (x ∷ xs) (m - n) [] ≡ get_or xs (m - suc n) []
skip_first x xs n m h = ap (λ (k : ℕ). get_or (x ∷ xs) k []) (let e : m - n ≡ suc (m - suc n) = omega arith in e)

lists_length : (n : ℕ) (ls : List Link) → length (lists n ls) ≡ length ls
unfolding lists
lists_length n [] = refl
lists_length n (l ∷ ls) = ap suc (lists_length (suc n) ls)

-- the list of link m, the i-th of links that start at number n
lists_here : (ls : List Link) (n i m : ℕ) → m ≡ n + i → i < length ls
    → get_or (lists n ls) i [] ≡ (get_or ls i no_link).value ∷ cond (ltb m (get_or ls i no_link).next) (get_or (lists n ls) ((get_or ls i no_link).next - n) []) []
unfolding lists rest
lists_here [] n i m e h = absurd (not-suc-le-zero h)
lists_here (l ∷ ls) n zero m e h =
    let p : m ≡ n = omega arith in
    let x : List ℕ = l.value ∷ rest n l.next (lists (suc n) ls) in
    rw p (ap (λ (t : List ℕ). l.value ∷ t)
    (cond_then (ltb n l.next) (get_or (lists (suc n) ls) (l.next - suc n) []) (get_or (x ∷ lists (suc n) ls) (l.next - n) []) []
    (λ t. sym (skip_first x (lists (suc n) ls) n l.next (ltb-true n l.next t)))))
lists_here (l ∷ ls) n (suc i) m e h =
    let x : List ℕ = l.value ∷ rest n l.next (lists (suc n) ls) in
    let next : ℕ = (get_or ls i no_link).next in
    lists_here ls (suc n) i m (omega arith) (le_of_suc-le-suc h)
    ∙ ap (λ (t : List ℕ). (get_or ls i no_link).value ∷ t)
    (cond_then (ltb m next) (get_or (lists (suc n) ls) (next - suc n) []) (get_or (x ∷ lists (suc n) ls) (next - n) []) []
    (λ t. sym (skip_first x (lists (suc n) ls) n next (let u : m < next = ltb-true m next t in omega arith))))

pub chain_nil : (ls : List Link) → chain ls 0 ≡ []
unfolding chain
chain_nil ls = refl

pub chain_past : (ls : List Link) (i : ℕ) → length ls < i → chain ls i ≡ []
unfolding chain
chain_past ls i h = at_none [] (lists 1 ls) i (rw lists_length h)

-- what follows a link, in one number
follow_chain : (ls : List Link) (i next : ℕ)
    → cond (ltb i next) (get_or (lists 1 ls) (next - 1) []) [] ≡ chain ls (follows (length ls) i next)
unfolding chain follows
follow_chain ls i zero = none (ltb i 0) refl
  where
    none : (p : Bool) → ltb i 0 ≡ p → cond p (get_or (lists 1 ls) (0 - 1) []) [] ≡ at [] (lists 1 ls) (cond (p && leb 0 (length ls)) 0 0)
    none true e = absurd (not-suc-le-zero (ltb-true i 0 e))
    none false e = refl
follow_chain ls i (suc m) = go (ltb i (suc m)) (leb (suc m) (length ls)) refl
  where
    index : suc m - 1 ≡ m
    index = omega arith

    go : (p q : Bool) → leb (suc m) (length ls) ≡ q → cond p (get_or (lists 1 ls) (suc m - 1) []) [] ≡ at [] (lists 1 ls) (cond (p && q) (suc m) 0)
    go false q e = refl
    go true true e = rw index
    go true false e = rw index (at_none [] (lists 1 ls) (suc m) (rw lists_length (leb-false (suc m) (length ls) e)))

pub chain_cons : (ls : List Link) (i : ℕ) → (i ≡ 0 → ⊥) → i ≤ length ls → chain ls i ≡ (at no_link ls i).value ∷ chain ls (next_of ls i)
unfolding chain
chain_cons ls zero ne h = absurd (ne refl)
chain_cons ls (suc i) ne h =
    lists_here ls 1 i (suc i) (omega arith) h
    ∙ ap (λ (t : List ℕ). (get_or ls i no_link).value ∷ t) (follow_chain ls (suc i) (get_or ls i no_link).next)

follows_le : (n i next : ℕ) → follows n i next ≤ n
unfolding follows
follows_le n i next = go (ltb i next) (leb next n) refl
  where
    go : (p q : Bool) → leb next n ≡ q → cond (p && q) next 0 ≤ n
    go true true e = leb-true next n e
    go true false e = omega arith
    go false q e = omega arith

follows_up : (n i next : ℕ) → (follows n i next ≡ 0 → ⊥) → i < follows n i next
unfolding follows
follows_up n i next = go (ltb i next) refl (leb next n)
  where
    go : (p : Bool) → ltb i next ≡ p → (q : Bool) → (cond (p && q) next 0 ≡ 0 → ⊥) → i < cond (p && q) next 0
    go true e true ne = ltb-true i next e
    go true e false ne = absurd (ne refl)
    go false e q ne = absurd (ne refl)

pub next_le : (ls : List Link) (i : ℕ) → next_of ls i ≤ length ls
next_le ls i = follows_le (length ls) i (at no_link ls i).next

pub next_up : (ls : List Link) (i : ℕ) → (next_of ls i ≡ 0 → ⊥) → i < next_of ls i
next_up ls i = follows_up (length ls) i (at no_link ls i).next

-- xs, or nothing
only_if_short : (p : Bool) (xs : List ℕ) (n : ℕ) → length xs ≤ n → length (cond p xs []) ≤ n
only_if_short true xs n h = h
only_if_short false xs n h = omega arith

lists_short : (n : ℕ) (ls : List Link) (k : ℕ) → length (get_or (lists n ls) k []) ≤ length ls
unfolding lists rest
lists_short n [] k = omega arith
lists_short n (l ∷ ls) zero =
    let next : List ℕ = get_or (lists (suc n) ls) (l.next - suc n) [] in
    omega (arith, only_if_short (ltb n l.next) next (length ls) (lists_short (suc n) ls (l.next - suc n)))
lists_short n (l ∷ ls) (suc k) = omega (arith, lists_short (suc n) ls k)

pub chain_short : (ls : List Link) (s : ℕ) → length (chain ls s) ≤ length ls
unfolding chain
chain_short ls zero = omega arith
chain_short ls (suc s) = lists_short 1 ls s
