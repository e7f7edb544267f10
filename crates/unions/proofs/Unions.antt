-- Laws of the unions of lists, for the functions that make and use them.
--     seen, links_seen                        what a clause sees of a `Uniting`, and how many links that has
--     member_joined, joined_put               a union written: its members, and what stays
--     unknown_some, unmet_some                links that are not known, or were not met, are links
--     fewer_refl, fewer_on, unions_fewer      marks of a walk make no link known
--     apart                                   the sets of different numbers stand apart
--     frees_lower, known_put                  the union of a known list, as its terms' sets give it now
--     unions_learnt                           a link made known from the link after it
--     unions_none, unions_later               no link is known at first; what is known for t is known for t + 1
--     below_same, below_on                    the sets below t while that of t is written; and below t + 1 then
--     partly_put                              a list's first terms united, then its rest
use mathlib.Core.Path.{◌≡◌, refl, sym, ap, ◌∙◌}
use mathlib.Core.Logic.{◌⊎◌, inl, inr}
use mathlib.Core.Bool.{Bool, true, false, cond, not, ◌||◌, false≢true}
use mathlib.Core.List.{List, [], ◌∷◌}
use Prim.Native.Nat.{ℕ, zero, suc, ◌+◌, ◌*◌, ◌-◌, ◌/◌, ◌%◌, ◌≤◌, ◌<◌}
use native.Mathlib.Omega.{arith}
use native.Mathlib.Decide.{ℕ_discrete}
use native.Mathlib.Nat.{mul-le-mul_left, mul-add, mul-one}
use lib.ListN.{length, get_or, set, replicate, length-set, length-replicate}
use lib.Seq.{get_or-set_same, get_or-set_other}
use lib.Dec.{eqb, ltb}
use lib.Bits.{bit_or}
use borrow.Author.Tests.{eqb-true, eqb-false, ne_eqb, not-true, lt-ltb, ltb-true, ltb-false}
use Rattle.std.proofs.lemmas.Bool.{and_from, or_from}
use Rattle.std.proofs.lemmas.Nat.{column_fits}
use Rattle.bundle.specs.Bundle.{Bundle, term_of}
use Rattle.bundle.specs.Links.{items}
use Rattle.bundle.specs.Lists.{numbers, each}
use Rattle.bundle.proofs.Fields.{record_within}
use Rattle.bundle.proofs.NumberLists.{each_up}
use Rattle.bundle.proofs.LinkNotes.{zeros}
use Rattle.sets.specs.Sets.{bit_at, holds, member, filled}
use Rattle.sets.proofs.Digits.{bit_or_lem, bit_none}
use Rattle.sets.proofs.Members.{held, member_same, filled_length, filled_in, filled_out}
use Rattle.logic.specs.Free.{frees_of, free_by, free_at}
use Rattle.logic.proofs.Tests.{and_left, and_right, numbers_of_lem}
use Rattle.unions.specs.Put.{SetRoom, Kept, Put, set_below, SetsBelow}
use Rattle.unions.specs.Unions.{known, unmet, Fewer, joined, Unions, Uniting, Partly}
use Rattle.unions.proofs.Puts.{kept_trans, below_kept}
use Rattle.unions.proofs.ByKind.{so_on}

-- what a clause sees of a `Uniting`
abbrev pub seen : Bundle → ℕ → ℕ → Uniting
seen b n t = record { bundle = b; n = n; t = t }

pub links_seen : {b : Bundle} {n t : ℕ} {u : Uniting} → seen b n t ≡ u → length b.links ≡ length u.bundle.links
links_seen e = ap (λ (u : Uniting). length u.bundle.links) e

-- ---- a union written

module _ (w : List ℕ) (first : ℕ) (v : List ℕ) (second : ℕ) (u : List ℕ) (to n : ℕ) (fits : to + n ≤ length u) where
  pub member_joined : (x : ℕ) → member (joined w first v second u to n) to n x ≡ (member w first n x || member v second n x)
  unfolding member
  member_joined x = go (holds n x) refl
    where
      g : ℕ → ℕ
      g k = bit_or (get_or w (first + k) 0) (get_or v (second + k) 0)

      go : (p : Bool) → holds n x ≡ p
          → cond p (bit_at (get_or (filled g u to n) (to + (x - 1) / 64) 0) ((x - 1) % 64)) false
          ≡ (cond p (bit_at (get_or w (first + (x - 1) / 64) 0) ((x - 1) % 64)) false || cond p (bit_at (get_or v (second + (x - 1) / 64) 0) ((x - 1) % 64)) false)
      go true e =
          let z : get_or (filled g u to n) (to + (x - 1) / 64) 0 ≡ g ((x - 1) / 64) = filled_in g u to n ((x - 1) / 64) fits (held n x e).1 in
          rw z (bit_or_lem (get_or w (first + (x - 1) / 64) 0) (get_or v (second + (x - 1) / 64) 0) ((x - 1) % 64))
      go false e = refl

  pub joined_put : Put u (joined w first v second u to n) n to (λ x. member w first n x || member v second n x)
  joined_put = record {
    kept = record {
      long = filled_length (λ k. bit_or (get_or w (first + k) 0) (get_or v (second + k) 0)) u to n;
      others = λ j out. filled_out (λ k. bit_or (get_or w (first + k) 0) (get_or v (second + k) 0)) u to n j out;
    };
    members = member_joined;
  }

-- ---- marks

known_zero : (m : List ℕ) (k : ℕ) → k ≡ 0 → known m k ≡ true
unfolding known
known_zero m k e = rw e

pub unknown_some : (m : List ℕ) (k : ℕ) → known m k ≡ false → k ≡ 0 → ⊥
unknown_some m k e z = false≢true (sym e ∙ known_zero m k z)

pub unmet_some : (m : List ℕ) (k : ℕ) → unmet m k ≡ true → k ≡ 0 → ⊥
unfolding unmet
unmet_some m k e = eqb-false k 0 (not-true (eqb k 0) (and_left (not (eqb k 0)) (eqb (get_or m k 0) 0) e))

-- where one mark is set, another link is known as before
known_other : (m : List ℕ) (i v k : ℕ) → (k ≡ i → ⊥) → known (set m i v) k ≡ known m k
unfolding known
known_other m i v k ne = rw (get_or-set_other m i k v 0 ne)

known_same : (m : List ℕ) (i v : ℕ) → i < length m → (i ≡ 0 → ⊥) → (v ≡ 65535 → ⊥) → known (set m i v) i ≡ false
unfolding known
known_same m i v room some ne = rw (get_or-set_same m i v 0 room) (or_from (eqb i 0) (eqb v 65535) (ne_eqb i 0 some) (ne_eqb v 65535 ne))

pub fewer_refl : (m : List ℕ) → Fewer m m
fewer_refl m = record { long = refl; fewer = λ k e. e }

pub fewer_on : (m p : List ℕ) (i v : ℕ) → Fewer m p → i < length p → (i ≡ 0 → ⊥) → v ≤ 2048 → Fewer m (set p i v)
fewer_on m p i v so room some small = record {
  long = length-set p i v ∙ so.long;
  fewer = λ k e. go k e (ℕ_discrete k i);
}
  where
    go : (k : ℕ) → known (set p i v) k ≡ true → Dec (k ≡ i) → known m k ≡ true
    go k e (yes q) = absurd (false≢true (sym (known_same p i v room some (λ z. omega arith)) ∙ (rw q at e)))
    go k e (no ne) = so.fewer k (sym (known_other p i v k ne) ∙ e)

pub unions_fewer : (b : Bundle) (n t : ℕ) (lists m p : List ℕ) → Unions b n t lists m → Fewer m p → Unions b n t lists p
unions_fewer b n t lists m p so few = record {
  marked = omega (arith, so.marked, few.long);
  room = so.room;
  lower = λ k e. so.lower k (few.fewer k e);
  union = λ k x e. so.union k x (few.fewer k e);
}

-- ---- the sets of different numbers stand apart

pub apart : (n j k : ℕ) → (j < k) ⊎ (k < j) → (n * j + n ≤ n * k) ⊎ (n * k + n ≤ n * j)
apart n j k (inl l) = inl (column_fits n j n k l (omega arith))
apart n j k (inr l) = inr (column_fits n k n j l (omega arith))

-- the link after link k is another
pub next_side : (k next : ℕ) → 1 ≤ k → ((next ≡ 0 → ⊥) → k < next) → (next < k) ⊎ (k < next)
next_side k zero some up = inl some
next_side k (suc next) some up = inr (up (λ z. omega arith))

-- the set of a link fits
pub link_fits : (n k links m : ℕ) → k ≤ links → n * links + n ≤ m → n * k + n ≤ m
link_fits n k links m h room = let l : n * k ≤ n * links = mul-le-mul_left n h in omega arith

-- ---- the terms of a known list are lower, so that their sets are as they will be

lower_set : (w : List ℕ) (n t : ℕ) (b : Bundle) → SetsBelow w n t b → (i x : ℕ) → numbers (t - 1) i ≡ true → set_below w n t i x ≡ free_at b i x
unfolding set_below
lower_set w n t b so i x e =
    let p : (1 ≤ i) × (i ≤ t - 1) = numbers_of_lem (t - 1) i e in
    let one : 1 ≤ t = so.one in
    let low : i < t = omega arith in
    rw (lt-ltb 0 i p.0, lt-ltb i t low) (so.sets i x p.0 low)

pub frees_lower : (w : List ℕ) (n t : ℕ) (b : Bundle) → SetsBelow w n t b → (ys : List ℕ) → each (numbers (t - 1)) ys ≡ true
    → (x : ℕ) → frees_of (free_at b) ys x ≡ frees_of (set_below w n t) ys x
unfolding frees_of each
frees_lower w n t b so [] e x = refl
frees_lower w n t b so (y ∷ ys) e x =
    rw (
      lower_set w n t b so y x (and_left (numbers (t - 1) y) (each (numbers (t - 1)) ys) e),
      frees_lower w n t b so ys (and_right (numbers (t - 1) y) (each (numbers (t - 1)) ys) e) x,
    )

pub known_put : (w v lists marks : List ℕ) (n t at k : ℕ) (b : Bundle) → at + n ≤ length w → SetsBelow w n t b → Unions b n t lists marks → known marks k ≡ true
    → v ≡ joined w at lists (n * k) w at n → Put w v n at (λ x. member w at n x || frees_of (set_below w n t) (items b k) x)
known_put w v lists marks n t at k b room so unions e same =
    let put = joined_put w at lists (n * k) w at n room in
    rw same (record {
      kept = put.kept;
      members = λ x. put.members x ∙ ap (λ (p : Bool). member w at n x || p) (unions.union k x e ∙ frees_lower w n t b so (items b k) (unions.lower k e) x);
    })

-- ---- a link made known

module _ (area lists marks : List ℕ) (n t k term next : ℕ) (b : Bundle) (so : SetsBelow area n t b) (unions : Unions b n t lists marks)
    (some : 1 ≤ k) (link : k ≤ length b.links) (here : items b k ≡ term ∷ items b next) (low : numbers (t - 1) term ≡ true) (then : known marks next ≡ true)
  where
    written : List ℕ
    written = joined area (n * (term - 1)) lists (n * next) lists (n * k) n

    fits : n * k + n ≤ length lists
    fits = link_fits n k (length b.links) (length lists) link unions.room

    put : Put lists written n (n * k) (λ x. member area (n * (term - 1)) n x || member lists (n * next) n x)
    unfolding written
    put = joined_put area (n * (term - 1)) lists (n * next) lists (n * k) n fits

    own_lower : each (numbers (t - 1)) (items b k) ≡ true
    unfolding each
    own_lower = rw here (and_from (numbers (t - 1) term) (each (numbers (t - 1)) (items b next)) low (unions.lower next then))

    own_union : (x : ℕ) → member written (n * k) n x ≡ frees_of (free_at b) (items b k) x
    unfolding frees_of
    own_union x =
        let p : (1 ≤ term) × (term ≤ t - 1) = numbers_of_lem (t - 1) term low in
        put.members x
        ∙ rw (here, so.sets term x p.0 (omega (arith, so.one)), unions.union next x then)

    -- the unions of other links stay
    other_union : (j x : ℕ) → (j < k) ⊎ (k < j) → member written (n * j) n x ≡ member lists (n * j) n x
    other_union j x d = member_same written lists (n * j) n (λ i h. put.kept.others (n * j + i) (out (apart n j k d) i h)) x
      where
        out : (n * j + n ≤ n * k) ⊎ (n * k + n ≤ n * j) → (i : ℕ) → i < n → (n * j + i < n * k) ⊎ (n * k + n ≤ n * j + i)
        out (inl l) i h = inl (omega arith)
        out (inr l) i h = inr (omega arith)

    sides : (j : ℕ) → (j ≡ k → ⊥) → (j < k) ⊎ (k < j)
    sides j ne = go (ltb j k) refl
      where
        go : (p : Bool) → ltb j k ≡ p → (j < k) ⊎ (k < j)
        go true e = inl (omega (arith, ltb-true j k e))
        go false e = inr (omega (arith, ltb-false j k e))

    pub unions_learnt : (v m : List ℕ) → v ≡ joined area (n * (term - 1)) lists (n * next) lists (n * k) n → m ≡ set marks k 65535 → Unions b n t v m
    unfolding written
    unions_learnt v m ev em = rw (ev, em) (record {
      marked = omega (arith, length-set marks k 65535, unions.marked);
      room = omega (arith, put.kept.long, unions.room);
      lower = λ j e. lower j e (ℕ_discrete j k);
      union = λ j x e. union j x e (ℕ_discrete j k);
    })
      where
        lower : (j : ℕ) → known (set marks k 65535) j ≡ true → Dec (j ≡ k) → each (numbers (t - 1)) (items b j) ≡ true
        lower j e (yes q) = rw q own_lower
        lower j e (no ne) = unions.lower j (sym (known_other marks k 65535 j ne) ∙ e)

        union : (j x : ℕ) → known (set marks k 65535) j ≡ true → Dec (j ≡ k) → member written (n * j) n x ≡ frees_of (free_at b) (items b j) x
        union j x e (yes q) = rw q (own_union x)
        union j x e (no ne) = other_union j x (sides j ne) ∙ unions.union j x (sym (known_other marks k 65535 j ne) ∙ e)

-- ---- from the start, and from term to term

known_none : (q k : ℕ) → known (replicate q 0) k ≡ true → k ≡ 0
unfolding known
known_none q k e = go (eqb k 0) refl
  where
    go : (p : Bool) → eqb k 0 ≡ p → k ≡ 0
    go true d = eqb-true k 0 d
    go false d = absurd (false≢true (sym (rw (d, (zeros q).zero k)) ∙ e))

none_member : (p at n x : ℕ) → member (replicate p 0) at n x ≡ false
unfolding member
none_member p at n x = go (holds n x)
  where
    go : (q : Bool) → cond q (bit_at (get_or (replicate p 0) (at + (x - 1) / 64) 0) ((x - 1) % 64)) false ≡ false
    go true = rw ((zeros p).zero (at + (x - 1) / 64)) (bit_none ((x - 1) % 64))
    go false = refl

pub unions_none : (b : Bundle) (n p q : ℕ) → items b 0 ≡ [] → length b.links < q → n * length b.links + n ≤ p
    → Unions b n 1 (replicate p 0) (replicate q 0)
unfolding frees_of each
unions_none b n p q nil links room = record {
  marked = omega (arith, length-replicate {A = ℕ} q 0);
  room = omega (arith, length-replicate {A = ℕ} p 0);
  lower = λ k e. let z : k ≡ 0 = known_none q k e in rw (z, nil);
  union = λ k x e. let z : k ≡ 0 = known_none q k e in rw (z, nil) (none_member p (n * 0) n x);
}

pub unions_later : (b : Bundle) (n t : ℕ) (lists marks : List ℕ) → Unions b n t lists marks → Unions b n (t + 1) lists marks
unions_later b n t lists marks so = record {
  marked = so.marked;
  room = so.room;
  lower = λ k e. each_up (t - 1) (t + 1 - 1) (items b k) (omega arith) (so.lower k e);
  union = so.union;
}

pub below_same : (w v : List ℕ) (n t at : ℕ) (b : Bundle) → SetRoom w n t at → Kept w v n at → SetsBelow w n t b → SetsBelow v n t b
below_same w v n t at b room kept so = record {
  one = so.one;
  fits = omega (arith, so.fits, kept.long);
  sets = λ i x one low. (
      let fits : n * (i - 1) + n ≤ n * (t - 1) = record_within n (t - 1) i (λ z. omega arith) (omega arith) in
      let start : at ≡ n * (t - 1) = room.start in
      member_same v w (n * (i - 1)) n (λ k h. kept.others (n * (i - 1) + k) (inl (omega arith))) x ∙ so.sets i x one low
      );
}

pub below_on : (w v : List ℕ) (n t at : ℕ) (b : Bundle) → SetRoom w n t at → SetsBelow w n t b → Put w v n at (free_by b (set_below w n t) (term_of b t))
    → SetsBelow v n (t + 1) b
below_on w v n t at b room so put =
    let start : at ≡ n * (t - 1) = room.start in
    let e : n * (t - 1 + 1) ≡ n * (t - 1) + n = rw (mul-add, mul-one) in
    let one : 1 ≤ t = so.one in
    let s : t + 1 - 1 ≡ t - 1 + 1 = omega arith in
    record {
      one = omega arith;
      fits = rw s (omega (arith, room.room, put.kept.long));
      sets = so_on w v n t at b room so.sets put;
    }

-- ---- the first terms, then the rest

pub partly_put : {w v u : List ℕ} {n t at : ℕ} {whole rest : List ℕ} → SetRoom w n t at → Partly w v n t at whole rest
    → Put v u n at (λ x. member v at n x || frees_of (set_below v n t) rest x) → Put w u n at (λ x. member w at n x || frees_of (set_below w n t) whole x)
unfolding frees_of
partly_put {w} {v} {u} {n} {t} {at} {whole} {rest} room part put = record {
  kept = kept_trans w v u n at part.kept put.kept;
  members = λ x. put.members x ∙ ap (λ (p : Bool). member v at n x || p) (same rest x) ∙ part.members x;
}
  where
    same : (ys : List ℕ) (x : ℕ) → frees_of (set_below v n t) ys x ≡ frees_of (set_below w n t) ys x
    same [] x = refl
    same (y ∷ ys) x = rw (below_kept w v n t at room part.kept y x, same ys x)
