-- The walk of whole-term REFL, one number at a time, and with pairs left.
--     limit_fits, limit_over              a walk within its pairs, and one that visits more
--     limit_same, limit_different         what an answer says of the number of pairs
--     limit_one, limit_pair, limit_then   with pairs left: one pair, a pair and what follows, a walk and then another
--     pair_walk_limited                   THE LAW: the walk with n pairs left is spent exactly where the walk visits more than n
--     within_below                        what the walk with pairs left does at a number, from those at lower numbers: for code
--     walk_here                           the same of the walk, for a record that refers to lower terms
--     walk_some                           a walk visits a pair at least
use mathlib.Core.Path.{◌≡◌, refl, sym, ap, ap₂, ◌∙◌, fun_ext}
use Prim.Native.Nat.{ℕ, zero, suc, ◌+◌, ◌-◌, ◌≤◌, ◌<◌}
use mathlib.Core.Bool.{Bool, true, false}
use mathlib.Core.List.{List, [], ◌∷◌}
use native.Mathlib.Omega.{arith}
use native.Mathlib.Decide.{dec_le}
use borrow.Author.Tests.{le-leb, lt-leb}
use Rattle.bundle.specs.Bundle.{Bundle, TermRecord, no_term, term_of}
use Rattle.bundle.specs.Links.{items}
use Rattle.logic.specs.Table.{below}
use Rattle.logic.specs.Terms.{Kind, kind_of, variable, application, binder, letting, other}
use Rattle.logic.specs.declared.Image.{Image}
use Rattle.logic.specs.declared.Limited.{Limited}
use Rattle.logic.specs.declared.Limited.TheVariants.{Same, Different, Spent}
use Rattle.logic.specs.ReflWalk.{Crossed, PairWalk, no_pair, one_pair, pair_then, and_then, variable_meets, application_meets, binder_meets, let_meets, binder_crossed, let_crossed, lists_walk, pair_walk_as, pair_walk_of, no_pair_walk, pair_walk_by, ended, pair_within, one_pair_within, go_on, lists_within, within_as, within_of, none_within, within_by, limit}
use Rattle.logic.specs.Statements.{PairWalkLimited}
use Rattle.logic.proofs.Tables.{table_below, table_step, table_both, table_all}
use Rattle.logic.proofs.Trees.{refs_as, refs, Before}

-- ---- pairs left

pub limit_fits : (n : ℕ) (w : PairWalk) → w.pairs ≤ n → limit n w ≡ ended w.same (n - w.pairs)
unfolding limit
limit_fits n w h = rw (le-leb w.pairs n h)

pub limit_over : (n : ℕ) (w : PairWalk) → n < w.pairs → limit n w ≡ Spent
unfolding limit
limit_over n w h = rw (lt-leb w.pairs n h)

-- what an answer says of the walk: the number of pairs visited is that of the pairs there were less those left
pub limit_same : (n : ℕ) (w : PairWalk) (m : ℕ) → limit n w ≡ Same m → (w.same ≡ true) × (w.pairs ≤ n) × (w.pairs ≡ n - m)
limit_same n w m e = go (dec_le w.pairs n) w.same refl
  where
    go : Dec (w.pairs ≤ n) → (p : Bool) → w.same ≡ p → (w.same ≡ true) × (w.pairs ≤ n) × (w.pairs ≡ n - m)
    go (yes h) true q =
        let is : ended true (n - w.pairs) ≡ Same m = ap (λ (o : Bool). ended o (n - w.pairs)) (sym q) ∙ sym (limit_fits n w h) ∙ e in
        let left : n - w.pairs ≡ m = cc in
        (q, h, omega arith)
    go (yes h) false q =
        let is : ended false (n - w.pairs) ≡ Same m = ap (λ (o : Bool). ended o (n - w.pairs)) (sym q) ∙ sym (limit_fits n w h) ∙ e in
        absurd (let z : ◌≡◌ {A = ℕ} 0 1 = cc in omega arith)
    go (no h) p q =
        let is : Spent ≡ Same m = sym (limit_over n w (omega arith)) ∙ e in
        absurd (let z : ◌≡◌ {A = ℕ} 0 1 = cc in omega arith)

pub limit_different : (n : ℕ) (w : PairWalk) (m : ℕ) → limit n w ≡ Different m → (w.same ≡ false) × (w.pairs ≤ n) × (w.pairs ≡ n - m)
limit_different n w m e = go (dec_le w.pairs n) w.same refl
  where
    go : Dec (w.pairs ≤ n) → (p : Bool) → w.same ≡ p → (w.same ≡ false) × (w.pairs ≤ n) × (w.pairs ≡ n - m)
    go (yes h) true q =
        let is : ended true (n - w.pairs) ≡ Different m = ap (λ (o : Bool). ended o (n - w.pairs)) (sym q) ∙ sym (limit_fits n w h) ∙ e in
        absurd (let z : ◌≡◌ {A = ℕ} 0 1 = cc in omega arith)
    go (yes h) false q =
        let is : ended false (n - w.pairs) ≡ Different m = ap (λ (o : Bool). ended o (n - w.pairs)) (sym q) ∙ sym (limit_fits n w h) ∙ e in
        let left : n - w.pairs ≡ m = cc in
        (q, h, omega arith)
    go (no h) p q =
        let is : Spent ≡ Different m = sym (limit_over n w (omega arith)) ∙ e in
        absurd (let z : ◌≡◌ {A = ℕ} 0 1 = cc in omega arith)

pub limit_one : (p : Bool) (n : ℕ) → one_pair_within p n ≡ limit n (one_pair p)
limit_one p zero = sym (limit_over 0 (one_pair p) (omega arith))
limit_one p (suc n) = sym (limit_fits (suc n) (one_pair p) (omega arith) ∙ ap (ended p) (omega arith))

module _ (w : PairWalk) (g : ℕ → Limited) (is : (n : ℕ) → g n ≡ limit n w) where
  pub limit_pair : (p : Bool) (n : ℕ) → pair_within p g n ≡ limit n (pair_then p w)
  unfolding pair_within pair_then
  limit_pair true zero = sym (limit_over 0 (pair_then true w) (omega arith))
  limit_pair false zero = sym (limit_over 0 (one_pair false) (omega arith))
  limit_pair false (suc n) = limit_one false (suc n)
  limit_pair true (suc n) = is n ∙ go (dec_le w.pairs n)
    where
      go : Dec (w.pairs ≤ n) → limit n w ≡ limit (suc n) (pair_then true w)
      go (yes h) =
          limit_fits n w h ∙ ap (ended w.same) (omega arith) ∙ sym (limit_fits (suc n) (pair_then true w) (omega arith))
      go (no h) = limit_over n w (omega arith) ∙ sym (limit_over (suc n) (pair_then true w) (omega arith))

  limit_after : (a : ℕ) (p : Bool) (n : ℕ)
      → go_on (limit n (record { pairs = a; same = p })) g ≡ limit n (and_then (record { pairs = a; same = p }) w)
  unfolding go_on and_then
  limit_after a p n = go (dec_le a n) p
    where
      both : PairWalk
      both = record { pairs = a + w.pairs; same = w.same }

      later : a ≤ n → Dec (a + w.pairs ≤ n) → limit (n - a) w ≡ limit n both
      later h (yes k) = limit_fits (n - a) w (omega arith) ∙ ap (ended w.same) (omega arith) ∙ sym (limit_fits n both k)
      later h (no k) = limit_over (n - a) w (omega arith) ∙ sym (limit_over n both (omega arith))

      go : Dec (a ≤ n) → (p : Bool) → go_on (limit n (record { pairs = a; same = p })) g ≡ limit n (and_then (record { pairs = a; same = p }) w)
      go (yes h) true = rw (limit_fits n (record { pairs = a; same = true }) h) (is (n - a) ∙ later h (dec_le (a + w.pairs) n))
      go (yes h) false = rw (limit_fits n (record { pairs = a; same = false }) h)
      go (no h) true = rw (limit_over n (record { pairs = a; same = true }) (omega arith)) (sym (limit_over n both (omega arith)))
      go (no h) false = rw (limit_over n (record { pairs = a; same = false }) (omega arith))

  pub limit_then : (v : PairWalk) (n : ℕ) → go_on (limit n v) g ≡ limit n (and_then v w)
  limit_then v n = limit_after v.pairs v.same n

-- what a walk with pairs left is to a walk
abbrev Limits : (Crossed → ℕ → PairWalk) → (Crossed → ℕ → ℕ → Limited) → Type 0
Limits f g = (crossed : Crossed) (r n : ℕ) → g crossed r n ≡ limit n (f crossed r)

module _ (f : ℕ → Crossed → ℕ → PairWalk) (g : ℕ → Crossed → ℕ → ℕ → Limited) (h : (i : ℕ) → Limits (f i) (g i)) where
  limit_lists : (crossed : Crossed) (ls rs : List ℕ) (n : ℕ) → lists_within g crossed ls rs n ≡ limit n (lists_walk f crossed ls rs)
  unfolding lists_within lists_walk
  limit_lists crossed [] [] n = sym (limit_fits n no_pair (omega arith) ∙ ap Same (omega arith))
  limit_lists crossed [] (r ∷ rs) n = sym (limit_fits n (record { pairs = 0; same = false }) (omega arith) ∙ ap Different (omega arith))
  limit_lists crossed (l ∷ ls) [] n = sym (limit_fits n (record { pairs = 0; same = false }) (omega arith) ∙ ap Different (omega arith))
  limit_lists crossed (l ∷ ls) (r ∷ rs) n =
      ap (λ (a : Limited). go_on a (lists_within g crossed ls rs)) (h l crossed r n)
      ∙ limit_then (lists_walk f crossed ls rs) (lists_within g crossed ls rs) (limit_lists crossed ls rs) (f l crossed r) n

  limit_as : (free : ℕ → ℕ → Bool) (image : ℕ → Image) (b : Bundle) (k : Kind) (s : TermRecord)
      → Limits (pair_walk_as free image b k f s) (within_as free image b k g s)
  unfolding pair_walk_as within_as
  limit_as free image b variable s crossed r n = limit_one (variable_meets free image b crossed s.a r) n
  limit_as free image b application s crossed r n =
      limit_pair (lists_walk f crossed (items b s.b) (items b (term_of b r).b)) (lists_within g crossed (items b s.b) (items b (term_of b r).b))
      (limit_lists crossed (items b s.b) (items b (term_of b r).b)) (application_meets b s r) n
  limit_as free image b (binder q) s crossed r n =
      limit_pair (f s.b (binder_crossed b s r crossed) (term_of b r).b) (g s.b (binder_crossed b s r crossed) (term_of b r).b)
      (h s.b (binder_crossed b s r crossed) (term_of b r).b) (binder_meets b s r) n
  limit_as free image b letting s crossed r n =
      limit_pair (and_then (lists) body) (λ m. go_on (lists_within g crossed (items b s.b) (items b (term_of b r).b) m) body')
      (λ m. ap (λ (a : Limited). go_on a body') (limit_lists crossed (items b s.b) (items b (term_of b r).b) m)
      ∙ limit_then body body' (h s.c (let_crossed b s r crossed) (term_of b r).c) lists m) (let_meets b s r) n
    where
      lists : PairWalk
      lists = lists_walk f crossed (items b s.b) (items b (term_of b r).b)

      body : PairWalk
      body = f s.c (let_crossed b s r crossed) (term_of b r).c

      body' : ℕ → Limited
      body' = g s.c (let_crossed b s r crossed) (term_of b r).c
  limit_as free image b other s crossed r n = limit_one false n

-- THE LAW
pub pair_walk_limited : PairWalkLimited
unfolding pair_walk_by within_by pair_walk_of within_of
pair_walk_limited free image b =
    table_both (pair_walk_of free image b) no_pair_walk (within_of free image b) none_within Limits (λ crossed r n. limit_one false n) no_term b.terms
    (λ t f g h. limit_as f g h free image b (kind_of (term_of b t).kind) (term_of b t))

-- ---- one number at a time

module _ (free : ℕ → ℕ → Bool) (image : ℕ → Image) (b : Bundle) where
  pub within_below : (l : ℕ) → within_by free image b l ≡ within_of free image b (below none_within l (within_by free image b)) (term_of b l)
  unfolding within_by within_of within_as kind_of
  within_below l = table_below (within_of free image b) none_within no_term (λ f. refl) b.terms l

  lists_same : (f g : ℕ → Crossed → ℕ → PairWalk) (n : ℕ) → ((i : ℕ) → i < n → f i ≡ g i) → (crossed : Crossed) (ls rs : List ℕ) → Before ls n
      → lists_walk f crossed ls rs ≡ lists_walk g crossed ls rs
  unfolding lists_walk
  lists_same f g n h crossed [] [] low = refl
  lists_same f g n h crossed [] (r ∷ rs) low = refl
  lists_same f g n h crossed (l ∷ ls) [] low = refl
  lists_same f g n h crossed (l ∷ ls) (r ∷ rs) low =
      ap₂ and_then (ap (λ (k : Crossed → ℕ → PairWalk). k crossed r) (h l low.0.1)) (lists_same f g n h crossed ls rs low.1)

  walk_reads : (k : Kind) (s : TermRecord) (n : ℕ) → Before (refs_as b k s) n → (f g : ℕ → Crossed → ℕ → PairWalk) → ((i : ℕ) → i < n → f i ≡ g i)
      → (crossed : Crossed) (r : ℕ) → pair_walk_as free image b k f s crossed r ≡ pair_walk_as free image b k g s crossed r
  unfolding pair_walk_as refs_as
  walk_reads variable s n low f g h crossed r = refl
  walk_reads application s n low f g h crossed r =
      ap (pair_then (application_meets b s r)) (lists_same f g n h crossed (items b s.b) (items b (term_of b r).b) low)
  walk_reads (binder q) s n low f g h crossed r =
      ap (λ (k : Crossed → ℕ → PairWalk). pair_then (binder_meets b s r) (k (binder_crossed b s r crossed) (term_of b r).b)) (h s.b low.0.1)
  walk_reads letting s n low f g h crossed r =
      ap₂ (λ (u v : PairWalk). pair_then (let_meets b s r) (and_then u v))
      (lists_same f g n h crossed (items b s.b) (items b (term_of b r).b) low.1)
      (ap (λ (k : Crossed → ℕ → PairWalk). k (let_crossed b s r crossed) (term_of b r).c) (h s.c low.0.1))
  walk_reads other s n low f g h crossed r = refl

  pub walk_here : (l : ℕ) → Before (refs b (term_of b l)) l
      → pair_walk_by free image b l ≡ pair_walk_of free image b (pair_walk_by free image b) (term_of b l)
  unfolding pair_walk_by pair_walk_of pair_walk_as kind_of refs
  walk_here l low =
      table_step (pair_walk_of free image b) no_pair_walk no_term (λ f. refl) b.terms l
      (λ f g h. fun_ext (λ crossed. fun_ext (λ r. walk_reads (kind_of (term_of b l).kind) (term_of b l) l low f g h crossed r)))

-- ---- a walk visits a pair at least

pair_some : (p : Bool) (w : PairWalk) → 1 ≤ (pair_then p w).pairs
unfolding pair_then
pair_some true w = omega arith
pair_some false w = omega arith

some_as : (free : ℕ → ℕ → Bool) (image : ℕ → Image) (b : Bundle) (k : Kind) (f : ℕ → Crossed → ℕ → PairWalk) (s : TermRecord) (crossed : Crossed) (r : ℕ)
    → 1 ≤ (pair_walk_as free image b k f s crossed r).pairs
unfolding pair_walk_as
some_as free image b variable f s crossed r = omega arith
some_as free image b application f s crossed r = pair_some (application_meets b s r) (lists_walk f crossed (items b s.b) (items b (term_of b r).b))
some_as free image b (binder q) f s crossed r = pair_some (binder_meets b s r) (f s.b (binder_crossed b s r crossed) (term_of b r).b)
some_as free image b letting f s crossed r =
    pair_some (let_meets b s r)
    (and_then (lists_walk f crossed (items b s.b) (items b (term_of b r).b)) (f s.c (let_crossed b s r crossed) (term_of b r).c))
some_as free image b other f s crossed r = omega arith

pub walk_some : (free : ℕ → ℕ → Bool) (image : ℕ → Image) (b : Bundle) (l : ℕ) (crossed : Crossed) (r : ℕ) → 1 ≤ (pair_walk_by free image b l crossed r).pairs
unfolding pair_walk_by pair_walk_of
walk_some free image b =
    table_all (pair_walk_of free image b) no_pair_walk (λ (f : Crossed → ℕ → PairWalk). (crossed : Crossed) (r : ℕ) → 1 ≤ (f crossed r).pairs)
    (λ crossed r. omega arith) no_term b.terms (λ t f h. some_as free image b (kind_of (term_of b t).kind) f (term_of b t))
