-- Numbers filed by their digests, and the walk down the chain of a digest.
--     mix_small               digests are small
--     filed_none, filed_on    nothing is filed at first; then one number more is
--     Sought, sought_start, sought_less, sought_hit, sought_miss     the walk: the lowest match so far, and the rest on the chain
--     sought_lowest           at its end no match is lower
use mathlib.Core.Path.{◌≡◌, refl, sym, ap, ◌∙◌, subst}
use mathlib.Core.Bool.{Bool, true, false, false≢true}
use mathlib.Core.Logic.{◌⊎◌, inl, inr}
use Prim.Native.Nat.{ℕ, suc, ◌≤◌, ◌<◌}
use native.Mathlib.Omega.{arith}
use native.Mathlib.Decide.{ℕ_discrete}
use Rattle.bundle.specs.Filed.{digests, mix, Reach, here, later, Filed}

pub mix_small : (d x : ℕ) → mix d x < digests
unfolding mix
mix_small d x = omega arith

-- ---- chains

reach_end : {next : ℕ → ℕ} {h j : ℕ} → h ≡ 0 → Reach next h j → j ≡ 0
reach_end z (here e) = sym e ∙ z
reach_end z (later ne r) = absurd (ne z)

reach_on : {next : ℕ → ℕ} {h j : ℕ} → (h ≡ j → ⊥) → Reach next h j → Reach next (next h) j
reach_on ne (here e) = absurd (ne e)
reach_on ne (later z r) = r

-- a chain that starts at n or below is as it was where what follows these is as it was
reach_kept : (next next' : ℕ → ℕ) (n : ℕ) → ((j : ℕ) → 1 ≤ j → next j < j) → ((j : ℕ) → j ≤ n → next' j ≡ next j)
    → {h j : ℕ} → h ≤ n → Reach next h j → Reach next' h j
reach_kept next next' n falls same l (here e) = here e
reach_kept next next' n falls same {h} {j} l (later ne r) =
    let low : next h < h = falls h (omega arith) in
    later {j = j} ne (rw (same h l) (reach_kept next next' n falls same (omega arith) r))

-- ---- filing

pub filed_none : (digest head next : ℕ → ℕ) → ((d : ℕ) → head d ≡ 0) → ((j : ℕ) → next j ≡ 0) → Filed digest head next 0
filed_none digest head next no_head no-next = record {
  low = λ d l. omega (arith, no_head d);
  falls = λ j one. omega (arith, no-next j);
  reached = λ j one l. absurd (omega arith);
}

-- t, which is next, has digest d, and is filed: head' and next' are as head and next but there
module _ {digest head next : ℕ → ℕ} {n : ℕ} (filed : Filed digest head next n) (small : (j : ℕ) → digest j < digests)
    (head' next' : ℕ → ℕ) (d t n' : ℕ) (after : t ≡ suc n) (last : n' ≡ t) (own : digest t ≡ d)
    (head-new : head' d ≡ t) (head_other : (e : ℕ) → e < digests → (e ≡ d → ⊥) → head' e ≡ head e)
    (next-new : next' t ≡ head d) (next-other : (j : ℕ) → (j ≡ t → ⊥) → next' j ≡ next j) where
  pub filed_on : Filed digest head' next' n'
  filed_on = record {
    low = λ e l. low e l (ℕ_discrete e d);
    falls = λ j one. falls j one (ℕ_discrete j t);
    reached = λ j one l. reached j one (ℕ_discrete j t) l;
  }
    where
      low : (e : ℕ) → e < digests → Dec (e ≡ d) → head' e ≤ n'
      low e l (yes q) = rw (q, head-new) (omega arith)
      low e l (no q) = rw (head_other e l q) (omega (arith, filed.low e l))

      falls : (j : ℕ) → 1 ≤ j → Dec (j ≡ t) → next' j < j
      falls j one (yes q) = rw (q, next-new) (omega (arith, filed.low d (subst (λ (e : ℕ). e < digests) own (small t))))
      falls j one (no q) = rw (next-other j q) (filed.falls j one)

      -- an older number is on the chain that starts at the head that its digest had
      older : (j : ℕ) → 1 ≤ j → j ≤ n → Reach next' (head (digest j)) j
      older j one l =
          reach_kept next next' n filed.falls (λ i k. next-other i (λ z. omega arith)) (filed.low (digest j) (small j)) (filed.reached j one l)

      under : (j e : ℕ) → e < digests → Dec (e ≡ d) → Reach next' (head e) j → Reach next' (head' e) j
      under j e l (yes q) r =
          let some : t ≡ 0 → ⊥ = λ z. omega arith in
          rw (q, head-new) (later {h = t} {j = j} some (rw next-new (rw q at r)))
      under j e l (no q) r = rw (head_other e l q) r

      reached : (j : ℕ) → 1 ≤ j → Dec (j ≡ t) → j ≤ n' → Reach next' (head' (digest j)) j
      reached j one (yes q) l = rw (q, own, head-new) (here refl)
      reached j one (no q) l = under j (digest j) (small j) (ℕ_discrete (digest j) d) (older j one (omega arith))

-- ---- the walk

-- The walk stands at h; m is the lowest that it found, 0 for none. Whatever else passes is on the chain from h on, or not below m.
pub record Sought (next : ℕ → ℕ) (n : ℕ) (p : ℕ → Bool) (h m : ℕ) : Type 0 where
  pub stands : h ≤ n
  pub found : (m ≡ 0) ⊎ ((h < m) × (m ≤ n) × (p m ≡ true))
  pub others : (j : ℕ) → 1 ≤ j → j ≤ n → p j ≡ true → Reach next h j ⊎ ((1 ≤ m) × (m ≤ j))

module _ {digest head next : ℕ → ℕ} {n : ℕ} (filed : Filed digest head next n) where
  pub sought_start : (p : ℕ → Bool) (d : ℕ) {h : ℕ} → d < digests → ((j : ℕ) → p j ≡ true → digest j ≡ d) → h ≡ head d → Sought next n p h 0
  sought_start p d small own e = record {
    stands = omega (arith, filed.low d small);
    found = inl refl;
    others = λ j one l t. inl (rw (e, ← own j t) (filed.reached j one l));
  }

  pub sought_less : {h h' : ℕ} → (h ≡ 0 → ⊥) → h' ≡ next h → h' < h
  sought_less {h} some e = omega (arith, filed.falls h (omega arith))

  module _ {p : ℕ → Bool} {h m h' : ℕ} (sought : Sought next n p h m) (some : h ≡ 0 → ⊥) (e : h' ≡ next h) where
    hit : p h ≡ true → Sought next n p h' h
    hit t = record {
      stands = omega (arith, sought_less some e, sought.stands);
      found = inr (sought_less some e, sought.stands, t);
      others = λ j one l s. go j sought.found (ℕ_discrete h j) (sought.others j one l s);
    }
      where
        go : (j : ℕ) → (m ≡ 0) ⊎ ((h < m) × (m ≤ n) × (p m ≡ true)) → Dec (h ≡ j) → Reach next h j ⊎ ((1 ≤ m) × (m ≤ j))
            → Reach next h' j ⊎ ((1 ≤ h) × (h ≤ j))
        go j f (yes q) r = inr (omega arith, omega arith)
        go j f (no q) (inl r) = inl (rw e (reach_on q r))
        go j (inl z) (no q) (inr r) = absurd (omega (arith, r.0))
        go j (inr z) (no q) (inr r) = inr (omega arith, omega (arith, z.0, r.1))

    miss : p h ≡ false → Sought next n p h' m
    miss t = record {
      stands = omega (arith, sought_less some e, sought.stands);
      found = go sought.found;
      others = λ j one l s. on j s (sought.others j one l s);
    }
      where
        go : (m ≡ 0) ⊎ ((h < m) × (m ≤ n) × (p m ≡ true)) → (m ≡ 0) ⊎ ((h' < m) × (m ≤ n) × (p m ≡ true))
        go (inl z) = inl z
        go (inr z) = inr (omega (arith, sought_less some e, z.0), z.1, z.2)

        on : (j : ℕ) → p j ≡ true → Reach next h j ⊎ ((1 ≤ m) × (m ≤ j)) → Reach next h' j ⊎ ((1 ≤ m) × (m ≤ j))
        on j s (inl r) = inl (rw e (reach_on (λ q. false≢true (sym t ∙ ap p q ∙ s)) r))
        on j s (inr r) = inr r

    -- q is the code's test of h, and m' what it has found then
    module _ {q : Bool} (test : q ≡ p h) {m' : ℕ} where
      pub sought_hit : q ≡ true → m' ≡ h → Sought next n p h' m'
      sought_hit t k = subst (Sought next n p h') (sym k) (hit (sym test ∙ t))

      pub sought_miss : q ≡ false → m' ≡ m → Sought next n p h' m'
      sought_miss t k = subst (Sought next n p h') (sym k) (miss (sym test ∙ t))

pub sought_lowest : {next : ℕ → ℕ} {n : ℕ} {p : ℕ → Bool} {h m : ℕ} → Sought next n p h m → h ≡ 0
    → (j : ℕ) → 1 ≤ j → j ≤ n → p j ≡ true → (1 ≤ m) × (m ≤ j)
sought_lowest {next} {n} {p} {h} {m} sought z j one l t = go (sought.others j one l t)
  where
    go : Reach next h j ⊎ ((1 ≤ m) × (m ≤ j)) → (1 ≤ m) × (m ≤ j)
    go (inl r) = absurd (let k : j ≡ 0 = reach_end z r in omega arith)
    go (inr r) = r
