-- `rows::copy_up` meets its contract. The invariant: k places are copied, and what stands below the others is as it was.
use native.Mathlib.Omega.{arith}
use native.Mathlib.Decide.{ℕ_discrete}
use mathlib.Core.Path.{◌≡◌, refl, ◌∙◌}
use mathlib.Core.List.{List}
use Prim.Native.Nat.{ℕ, ◌+◌, ◌-◌, ◌<◌}
use lib.ListN.{length, get_or, set, length-set}
use Rattle.std.specs.List.{CopiedTo, SameBelow}
use Rattle.std.proofs.lemmas.List.{get_or_read_under, get_or-set_same, get_or-set_other}
use Rattle.images.proofs.rows.copy_up.Goals as goal

-- one more
copied : {X : Type 0} (w v : List X) (from to k : ℕ) (x : X) → length v ≡ length w → CopiedTo w v from to k → SameBelow w v to
    → x ≡ get_or v (from + k) x → from + k < to → to + k < length v → CopiedTo w (set v (to + k) x) from to (k + 1)
copied w v from to k x long so below is apart room j d after before = go (ℕ_discrete j (to + k))
  where
    go : Dec (j ≡ to + k) → get_or (set v (to + k) x) j d ≡ get_or w (from + (j - to)) d
    go (yes q) =
        let at : j - to ≡ k = omega (arith, q) in
        rw (at, q) (get_or-set_same v (to + k) x d room ∙ get_or_read_under v (from + k) (length v) x d is (omega (arith, apart, room)) refl ∙ below (from + k) d apart)
    go (no q) = get_or-set_other v (to + k) j x d q ∙ so j d after (omega (arith, q, before))

pub loop-k-init : goal.loop-k-init
loop-k-init g c = (refl, λ k d a b. absurd (omega (arith, a, b)), λ k d l. refl)

pub loop-k-preserved : goal.loop-k-preserved
loop-k-preserved g c =
    let a = c.args in
    let l = c.loop-k in
    let v = l.places in
    let apart : a.from + l.k < a.to = omega (arith, c.requires.0, c.loop-k-test.true) in
    let room : a.to + l.k < length v = omega (arith, c.requires.1, c.loop-k-test.true, l.invariant.0) in (
      length-set v (a.to + l.k) c.index-places-from.result ∙ l.invariant.0,
      copied a.places.now v a.from a.to l.k c.index-places-from.result l.invariant.0 l.invariant.1 l.invariant.2 c.index-places-from.is apart room,
      λ j d below. get_or-set_other v (a.to + l.k) j c.index-places-from.result d (λ q. absurd (omega (arith, q, below))) ∙ l.invariant.2 j d below,
    )

pub returns : goal.returns
returns g c =
    let l = c.loop-k in
    let all : l.k ≡ c.args.count = omega (arith, c.loop-k-test.false, l.auto.k-end) in
    (l.invariant.0, λ j d a b. l.invariant.1 j d a (omega (arith, b, all)), l.invariant.2)
