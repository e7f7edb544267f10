-- The visit to a list: what each of its calls asks, and what each of its returns gives.
--     left, left_le          the measure: how many links are left from a link on
--     list_none              an empty list
--     LinkReads              the first link, as the code reads it
--     first_asks, first_full, first_height     the visit to the first term
--     rest_asks, list_more   the visit to the others
use mathlib.Core.Path.{◌≡◌, refl, sym, ap, ◌∙◌, subst}
use mathlib.Core.Logic.{◌⊎◌, inl, inr}
use mathlib.Core.Bool.{Bool, true, false}
use mathlib.Core.List.{List, ◌∷◌}
use Prim.Native.Nat.{ℕ, zero, suc, ◌+◌, ◌-◌, ◌≤◌, ◌<◌}
use native.Mathlib.Omega.{arith}
use lib.ListN.{length, set, length-set}
use Rattle.std.specs.Prelude.{Option, Some, None}
use Rattle.bundle.specs.File.{own_counts}
use Rattle.bundle.specs.Bundle.{Bundle, link_of}
use Rattle.bundle.specs.Limits.{limits, Within}
use Rattle.logic.specs.Lists.{Number}
use Rattle.logic.proofs.Longer.{sizes}
use Rattle.scratch.proofs.Halves.{halves_none}
use Rattle.placing.specs.declared.Visited.{Visited}
use Rattle.expansion.specs.Nodes.{Node, Nodes, nil, cons}
use Rattle.expansion.specs.Visit.{visit, visit_all}
use Rattle.placing.specs.Outcomes.{ListOutcome, Stands, StandAll, TermGives, TermAsks, ListAsks, ListGives}
use Rattle.expansion.proofs.Grown.{visit_longer, visit_all_longer}
use Rattle.visits.proofs.StandingKept.{stand_all_on, visit_more, visit_all_steps}
use Rattle.placing.proofs.OutcomeFacts.{longer_over, outcome_full, VisitDone, visit_done, on}
use Rattle.placing.proofs.Pairs.{Pair, below_same, below_trans, below_set, halves_first}

-- ---- the measure: how many links are left from a link on

abbrev pub left : ℕ → ℕ
left zero = 0
left (suc i) = limits.links - i

pub left_le : (l : ℕ) → left l ≤ limits.links
left_le zero = omega arith
left_le (suc i) = omega arith

left_less : (l m : ℕ) → 1 ≤ l → l ≤ limits.links → {L : ℕ} → (m ≡ 0) ⊎ ((l < m) × (m ≤ L)) → left m < left l
left_less zero m h k d = absurd (omega arith)
left_less (suc i) zero h k d = omega arith
left_less (suc i) (suc m) h k (inl e) = absurd (omega arith)
left_less (suc i) (suc m) h k (inr e) = omega (arith, e.0)

-- ---- the visit to a list

-- an empty list
pub list_none : {keeps : ℕ → Bool} {b : Bundle} {s : List ℕ} {Γ h o l : ℕ} → Within (own_counts b) → l ≡ 0 → ListGives keeps b s Γ h o l b s (Some h)
unfolding visit
list_none {keeps} {b} {s} {Γ} {h} {o} {l} within z = record { kept = below_same s h; outcome = go }
  where
    go : (ns : Nodes) → StandAll b o l ns → ListOutcome (visit_all keeps ns Γ b) h b s (Some h)
    go nil k =
        let m : h ≡ h + 0 = omega arith in
        ListOutcome.done within refl (ap Some m) (halves_none true s h (h + 0) (omega arith)) (halves_none false s h (h + 0) (omega arith))
    go (cons τ ns) k = absurd (omega (arith, k.0.0, z))

-- the first link of a list, as the code reads it
pub record LinkReads (b : Bundle) (l value next : ℕ) : Type 0 where
  pub some : l ≡ 0 → ⊥
  pub value_is : value ≡ (link_of b l).value
  pub next_is : next ≡ (link_of b l).next

record First (b : Bundle) (o l value next : ℕ) (τ : Node) (ns : Nodes) : Type 0 where
  link : Number (length b.links) l
  lower : value < o
  order : (next ≡ 0) ⊎ ((l < next) × (next ≤ length b.links))
  first : Stands b value τ
  rest : StandAll b o next ns

first_of : {b : Bundle} {o l value next : ℕ} → LinkReads b l value next → (P : Nodes → Type 0)
    → ((τ : Node) (ns : Nodes) → First b o l value next τ ns → P (cons τ ns))
    → (ns : Nodes) → StandAll b o l ns → P ns
first_of r P f nil k = absurd (r.some k)
first_of {b} {o} {l} {value} {next} r P f (cons τ ns) k = f τ ns record {
  link = k.0;
  lower = omega (arith, r.value_is, k.1);
  order = subst (λ (m : ℕ). (m ≡ 0) ⊎ ((l < m) × (m ≤ length b.links))) (sym r.next_is) k.2;
  first = subst (λ (m : ℕ). Stands b m τ) (sym r.value_is) k.3;
  rest = subst (λ (m : ℕ). StandAll b o m ns) (sym r.next_is) k.4;
}

module _ {b : Bundle} {s : List ℕ} {Γ h o l : ℕ} (asks : ListAsks b s Γ h o l) {value next : ℕ} (reads : LinkReads b l value next) where
  -- of the list that the caller gives
  some_first : (P : Type 0) → ((τ : Node) (ns : Nodes) → First b o l value next τ ns → P) → P
  some_first P f = first_of reads (λ ns. P) f asks.standing asks.stands

  -- the call for the first term
  pub first_asks : TermAsks b s Γ h value × (value < o)
  first_asks = some_first _ (λ τ ns k. (record { pending = asks.pending; context = asks.context; standing = τ; stands = k.first }, k.lower))

  -- keeps says which variables are kept
  module _ {keeps : ℕ → Bool} {b1 : Bundle} {s1 : List ℕ} {r : Option Visited} (gave : TermGives keeps b s Γ h value b1 s1 r) where
    -- the first visit was full: so is the list's
    pub first_full : r ≡ None → ListGives keeps b s Γ h o l b1 s1 None
    unfolding visit
    first_full t = record {
      kept = gave.kept;
      outcome = first_of reads (λ ns. ListOutcome (visit_all keeps ns Γ b) h b1 s1 None) (λ τ ns k.
          ListOutcome.full (longer_over (visit_all_longer keeps ns Γ (visit keeps τ Γ b).bundle) (outcome_full (gave.outcome τ k.first) t)) refl);
    }

    module _ {x : Visited} (told : r ≡ Some x) where
      first_done : (τ : Node) → Stands b value τ → VisitDone (visit keeps τ Γ b).bundle (visit keeps τ Γ b).result (visit keeps τ Γ b).step b1 x
      first_done τ k = visit_done (gave.outcome τ k) told

      -- a place for the pair: there is a step more than there were
      pub first_height : (h < length b1.steps) × (h < limits.steps) × (h < length s1)
      first_height = some_first _ (λ τ ns k.
          let d = first_done τ k.first in
          let e : h < length (visit keeps τ Γ b).bundle.steps = omega (arith, asks.pending.height, visit_more keeps τ Γ b) in
          let i : h < limits.steps = omega (arith, e, d.within.steps) in
          (omega (arith, e, ap (λ (B : Bundle). length B.steps) d.bundle), i, omega (arith, i, asks.pending.places, gave.kept.long)))

      module _ {pair : ℕ} (packed : Pair pair x.result x.step) where
        rest_stands : (τ : Node) (ns : Nodes) → First b o l value next τ ns → StandAll b1 o next ns
        rest_stands τ ns k = stand_all_on (on (visit_longer keeps τ Γ b) (first_done τ k.first).bundle) ns o next k.rest

        -- the call for the other terms
        pub rest_asks : ListAsks b1 (set s1 h pair) Γ (h + 1) o next × (left next < left l)
        rest_asks = some_first _ (λ τ ns k.
            let d = first_done τ k.first in
            let z = sizes (on (visit_longer keeps τ Γ b) d.bundle) in (
              record {
                pending = record {
                  places = omega (arith, length-set s1 h pair, gave.kept.long, asks.pending.places);
                  height = omega (arith, first_height.0);
                };
                context = omega (arith, asks.context, z.contexts);
                standing = ns;
                stands = rest_stands τ ns k;
              },
              left_less l next k.link.0 (omega (arith, k.link.1, (sizes (visit_longer keeps τ Γ b)).links, d.within.links)) k.order,
            ))

        -- the list's visit, from the visit to its first term and the visit to the others
        pub list_more : {b3 : Bundle} {s3 : List ℕ} {r3 : Option ℕ} → ListGives keeps b1 (set s1 h pair) Γ (h + 1) o next b3 s3 r3 → ListGives keeps b s Γ h o l b3 s3 r3
        unfolding visit
        list_more {b3} {s3} {r3} g = record {
          kept = below_trans (omega arith) (below_trans (omega arith) gave.kept (below_set s1 h h pair (omega arith))) g.kept;
          outcome = first_of reads (λ ns. ListOutcome (visit_all keeps ns Γ b) h b3 s3 r3) (λ τ ns k.
              let d = first_done τ k.first in
              up τ ns d (subst (λ (B : Bundle). ListOutcome (visit_all keeps ns Γ B) (h + 1) b3 s3 r3) d.bundle (g.outcome ns (rest_stands τ ns k))));
        }
          where
            up : (τ : Node) (ns : Nodes) → VisitDone (visit keeps τ Γ b).bundle (visit keeps τ Γ b).result (visit keeps τ Γ b).step b1 x
                → ListOutcome (visit_all keeps ns Γ (visit keeps τ Γ b).bundle) (h + 1) b3 s3 r3
                → ListOutcome (visit_all keeps (cons τ ns) Γ b) h b3 s3 r3
            up τ ns d (ListOutcome.full f e) = ListOutcome.full f e
            up τ ns d (ListOutcome.done w e t p q) =
                let v = visit_all keeps ns Γ (visit keeps τ Γ b).bundle in
                let m = length v.results in
                let i : h + 1 + m ≡ h + suc m = omega arith in
                let fits : h + 1 + m ≤ length s3 =
                omega (
                  arith,
                  asks.pending.height,
                  visit_more keeps τ Γ b,
                  visit_all_steps keeps ns Γ (visit keeps τ Γ b).bundle,
                  w.steps,
                  asks.pending.places,
                  gave.kept.long,
                  length-set s1 h pair,
                  g.kept.long,
                ) in
                ListOutcome.done w e (t ∙ ap Some i)
                (halves_first s1 h pair first_height.2 g.kept true m fits ∙ (λ j. (packed.upper ∙ d.result) j ∷ p j))
                (halves_first s1 h pair first_height.2 g.kept false m fits ∙ (λ j. (packed.lower ∙ d.step) j ∷ q j))
