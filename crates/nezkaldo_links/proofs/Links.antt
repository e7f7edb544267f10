-- WHAT THE NUMBER SAYS that `nezkaldo_links` answers.
--     links_short, few_links     a CONG reads at most three times as many links as a file may have
--     step-number     the number of a CONG step
--     links_number_lem    THE THEOREM
use mathlib.Core.Path.{◌≡◌, refl, sym, ◌∙◌}
use mathlib.Core.Bool.{Bool, true, false, false≢true}
use mathlib.Core.List.{List}
use Prim.Native.Nat.{ℕ, ◌+◌, ◌*◌, ◌≤◌}
use native.Mathlib.Omega.{arith}
use lib.ListN.{length}
use Rattle.bundle.specs.declared.Counts.{Counts}
use Rattle.bundle.specs.Limits.{limits}
use Rattle.bundle.specs.Bundle.{Bundle, Step, step_of}
use Rattle.bundle.specs.File.{Whole, bundle_at, bundle_of, counts_of}
use Rattle.bundle.proofs.Fields.{links_length}
use Rattle.logic.specs.declared.Walk.{Walk}
use Rattle.logic.specs.Rules.{rule_of, cong_walk, matches}
use Rattle.logic.proofs.CongWalk.{cong_at_most, cong_exactly, lengths_short}
use Rattle.logic.proofs.Headers.{header_exactly}
use Rattle.nezkaldo_links.specs.Links.{walk_number, step_number, links_number, LinksSay, LinksNumber}

pub links_short : (b : Bundle) (s : Step) → length b.links ≤ limits.links → (cong_walk b s).links ≤ 3 * limits.links
unfolding cong_walk
links_short b s few = omega (arith, cong_at_most (step_of b) b s, lengths_short b s)

pub few_links : (f : List ℕ) (c : Counts) → Whole f c → length (bundle_at f c).links ≤ limits.links
few_links f c whole = rw (links_length f c) whole.within.links

module _ (b : Bundle) (k p : ℕ) (few : length b.links ≤ limits.links) (cong : (step_of b k).rule ≡ 2) (is : p ≡ walk_number (cong_walk b (step_of b k))) where
  abbrev w : Walk
  w = cong_walk b (step_of b k)

  -- check 13's test is the walk's
  same : w.passes ≡ matches b k
  unfolding cong_walk matches rule_of
  same = rw cong

  say : (q : Bool) → w.passes ≡ q → LinksSay b k p
  unfolding cong_walk
  say true e =
      let all : p ≡ w.links = is ∙ rw e in
      let small : w.links ≤ 3 * limits.links = links_short b (step_of b k) few in
      record {
        passes = ((λ _. sym same ∙ e), (λ _. omega (arith, all, small)));
        exactly = λ _. all ∙ cong_exactly (step_of b) b (step_of b k) e;
        at_most = λ h. absurd (omega (arith, all, small, h));
      }
  say false e =
      let some : p ≡ 4294967296 * 13 + w.links = is ∙ rw e in
      record {
        passes = ((λ h. absurd (omega (arith, some, h))), (λ m. absurd (false≢true (sym e ∙ same ∙ m))));
        exactly = λ h. absurd (omega (arith, some, h));
        at_most = λ _. (w.links, some, cong_at_most (step_of b) b (step_of b k));
      }

pub links_number_lem : LinksNumber
unfolding links_number step_number bundle_of
links_number_lem f k h cong =
    let b : Bundle = bundle_at f (counts_of f) in
    let e : links_number f k ≡ walk_number (cong_walk b (step_of b k)) = rw ((header_exactly f 0 0).1 (h, omega arith), cong) in
    say b k (links_number f k) (few_links f (counts_of f) h.whole) cong e (cong_walk b (step_of b k)).passes refl
