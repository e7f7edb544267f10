-- What a walk of whole-term REFL can cost (Req 13).
--     pair_walk_bound      THE THEOREM: with at most two arguments and one variable a let, at most 2^n − 1 pairs from term n
--     pair_walk_doubled    THE THEOREM: from a variable doubled to term n, a walk that ends with no difference visits that many
--     doubled_reached     THE THEOREM: so it does against its replaced copy
use mathlib.Core.Path.{◌≡◌, refl, sym, ap, ◌∙◌, subst}
use Prim.Native.Nat.{ℕ, zero, suc, ◌+◌, ◌-◌, ◌*◌, ◌^◌, ◌≤◌}
use mathlib.Core.Bool.{Bool, true, false, false≢true}
use mathlib.Core.List.{List, [], ◌∷◌}
use native.Mathlib.Omega.{arith}
use native.Mathlib.Nat.{mul-le-mul_right}
use lib.ListN.{length, length-map}
use Rattle.std.proofs.lemmas.Nat.{pow_pos}
use Rattle.bundle.specs.Bundle.{Bundle, TermRecord, term_of, sort_of_variable}
use Rattle.bundle.specs.Links.{items}
use Rattle.logic.specs.Lists.{All}
use Rattle.logic.specs.Terms.{app, Kind, kind_of, gather, tree}
use Rattle.logic.specs.Contexts.{image, image_tree}
use Rattle.logic.specs.Replacement.{replaced}
use Rattle.logic.specs.WellFormed.{Lower, sort_of_term, TermFormed, a_variable, an_application, a_binder, a_let, TablesFormed}
use Rattle.logic.specs.Free.{free_at}
use Rattle.logic.specs.ReflWalk.{Crossed, PairWalk, pair_then, and_then, application_meets, binder_meets, let_meets, binder_crossed, let_crossed, lists_walk, pair_walk_as, pair_walk_of, pair_walk, Binary, Doubled}
use Rattle.logic.specs.Statements.{PairWalkBound, PairWalkDoubled, DoubledReached}
use Rattle.logic.proofs.TermNumbers.{IsTerm, of_kind}
use Rattle.logic.proofs.Passes.{lower_of}
use Rattle.logic.proofs.Formed.{formed_pass, tree_variable, tree_application}
use Rattle.logic.proofs.ReflWalk.{walk_here}
use Rattle.logic.proofs.ReflExactly.{pair_same, then_same, pair_walk_exactly}
use Rattle.logic.proofs.Replacements.{Unbound, unbound_apart}

-- ---- pairs of the parts

pair_pairs : (p : Bool) (w : PairWalk) → (pair_then p w).pairs ≤ suc w.pairs
unfolding pair_then
pair_pairs true w = omega arith
pair_pairs false w = omega arith

after_pairs : (n : ℕ) (p : Bool) (w : PairWalk) → (and_then (record { pairs = n; same = p }) w).pairs ≤ n + w.pairs
unfolding and_then
after_pairs n true w = omega arith
after_pairs n false w = omega arith

then_pairs : (v w : PairWalk) → (and_then v w).pairs ≤ v.pairs + w.pairs
then_pairs v w = after_pairs v.pairs v.same w

-- no walk from term l visits more than m pairs
abbrev AtMost : (ℕ → Crossed → ℕ → PairWalk) → ℕ → ℕ → Type 0
AtMost f m l = (ps : Crossed) (r : ℕ) → (f l ps r).pairs ≤ m

lists_pairs : (f : ℕ → Crossed → ℕ → PairWalk) (m : ℕ) (ps : Crossed) (ls rs : List ℕ) → All (AtMost f m) ls
    → (lists_walk f ps ls rs).pairs ≤ length ls * m
unfolding lists_walk
lists_pairs f m ps [] [] h = omega arith
lists_pairs f m ps [] (r ∷ rs) h = omega arith
lists_pairs f m ps (l ∷ ls) [] h = omega arith
lists_pairs f m ps (l ∷ ls) (r ∷ rs) h =
    let ih : (lists_walk f ps ls rs).pairs ≤ length ls * m = lists_pairs f m ps ls rs h.1 in
    let one : (f l ps r).pairs ≤ m = h.0 ps r in
    omega (arith, then_pairs (f l ps r) (lists_walk f ps ls rs))

module _ (b : Bundle) (formed : TablesFormed b) (c : ℕ) where
  here : (l : ℕ) (s : TermRecord) → term_of b l ≡ s → pair_walk b c l ≡ pair_walk_of (free_at b) (image b c) b (pair_walk b c) s
  here l s e = walk_here (free_at b) (image b c) b l (lower_of b (formed_pass b formed) l) ∙ ap (pair_walk_of (free_at b) (image b c) b (pair_walk b c)) e

  module _ (binary : Binary b) where
    all_lower : (l m : ℕ) → ((i : ℕ) → Lower l i → AtMost (pair_walk b c) m i) → (ts : List ℕ) → All (Lower l) ts → All (AtMost (pair_walk b c) m) ts
    all_lower l m ih [] h = tt
    all_lower l m ih (t ∷ ts) h = (ih t h.0, all_lower l m ih ts h.1)

    binder_pairs : (s : TermRecord) (m : ℕ) → AtMost (pair_walk b c) m s.b → (ps : Crossed) (r : ℕ)
        → (pair_then (binder_meets b s r) (pair_walk b c s.b (binder_crossed b s r ps) (term_of b r).b)).pairs ≤ 1 + 2 * m
    binder_pairs s m h ps r =
        let body : PairWalk = pair_walk b c s.b (binder_crossed b s r ps) (term_of b r).b in
        omega (arith, pair_pairs (binder_meets b s r) body, h (binder_crossed b s r ps) (term_of b r).b)

    step : (l m : ℕ) → IsTerm b l → TermFormed b l → ((i : ℕ) → Lower l i → AtMost (pair_walk b c) m i) → AtMost (pair_walk b c) (1 + 2 * m) l
    unfolding pair_walk_of pair_walk_as kind_of
    step l m n (a_variable x e v) ih ps r = rw (here l (record { kind = 1; a = x; b = 0; c = 0 }) e) (omega arith)
    step l m n (an_application f s e k st low sorts) ih ps r = rw (here l o e) go
      where
        o : TermRecord
        o = record { kind = 2; a = f; b = s; c = 0 }

        rs : List ℕ
        rs = items b (term_of b r).b

        two : length (items b s) ≤ 2
        two = subst (λ (t : TermRecord). length (items b t.b) ≤ 2) e (binary.arguments l n (ap (λ (t : TermRecord). t.kind) e))

        go : (pair_then (application_meets b o r) (lists_walk (pair_walk b c) ps (items b s) rs)).pairs ≤ 1 + 2 * m
        go =
            let all : (lists_walk (pair_walk b c) ps (items b s) rs).pairs ≤ length (items b s) * m =
            lists_pairs (pair_walk b c) m ps (items b s) rs (all_lower l m ih (items b s) low) in
            let most : length (items b s) * m ≤ 2 * m = mul-le-mul_right m two in
            omega (arith, pair_pairs (application_meets b o r) (lists_walk (pair_walk b c) ps (items b s) rs))
    step l m n (a_binder q k x t e h v low sorts) ih ps r =
        let s : TermRecord = record { kind = k; a = x; b = t; c = 0 } in
        rw (here l s e) (subst (λ (κ : Kind). (pair_walk_as (free_at b) (image b c) b κ (pair_walk b c) s ps r).pairs ≤ 1 + 2 * m) (sym h) (binder_pairs s m (ih t low) ps r))
    step l m n (a_let vs ts t e sv nv st lows low lists) ih ps r = rw (here l o e) go
      where
        o : TermRecord
        o = record { kind = 5; a = vs; b = ts; c = t }

        parts : PairWalk
        parts = lists_walk (pair_walk b c) ps (items b ts) (items b (term_of b r).b)

        body : PairWalk
        body = pair_walk b c t (let_crossed b o r ps) (term_of b r).c

        one : length (items b vs) ≡ 1
        one = subst (λ (u : TermRecord). length (items b u.a) ≡ 1) e (binary.variables l n (ap (λ (u : TermRecord). u.kind) e))

        go : (pair_then (let_meets b o r) (and_then parts body)).pairs ≤ 1 + 2 * m
        go =
            let all : parts.pairs ≤ length (items b ts) * m =
            lists_pairs (pair_walk b c) m ps (items b ts) (items b (term_of b r).b) (all_lower l m ih (items b ts) lows) in
            let same : length (items b vs) ≡ length (items b ts) =
            omega (arith, ap (length {A = ℕ}) lists.sorts, length-map (items b vs) (sort_of_variable b), length-map (items b ts) (sort_of_term b)) in
            let most : length (items b ts) * m ≤ 1 * m = mul-le-mul_right m (omega (arith, one)) in
            let last : body.pairs ≤ m = ih t low (let_crossed b o r ps) (term_of b r).c in
            omega (arith, pair_pairs (let_meets b o r) (and_then parts body), then_pairs parts body)

    up_to_lem : (n l : ℕ) → l ≤ n → IsTerm b l → AtMost (pair_walk b c) (2 ^ n - 1) l
    up_to_lem zero l le h ps r = absurd (omega arith)
    up_to_lem (suc n) l le h ps r =
        let most : (pair_walk b c l ps r).pairs ≤ 1 + 2 * (2 ^ n - 1) =
        step l (2 ^ n - 1) h (formed.terms l h) (λ i low. up_to_lem n i (omega arith) (low.0, omega arith)) ps r in
        omega (arith, pow_pos n)

pub pair_walk_bound : PairWalkBound
pair_walk_bound b formed binary c n h = up_to_lem b formed c binary n n (omega arith) h

-- ---- a variable doubled

-- where a pair, or a walk and another, end with no difference, all their pairs are visited
pair_all : (p : Bool) (w : PairWalk) → p ≡ true → (pair_then p w).pairs ≡ suc w.pairs
unfolding pair_then
pair_all true w e = refl
pair_all false w e = absurd (false≢true e)

after_all : (n : ℕ) (p : Bool) (w : PairWalk) → p ≡ true → (and_then (record { pairs = n; same = p }) w).pairs ≡ n + w.pairs
unfolding and_then
after_all n true w e = refl
after_all n false w e = absurd (false≢true e)

then_all : (v w : PairWalk) → v.same ≡ true → (and_then v w).pairs ≡ v.pairs + w.pairs
then_all v w e = after_all v.pairs v.same w e

-- from term l, a walk that ends with no difference visits m pairs
abbrev Exactly : (ℕ → Crossed → ℕ → PairWalk) → ℕ → ℕ → Type 0
Exactly f m l = (ps : Crossed) (r : ℕ) → (f l ps r).same ≡ true → (f l ps r).pairs ≡ m

twice : (f : ℕ → Crossed → ℕ → PairWalk) (m k : ℕ) (ps : Crossed) (rs : List ℕ) → Exactly f m k → (lists_walk f ps (k ∷ k ∷ []) rs).same ≡ true
    → (lists_walk f ps (k ∷ k ∷ []) rs).pairs ≡ m + m
unfolding lists_walk
twice f m k ps [] h e = absurd (false≢true e)
twice f m k ps (r ∷ []) h e =
    absurd (false≢true ((then_same (f k ps r) (record { pairs = 0; same = false })).0 e).1)
twice f m k ps (r ∷ s ∷ []) h e =
    let last : PairWalk = and_then (f k ps s) (record { pairs = 0; same = true }) in
    let (one, others) = (then_same (f k ps r) last).0 e in
    let (two, done) = (then_same (f k ps s) (record { pairs = 0; same = true })).0 others in
    omega (arith, then_all (f k ps r) last one, then_all (f k ps s) (record { pairs = 0; same = true }) two, h ps r one, h ps s two)
twice f m k ps (r ∷ s ∷ t ∷ rs) h e =
    let last : PairWalk = and_then (f k ps s) (record { pairs = 0; same = false }) in
    absurd (false≢true ((then_same (f k ps s) (record { pairs = 0; same = false })).0 ((then_same (f k ps r) last).0 e).1).1)

module _ (b : Bundle) (formed : TablesFormed b) (c : ℕ) where
  doubled : (n : ℕ) → Doubled b n → 1 ≤ n → Exactly (pair_walk b c) (2 ^ n - 1) n
  unfolding pair_walk_of pair_walk_as kind_of
  doubled zero d lo ps r e = absurd (omega arith)
  doubled (suc zero) d lo ps r e = rw (here b formed c 1 (record { kind = 1; a = o.a; b = o.b; c = o.c }) (of_kind b formed 1 d.first)) refl
    where
      o : TermRecord
      o = term_of b 1
  doubled (suc (suc n)) d lo ps r e = go (d.later (suc n) (omega arith) (omega arith)) (doubled (suc n) shorter (omega arith)) e
    where
      o : TermRecord
      o = term_of b (suc (suc n))

      shorter : Doubled b (suc n)
      shorter = record { first = d.first; later = λ k lo hi. d.later k lo (omega arith) }

      go : (o.kind ≡ 2) × (items b o.b ≡ suc n ∷ suc n ∷ []) → Exactly (pair_walk b c) (2 ^ suc n - 1) (suc n)
          → (pair_walk b c (suc (suc n)) ps r).same ≡ true → (pair_walk b c (suc (suc n)) ps r).pairs ≡ 2 ^ suc (suc n) - 1
      go (k, is) ih = rw (here b formed c (suc (suc n)) (record { kind = 2; a = o.a; b = o.b; c = o.c }) (of_kind b formed (suc (suc n)) k)) count
        where
          met : Bool
          met = application_meets b (record { kind = 2; a = o.a; b = o.b; c = o.c }) r

          parts : List ℕ → PairWalk
          parts ls = lists_walk (pair_walk b c) ps ls (items b (term_of b r).b)

          count : (pair_then met (parts (items b o.b))).same ≡ true → (pair_then met (parts (items b o.b))).pairs ≡ 2 ^ suc (suc n) - 1
          count =
              rw is (λ e.
              let (m, w) = (pair_same met (parts (suc n ∷ suc n ∷ []))).0 e in
              let two : (parts (suc n ∷ suc n ∷ [])).pairs ≡ (2 ^ suc n - 1) + (2 ^ suc n - 1) =
              twice (pair_walk b c) (2 ^ suc n - 1) (suc n) ps (items b (term_of b r).b) ih w in
              omega (arith, pair_all met (parts (suc n ∷ suc n ∷ [])) m, pow_pos (suc n)))

pub pair_walk_doubled : PairWalkDoubled
pair_walk_doubled b formed c n h d = doubled b formed c n d h.0

-- ---- against its replaced copy

module _ (b : Bundle) (formed : TablesFormed b) where
  doubled_unbound : (n : ℕ) → Doubled b n → 1 ≤ n → Unbound (tree b n)
  unfolding gather
  doubled_unbound zero d lo = absurd (omega arith)
  doubled_unbound (suc zero) d lo = subst Unbound (sym (tree_variable b formed 1 (of_kind b formed 1 d.first))) tt
  doubled_unbound (suc (suc n)) d lo =
      go (d.later (suc n) (omega arith) (omega arith))
      (doubled_unbound (suc n) (record { first = d.first; later = λ k lo hi. d.later k lo (omega arith) }) (omega arith))
    where
      o : TermRecord
      o = term_of b (suc (suc n))

      go : (o.kind ≡ 2) × (items b o.b ≡ suc n ∷ suc n ∷ []) → Unbound (tree b (suc n)) → Unbound (tree b (suc (suc n)))
      go (k, is) ih =
          subst Unbound (sym (tree_application b formed (suc (suc n)) (of_kind b formed (suc (suc n)) k) ∙ ap (λ (ls : List ℕ). app o.a (gather (tree b) ls)) is))
          (ih, (ih, tt))

pub doubled_reached : DoubledReached
doubled_reached b well c n r hn hr d copy =
    let same : (pair_walk b c n [] r).same ≡ true =
    (pair_walk_exactly b well c n r hn hr).1 (
      replaced (image_tree b c) [] (tree b n),
      refl,
      unbound_apart (image_tree b c) (tree b n) (doubled_unbound b well.tables n d hn.0),
      sym copy,
    ) in
    let pairs : (pair_walk b c n [] r).pairs ≡ 2 ^ n - 1 = pair_walk_doubled b well.tables c n hn d [] r same in
    λ i. record { pairs = pairs i; same = same i }
