-- The set that a term's record asks for, by its kind; and from the sets below t to those below t + 1.
--     Ready, ready_room     what the code has once it has read a term's record and cleared its set
--     by_variable, by_unknown, by_application, by_binder, by_let, by_other     what it writes then, and the list that is left, are what the record asks for
--     both_parts            with the sets of the list's terms added, it is the term's set
--     SoFar, so_on          the sets below t are the free variables; so are those below t + 1, once that of t is written
use mathlib.Core.Path.{◌≡◌, refl, sym, ap, ◌∙◌, fun_ext}
use mathlib.Core.Logic.{inl}
use mathlib.Core.Bool.{Bool, true, false, cond, not, ◌&&◌, ◌||◌, or-false}
use mathlib.Core.List.{List, []}
use Prim.Native.Nat.{ℕ, ◌+◌, ◌*◌, ◌-◌, ◌≤◌, ◌<◌}
use native.Mathlib.Omega.{arith}
use native.Mathlib.Decide.{ℕ_discrete}
use lib.ListN.{length}
use lib.Dec.{eqb, ltb}
use borrow.Author.Tests.{ltb-true, ltb-false}
use Rattle.bundle.specs.Bundle.{Bundle, TermRecord, no_term, term_of}
use Rattle.bundle.specs.Links.{items}
use Rattle.bundle.specs.Lists.{has, numbers}
use Rattle.bundle.proofs.Fields.{record_within}
use Rattle.sets.specs.Sets.{holds, member, with_bit, inserted, removed, cleared}
use Rattle.sets.proofs.Members.{holds_small, member_same, member_inserted, member_cleared, changed_length, changed_out, filled_length, filled_out}
use Rattle.logic.specs.Table.{below}
use Rattle.logic.proofs.Tables.{table_below}
use Rattle.logic.proofs.Tests.{numbers_of_lem}
use Rattle.logic.specs.Terms.{Binder, Kind, kind_of, variable, application, binder, letting, other}
use Rattle.logic.specs.Free.{frees_of, free_as, free_by, free_at, nothing_free}
use Rattle.unions.specs.Put.{SetRoom, Kept, Put, set_below, list_as, list_of, own_as, own_by}
use Rattle.logic.proofs.KindTests.{term_record, record_is}
use Rattle.unions.proofs.Puts.{kept_trans, below_kept, room_kept, remove_put}

put_clear : (w v : List ℕ) (n at : ℕ) → at + n ≤ length w → v ≡ cleared w at n → Put w v n at (λ x. false)
put_clear w v n at room e = rw e (record {
  kept = record { long = filled_length (λ k. 0) w at n; others = λ j out. filled_out (λ k. 0) w at n j out };
  members = λ x. member_cleared w at n room x;
})

-- What the code has once it has read the four fields of term t, of a bundle with m variables, and cleared its set: v is w with that set cleared.
pub record Ready (b : Bundle) (m : ℕ) (w v : List ℕ) (n t at k a y z : ℕ) : Type 0 where
  pub variables : length b.variables ≡ m
  pub enough : m ≤ 64 * n
  pub room : SetRoom w n t at
  pub kind : k ≡ (term_of b t).kind
  pub first : a ≡ (term_of b t).a
  pub second : y ≡ (term_of b t).b
  pub third : z ≡ (term_of b t).c
  pub clear : v ≡ cleared w at n

module _ {b : Bundle} {m : ℕ} {w v : List ℕ} {n t at k a y z : ℕ} (ready : Ready b m w v n t at k a y z) where
  same : term_of b t ≡ term_record k a y z
  same = record_is (term_of b t) ready.kind ready.first ready.second ready.third

  none : Put w v n at (λ x. false)
  none = put_clear w v n at ready.room.room ready.clear

  empty : (x : ℕ) → member v at n x ≡ false
  empty x = none.members x

  pub ready_room : SetRoom v n t at
  ready_room = room_kept w v n t at ready.room none.kept

  -- lower sets are read as they were
  lower : (u : List ℕ) → Kept w u n at → set_below u n t ≡ set_below w n t
  lower u kept = fun_ext (λ i. fun_ext (λ x. below_kept w u n t at ready.room kept i x))

  -- the list l of the term, and u with what it has besides
  abbrev pub Own : List ℕ → ℕ → Type 0
  Own u l = (l ≡ list_of (term_of b t)) × Put w u n at (own_by b (set_below w n t) (term_of b t))

  pub by_variable : (u : List ℕ) → kind_of k ≡ variable → numbers m a ≡ true → u ≡ inserted v at n a → Own u 0
  unfolding own_by list_of
  by_variable u e known ins =
      let p : (0 < a) × (a ≤ m) = numbers_of_lem m a known in
      let has-bit : holds n a ≡ true = holds_small n a p.0 (omega (arith, p.1, ready.enough)) in
      rw (same, e, ins) (
        refl,
        record {
          kept = kept_trans w v (inserted v at n a) n at none.kept
              (record { long = changed_length with_bit v at n a; others = λ j out. changed_out with_bit v at n a j out });
          members = λ x. rw (ready.variables, known) (member_inserted v at n a ready_room.room has-bit x ∙ rw (empty x) (or-false (eqb x a)));
        },
      )

  pub by_unknown : kind_of k ≡ variable → numbers m a ≡ false → Own v 0
  unfolding own_by list_of
  by_unknown e known = rw (same, e) (refl, record { kept = none.kept; members = λ x. rw (ready.variables, known) (empty x) })

  pub by_application : kind_of k ≡ application → Own v y
  unfolding own_by list_of
  by_application e = rw (same, e) (refl, record { kept = none.kept; members = empty })

  pub by_binder : (q : Binder) (u p : List ℕ) → kind_of k ≡ binder q
      → Put v u n at (λ x. member v at n x || set_below v n t y x) → p ≡ removed u at n a → Own p 0
  unfolding own_by list_of
  by_binder q u p e put rem =
      let upto-u : Kept w u n at = kept_trans w v u n at none.kept put.kept in
      let over : Put u p n at (λ x. not (eqb x a) && member u at n x) = remove_put u p n at a (omega (arith, ready.room.room, upto-u.long)) rem in
      rw (same, e) (
        refl,
        record {
          kept = kept_trans w u p n at upto-u over.kept;
          members = λ x. rw (over.members x, put.members x, empty x, lower v none.kept);
        },
      )

  pub by_let : (u q : List ℕ) → kind_of k ≡ letting
      → Put v u n at (λ x. member v at n x || set_below v n t z x)
      → Put u q n at (λ x. member u at n x && not (has x (items b a))) → Own q y
  unfolding own_by list_of
  by_let u q e body but =
      let upto-u : Kept w u n at = kept_trans w v u n at none.kept body.kept in
      rw (same, e) (
        refl,
        record {
          kept = kept_trans w u q n at upto-u but.kept;
          members = λ x. rw (but.members x, body.members x, empty x, lower v none.kept);
        },
      )

  pub by_other : kind_of k ≡ other → Own v 0
  unfolding own_by list_of
  by_other e = rw (same, e) (refl, record { kept = none.kept; members = empty })

-- ---- the two parts

none_free : (b : Bundle) (f : ℕ → ℕ → Bool) (x : ℕ) → items b 0 ≡ [] → (p : Bool) → (p || frees_of f (items b 0) x) ≡ p
unfolding frees_of
none_free b f x nil p = rw nil (or-false p)

parts_as : (b : Bundle) (k : Kind) (f : ℕ → ℕ → Bool) (r : TermRecord) (x : ℕ) → items b 0 ≡ []
    → (own_as b k f r x || frees_of f (items b (list_as k r)) x) ≡ free_as b k f r x
unfolding free_as own_as list_as
parts_as b variable f r x nil = none_free b f x nil (numbers (length b.variables) r.a && eqb x r.a)
parts_as b application f r x nil = refl
parts_as b (binder q) f r x nil = none_free b f x nil (not (eqb x r.a) && f r.b x)
parts_as b letting f r x nil = refl
parts_as b other f r x nil = none_free b f x nil false

parts : (b : Bundle) (f : ℕ → ℕ → Bool) (r : TermRecord) (x : ℕ) → items b 0 ≡ []
    → (own_by b f r x || frees_of f (items b (list_of r)) x) ≡ free_by b f r x
unfolding free_by own_by list_of
parts b f r x nil = parts_as b (kind_of r.kind) f r x nil

-- the set of term t, once the sets of the terms of its list are added
pub both_parts : (b : Bundle) (w v u : List ℕ) (n t at l : ℕ) → items b 0 ≡ [] → SetRoom w n t at → l ≡ list_of (term_of b t)
    → Put w v n at (own_by b (set_below w n t) (term_of b t)) → Put v u n at (λ x. member v at n x || frees_of (set_below v n t) (items b l) x)
    → Put w u n at (free_by b (set_below w n t) (term_of b t))
both_parts b w v u n t at l nil room e own rest =
    let same : set_below v n t ≡ set_below w n t = fun_ext (λ i. fun_ext (λ x. below_kept w v n t at room own.kept i x)) in
    record {
      kept = kept_trans w v u n at own.kept rest.kept;
      members = λ x. rest.members x ∙ rw (same, own.members x, e) (parts b (set_below w n t) (term_of b t) x nil);
    }

-- ---- all terms

-- the sets below t are the free variables
abbrev pub SoFar : List ℕ → ℕ → ℕ → Bundle → Type 0
SoFar w n t b = (i x : ℕ) → 1 ≤ i → i < t → member w (n * (i - 1)) n x ≡ free_at b i x

so_below : (w : List ℕ) (n t : ℕ) (b : Bundle) → SoFar w n t b → set_below w n t ≡ below nothing_free t (free_at b)
unfolding set_below free_at
so_below w n t b so = fun_ext (λ i. fun_ext (λ x. go i x (ltb 0 i) refl (ltb i t) refl))
  where
    go : (i x : ℕ) (p : Bool) → ltb 0 i ≡ p → (q : Bool) → ltb i t ≡ q
        → cond (p && q) (member w (n * (i - 1)) n x) false ≡ cond q (free_at b i) nothing_free x
    go i x true d true e = so i x (ltb-true 0 i d) (ltb-true i t e)
    go i x true d false e = refl
    go i x false d false e = refl
    go i x false d true e = let z : i ≡ 0 = (let h : i ≤ 0 = ltb-false 0 i d in omega arith) in rw z

free_below : (b : Bundle) (t : ℕ) → free_at b t ≡ free_by b (below nothing_free t (free_at b)) (term_of b t)
unfolding free_at free_by
free_below b t = table_below (free_by b) nothing_free no_term (λ f. refl) b.terms t

pub so_on : (w v : List ℕ) (n t at : ℕ) (b : Bundle) → SetRoom w n t at → SoFar w n t b → Put w v n at (free_by b (set_below w n t) (term_of b t))
    → SoFar v n (t + 1) b
so_on w v n t at b room so put i x one low = go (ℕ_discrete i t)
  where
    go : Dec (i ≡ t) → member v (n * (i - 1)) n x ≡ free_at b i x
    go (yes e) =
        rw (e, ← room.start) (put.members x ∙ ap (λ (f : ℕ → ℕ → Bool). free_by b f (term_of b t) x) (so_below w n t b so)
        ∙ sym (ap (λ (f : ℕ → Bool). f x) (free_below b t)))
    go (no ne) =
        let below-t : i < t = omega arith in
        let fits : n * (i - 1) + n ≤ n * (t - 1) = record_within n (t - 1) i (λ z. omega arith) (omega arith) in
        let start : at ≡ n * (t - 1) = room.start in
        member_same v w (n * (i - 1)) n (λ k h. put.kept.others (n * (i - 1) + k) (inl (omega arith))) x ∙ so i x one below-t
