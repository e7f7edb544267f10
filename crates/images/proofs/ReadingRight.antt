-- Where the memory is right, its reading is the bundle's own: so what the code says of the reading it says of the bundle.
--     free_right, settled_right     the free variables of each term; the settled terms of a context, where its sets are right
--     step_right                    the steps, where the bed has none
--     reading_right                 THE LAW: the whole reading
--     fault_right, pairs_right      so the faults of steps and the pairs of walks are the bundle's
use mathlib.Core.Path.{◌≡◌, refl, sym, ap, ◌∙◌, fun_ext}
use mathlib.Core.Bool.{Bool, true, false, not, ◌||◌}
use mathlib.Core.List.{List, append-nil}
use Prim.Native.Nat.{ℕ, ◌+◌, ◌*◌, ◌-◌, ◌/◌, ◌≤◌, ◌<◌}
use native.Mathlib.Omega.{arith}
use native.Mathlib.Nat.{mul-le-mul_left}
use native.Mathlib.Decide.{ℕ_discrete, dec_le}
use lib.ListN.{length}
use borrow.Author.Tests.{le-leb, lt-leb}
use Rattle.bundle.specs.Bundle.{Bundle, no_term, no_context, term_of, context_of, step_of}
use Rattle.bundle.specs.File.{tab}
use Rattle.bundle.specs.Lists.{numbers}
use Rattle.bundle.proofs.Tab.{at_none}
use Rattle.logic.specs.declared.Mention.{Mention}
use Rattle.logic.specs.declared.Image.TheVariants.{Own}
use Rattle.logic.specs.Table.{table, below}
use Rattle.logic.specs.Free.{free_by, free_at, nothing_free}
use Rattle.logic.specs.Tests.{up_to}
use Rattle.logic.specs.Contexts.{image, found, as_image, moved_by, moved, settled_for, settled, mentioned_by, mentioned, in_scope}
use Rattle.logic.specs.Rules.{step_fault_by, step_fault, pairs_by, walked_pairs}
use Rattle.logic.specs.Readings.{Reading, reading_of}
use Rattle.logic.proofs.Tables.{table_below}
use Rattle.logic.proofs.Tests.{numbers_in, up_to_all}
use Rattle.logic.proofs.Found.{image_found, found_none}
use Rattle.free_variables.specs.TermSets.{TermSets, Words, free_in, settled_in, in_scope_in, moved_at, mentioned_at}
use Rattle.free_variables.specs.FreeSets.{FreeSets}
use Rattle.images.specs.ContextRows.{Scopes}
use Rattle.images.specs.LentReading.{Known, step_in, mentions_in, images_in, all_settled_in, all_in_scope_in, reading_in, Right}
use Rattle.free_variables.proofs.FreeWords.{numbers_past}
use Rattle.images.proofs.ContextRows.{scopes_few, apart_settled, subset_in_scope}

-- ---- numbers that are no record's

nothing_free_lem : (b : Bundle) (t : ℕ) → term_of b t ≡ no_term → free_at b t ≡ nothing_free
unfolding free_at free_by
nothing_free_lem b t e =
    table_below (free_by b) nothing_free no_term (λ g. refl) b.terms t
    ∙ ap (free_by b (below nothing_free t (table (free_by b) nothing_free b.terms))) e

settled_none : (b : Bundle) (context t : ℕ) → term_of b t ≡ no_term → settled b context t ≡ true
unfolding settled settled_for
settled_none b context t e =
    rw (nothing_free_lem b t e) (up_to_all (length b.variables) (λ x. not (nothing_free x) || not (moved b context x)) (λ x p q. refl))

scope_none : (b : Bundle) (context t : ℕ) → term_of b t ≡ no_term → in_scope b context t ≡ true
unfolding in_scope
scope_none b context t e =
    rw (nothing_free_lem b t e) (up_to_all (length b.variables) (λ x. not (nothing_free x) || mentioned b context x) (λ x p q. refl))

own_image_lem : (b : Bundle) (k x : ℕ) → context_of b k ≡ no_context → image b k x ≡ Own
unfolding as_image
own_image_lem b k x e = image_found b k x ∙ ap (λ (f : ℕ → Mention). as_image (f x)) (found_none b k e)

all_settled : (b : Bundle) (k t : ℕ) → context_of b k ≡ no_context → settled b k t ≡ true
unfolding settled settled_for moved moved_by
all_settled b k t e = up_to_all (length b.variables) (λ x. not (free_at b t x) || not (moved b k x)) (λ x p q. rw (own_image_lem b k x e) (go (free_at b t x)))
  where
    go : (p : Bool) → (not p || true) ≡ true
    go true = refl
    go false = refl

-- nothing is mentioned
not_mentioned : (b : Bundle) (k x : ℕ) → context_of b k ≡ no_context → mentioned b k x ≡ false
unfolding mentioned mentioned_by
not_mentioned b k x e = ap (λ (f : ℕ → Mention). mentioned_by (f x)) (found_none b k e)

or_neither : (p : Bool) {q : Bool} → q ≡ false → (p || q) ≡ p
or_neither true e = refl
or_neither false e = e

-- ---- a bed that is shorter than a step has none

pub step_right : (b : Bundle) (bed : List ℕ) → length bed < 5 → (p : ℕ) → step_in b bed p ≡ step_of b p
unfolding step_in tab
step_right b bed short p =
    let none : length bed / 5 ≡ 0 = omega arith in
    rw (none, append-nil)

-- ---- the readings

-- a number is that of a term, or of none
by_term : {A : Type 0} (s : TermSets) (t : ℕ) → (numbers (length s.bundle.terms) t ≡ false → term_of s.bundle t ≡ no_term → A)
    → (numbers (length s.bundle.terms) t ≡ true → 1 ≤ t → t ≤ length s.bundle.terms → A) → A
by_term {A} s t none some = go (ℕ_discrete t 0) (dec_le t last)
  where
    last : ℕ
    last = length s.bundle.terms

    go : Dec (t ≡ 0) → Dec (t ≤ last) → A
    go (yes q) d = none (rw q) (rw q)
    go (no q) (yes l) = some (numbers_in last t (omega arith) l) (omega arith) l
    go (no q) (no l) = none (numbers_past last t (omega arith)) (at_none no_term s.bundle.terms t (omega arith))

module _ (s : TermSets) (sets : FreeSets s) where
  pub free_right : (t v : ℕ) → free_in s t v ≡ free_at s.bundle t v
  unfolding free_in
  free_right t v = by_term s t
      (λ out none. rw (out, nothing_free_lem s.bundle t none))
      (λ inside one few. rw inside (sets.same t v one few))

  module _ (words : Words s.words) (m : List ℕ) where
    pub settled_right : (k t : ℕ) → Scopes s.bundle m s.n (k + 1) → settled_in s m (moved_at s.n k) t ≡ settled s.bundle k t
    unfolding settled_in
    settled_right k t scopes = by_term s t
        (λ out none. rw (out, settled_none s.bundle k t none))
        (λ inside one few. rw inside
        (apart_settled s.bundle s.words m (s.n * (t - 1)) s.n k t (λ v. sets.same t v one few) scopes (λ j. words (s.n * (t - 1) + j))))

    scope_right : (k t : ℕ) → Scopes s.bundle m s.n (k + 1) → in_scope_in s m (mentioned_at s.n k) t ≡ in_scope s.bundle k t
    unfolding in_scope_in
    scope_right k t scopes = by_term s t
        (λ out none. rw (out, scope_none s.bundle k t none))
        (λ inside one few. rw inside
        (subset_in_scope s.bundle s.words m (s.n * (t - 1)) s.n k t (λ v. sets.same t v one few) scopes (λ j. words (s.n * (t - 1) + j))))

module _ (known : Known) (right : Right known) (words : Words known.sets.words) where
  abbrev b : Bundle
  b = known.sets.bundle

  no_context_lem : (k : ℕ) → (k ≤ length b.contexts → ⊥) → context_of b k ≡ no_context
  no_context_lem k l = at_none no_context b.contexts k (omega arith)

  all_mentions : (k x : ℕ) → mentions_in b known.images k x ≡ found b k x
  all_mentions k x = go (dec_le k (length b.contexts))
    where
      go : Dec (k ≤ length b.contexts) → mentions_in b known.images k x ≡ found b k x
      go (yes l) = rw (le-leb k (length b.contexts) l) (right.images.same k x (omega arith))
      go (no l) = rw (lt-leb k (length b.contexts) (omega arith), found_none b k (no_context_lem k l))

  pub all_images : (k x : ℕ) → images_in b known.images k x ≡ image b k x
  all_images k x = ap as_image (all_mentions k x) ∙ sym (image_found b k x)

  few_scopes : (k : ℕ) → k ≤ length b.contexts → Scopes b known.scopes known.sets.n (k + 1)
  few_scopes k l =
      scopes_few b known.scopes known.sets.n (length b.contexts + 1) (k + 1) (omega arith) (mul-le-mul_left known.sets.n (omega arith)) right.scopes

  pub all_settleds : (k t : ℕ) → all_settled_in known.sets known.scopes k t ≡ settled b k t
  all_settleds k t = go (dec_le k (length b.contexts))
    where
      go : Dec (k ≤ length b.contexts) → all_settled_in known.sets known.scopes k t ≡ settled b k t
      go (yes l) = rw (le-leb k (length b.contexts) l) (settled_right known.sets right.free words known.scopes k t (few_scopes k l))
      go (no l) = rw (lt-leb k (length b.contexts) (omega arith), all_settled b k t (no_context_lem k l))

  pub all_in_scope : (k t : ℕ) → all_in_scope_in known.sets known.scopes k t ≡ in_scope b k t
  unfolding all_in_scope_in in_scope
  all_in_scope k t = go (dec_le k (length b.contexts))
    where
      go : Dec (k ≤ length b.contexts) → all_in_scope_in known.sets known.scopes k t ≡ in_scope b k t
      go (yes l) = rw (le-leb k (length b.contexts) l) (scope_right known.sets right.free words known.scopes k t (few_scopes k l))
      go (no l) =
          rw (lt-leb k (length b.contexts) (omega arith))
          (ap (up_to (length b.variables)) (fun_ext (λ x. ap not (free_right known.sets right.free t x)
          ∙ sym (or_neither (not (free_at b t x)) (not_mentioned b k x (no_context_lem k l))))))

  module _ (bed : List ℕ) (short : length bed < 5) where
    pub reading_right : reading_in known bed ≡ reading_of b
    unfolding reading_in
    reading_right = λ i. record {
      free = fun_ext (λ t. fun_ext (free_right known.sets right.free t)) i;
      image = fun_ext (λ k. fun_ext (all_images k)) i;
      settled = fun_ext (λ k. fun_ext (all_settleds k)) i;
      in_scope = fun_ext (λ k. fun_ext (all_in_scope k)) i;
      step = fun_ext (step_right b bed short) i;
    }

    -- what is wrong with step k, in the words of the code and in those of the bundle
    pub fault_right : (k : ℕ) → step_fault_by (reading_in known bed) b (k - 1) (step_of b k) ≡ step_fault b k
    unfolding step_fault
    fault_right k = ap (λ (g : Reading). step_fault_by g b (k - 1) (step_of b k)) reading_right

    -- the pairs that its walk visits
    pub pairs_right : (k : ℕ) → pairs_by (reading_in known bed) b (step_of b k) ≡ walked_pairs b k
    unfolding walked_pairs
    pairs_right k = ap (λ (g : Reading). pairs_by g b (step_of b k)) reading_right
