-- Laws of the table of images and of the sets of moved and of mentioned variables.
--     scopes_few                             what holds for contexts below c holds for fewer
--     mention_zero, mention_past, mention_some     a place of a row, and numbers that have none
--     as_absent, as_fixed, as_replaced       what a place says
--     images_none, scopes_none               zeros are what is known of the empty context
--     untouched_trans                        what stays while one context is written
--     row_kept, moves_kept, mentions_kept    so the rows and sets of lower contexts do
--     entered_place                          one place written
--     told_place                             what is written says something
--     Replacing, replacing_on                a list of variables replaced, side by side with a list of terms
--     moved_inside                           only variables that there are can be moved
--     inherited, agrees_copied               the row and the sets of the parent
--     rows_on                                with the entry written over them, they are the context's own
--     apart_settled, subset_in_scope         a term is settled where its free set and the moved set have nothing in common; in scope where its free set is a
--                                            subset of that of the mentioned variables
use mathlib.Core.Path.{◌≡◌, refl, sym, ap, ◌∙◌}
use mathlib.Core.Bool.{Bool, true, false, cond, not, ◌&&◌, ◌||◌, false≢true}
use mathlib.Core.Logic.{◌⊎◌, inl, inr}
use mathlib.Core.List.{List, [], ◌∷◌}
use Prim.Native.Nat.{ℕ, ◌+◌, ◌*◌, ◌-◌, ◌/◌, ◌%◌, ◌^◌, ◌≤◌, ◌<◌}
use native.Mathlib.Omega.{arith}
use native.Mathlib.Decide.{ℕ_discrete, dec_le}
use lib.ListN.{length, get_or, set, replicate, length-set, length-replicate}
use lib.Seq.{get_or-set_same, get_or-set_other}
use lib.Dec.{eqb}
use borrow.Author.Tests.{eq-eqb, ne_eqb}
use Rattle.std.specs.List.{CopiedTo, SameBelow}
use Rattle.std.specs.Cmp.{both_ways}
use Rattle.std.proofs.lemmas.Nat.{column_fits}
use Rattle.bundle.proofs.LinkNotes.{zeros}
use Rattle.bundle.specs.Bundle.{Bundle}
use Rattle.bundle.specs.Lists.{numbers, has, different}
use Rattle.sets.specs.Sets.{bit_at, holds, member, with_bit, without_bit, inserted, removed, disjoint_of, subset_of}
use Rattle.sets.proofs.Digits.{bit_none}
use Rattle.sets.proofs.Members.{holds_small, member_inserted, member_removed, member_same, member_moved, changed_length, changed_out}
use Rattle.sets.proofs.Members.{disjoint_none, none_disjoint}
use Rattle.sets.proofs.Subsets.{subset_member, member_subset}
use Rattle.logic.specs.declared.Mention.{Mention}
use Rattle.logic.specs.declared.Mention.TheVariants.{Fixed, Replaced, Absent}
use Rattle.logic.specs.declared.Image.{Image}
use Rattle.logic.specs.Tests.{up_to}
use Rattle.logic.specs.Free.{free_at}
use Rattle.logic.specs.Contexts.{lookup, or_above, found, as_image, moved_by, moved, settled_for, settled, mentioned_by, mentioned, in_scope}
use Rattle.logic.proofs.Found.{image_found, found_empty}
use Rattle.logic.proofs.Trees.{free_known}
use Rattle.logic.proofs.Tests.{numbers_in, numbers_of_lem, and_left, and_right, up_to_lem, up_to_all}
use Rattle.free_variables.specs.TermSets.{moved_at, mentioned_at}
use Rattle.free_variables.proofs.FreeWords.{numbers_past}
use Rattle.images.specs.ContextRows.{fixed_place, as_mention, mention_at, mention_in, Images, Scopes, Rows, RowRoom, Untouched, SetsCopied, Agrees, Entered}

pub scopes_few : (b : Bundle) (m : List ℕ) (n c d : ℕ) → d ≤ c → n * d ≤ n * c → Scopes b m n c → Scopes b m n d
scopes_few b m n c d h g i = record {
  long = omega (arith, i.long);
  moves = λ k x l. i.moves k x (omega arith);
  mentions = λ k x l. i.mentions k x (omega arith);
  few = λ k x l. i.few k x (omega arith);
}

-- ---- a place of a row

module _ (variables : ℕ) (w : List ℕ) (k x : ℕ) where
  pub mention_zero : x ≡ 0 → mention_at variables w k x ≡ Absent
  unfolding mention_at
  mention_zero e = rw e

  pub mention_past : variables < x → mention_at variables w k x ≡ Absent
  unfolding mention_at
  mention_past h = rw (numbers_past variables x h)

  pub mention_some : 1 ≤ x → x ≤ variables → {t : ℕ} → t ≡ get_or w (variables * k + (x - 1)) 0 → mention_at variables w k x ≡ as_mention t
  unfolding mention_at
  mention_some one few e = rw (numbers_in variables x one few, e)

module _ (t : ℕ) where
  pub as_absent : t ≡ 0 → as_mention t ≡ Absent
  unfolding as_mention
  as_absent e = rw e

  pub as_fixed : t ≡ fixed_place → as_mention t ≡ Fixed
  unfolding as_mention
  as_fixed e = rw e

  pub as_replaced : (t ≡ 0 → ⊥) → (t ≡ fixed_place → ⊥) → as_mention t ≡ Replaced t
  unfolding as_mention
  as_replaced some ne = rw (ne_eqb t 0 some, ne_eqb t fixed_place ne)

-- whether a variable is moved, from what is found of it
moved_found : (b : Bundle) (k x : ℕ) → moved b k x ≡ moved_by b (as_image (found b k x)) x
unfolding moved
moved_found b k x = ap (λ (i : Image). moved_by b i x) (image_found b k x)

-- two tables that have the same place for x
same_place : (b : Bundle) (w v : List ℕ) (k j x : ℕ) → (1 ≤ x → x ≤ length b.variables → get_or w (length b.variables * k + (x - 1)) 0 ≡ get_or v (length b.variables * j + (x - 1)) 0)
    → mention_in b w k x ≡ mention_in b v j x
unfolding mention_at
same_place b w v k j x same = go (numbers (length b.variables) x) refl
  where
    go : (p : Bool) → numbers (length b.variables) x ≡ p → cond p (as_mention (get_or w (length b.variables * k + (x - 1)) 0)) Absent ≡ cond p
        (as_mention (get_or v (length b.variables * j + (x - 1)) 0)) Absent
    go true e = let h = numbers_of_lem (length b.variables) x e in ap as_mention (same h.0 h.1)
    go false e = refl

pub images_none : (b : Bundle) (m : ℕ) → length b.variables ≤ m → Images b (replicate m 0) 1
unfolding mention_at
images_none b m h = record {
  long = omega (arith, length-replicate {A = ℕ} m 0);
  same = λ k x l. let z : k ≡ 0 = omega arith in rw z (go x (numbers (length b.variables) x) ∙ sym (found_empty b x));
}
  where
    go : (x : ℕ) (p : Bool) → cond p (as_mention (get_or (replicate m 0) (length b.variables * 0 + (x - 1)) 0)) Absent ≡ Absent
    go x true = as_absent (get_or (replicate m 0) (length b.variables * 0 + (x - 1)) 0) ((zeros m).zero (length b.variables * 0 + (x - 1)))
    go x false = refl

pub scopes_none : (b : Bundle) (n m : ℕ) → 2 * n ≤ m → Scopes b (replicate m 0) n 1
unfolding member moved_by mentioned mentioned_by as_image
scopes_none b n m h = record {
  long = omega (arith, length-replicate {A = ℕ} m 0);
  moves = λ k x l. let z : k ≡ 0 = omega arith in rw z (go (moved_at n 0) x (holds n x) ∙ sym (still x));
  mentions = λ k x l. let z : k ≡ 0 = omega arith in rw z (go (mentioned_at n 0) x (holds n x) ∙ sym (ap mentioned_by (found_empty b x)));
  few = λ k x l e. let z : k ≡ 0 = omega arith in absurd (false≢true (sym (still x) ∙ (rw z at e)));
}
  where
    still : (x : ℕ) → moved b 0 x ≡ false
    still x = moved_found b 0 x ∙ ap (λ (m : Mention). moved_by b (as_image m) x) (found_empty b x)

    go : (at x : ℕ) (p : Bool) → cond p (bit_at (get_or (replicate m 0) (at + (x - 1) / 64) 0) ((x - 1) % 64)) false ≡ false
    go at x true = ap (λ (y : ℕ). bit_at y ((x - 1) % 64)) ((zeros m).zero (at + (x - 1) / 64)) ∙ bit_none ((x - 1) % 64)
    go at x false = refl

-- the row of k copied from that of j
row_copied : (b : Bundle) (w v : List ℕ) (k j count : ℕ) → length b.variables ≡ count
    → ((y : ℕ) → y < count → get_or w (count * k + y) 0 ≡ get_or v (count * j + y) 0) → (x : ℕ) → mention_in b w k x ≡ mention_in b v j x
row_copied b w v k j count e same x = same_place b w v k j x (λ one few. rw e (same (x - 1) (omega (arith, e))))

-- ---- what stays

pub untouched_trans : (r r' r'' : Rows) (k : ℕ) → Untouched r r' k → Untouched r' r'' k → Untouched r r'' k
untouched_trans r r' r'' k p q = record {
  bundle = q.bundle ∙ p.bundle;
  n = q.n ∙ p.n;
  long_row = q.long_row ∙ p.long_row;
  long_set = q.long_set ∙ p.long_set;
  row = λ j h. q.row j (rw p.bundle h) ∙ p.row j h;
  words = λ j h. q.words j (rw p.n h) ∙ p.words j h;
}

module _ (r r' : Rows) (k : ℕ) (kept : Untouched r r' k) where
  pub room_on : RowRoom r k → RowRoom r' k
  room_on room = record { row = rw kept.bundle (omega (arith, room.row, kept.long_row)); words = rw kept.n (omega (arith, room.words, kept.long_set)) }

  pub row_kept : (j x : ℕ) → j < k → mention_in r.bundle r'.images j x ≡ mention_in r.bundle r.images j x
  row_kept j x h =
      let last : ℕ = length r.bundle.variables in
      same_place r.bundle r'.images r.images j j x (λ one low. kept.row (last * j + (x - 1)) (omega (arith, column_fits last j last k h (omega arith))))

  -- both sets of context j stand below those of context k
  set_kept : (at : ℕ) → at + r.n ≤ 2 * r.n * k → (x : ℕ) → member r'.scopes at r.n x ≡ member r.scopes at r.n x
  set_kept at fits x = member_same r'.scopes r.scopes at r.n (λ i l. kept.words (at + i) (omega (arith, fits))) x

  pub moves_kept : (j x : ℕ) → j < k → member r'.scopes (moved_at r.n j) r.n x ≡ member r.scopes (moved_at r.n j) r.n x
  moves_kept j x h = set_kept (moved_at r.n j) (omega (arith, column_fits r.n j r.n k h (omega arith))) x

  pub mentions_kept : (j x : ℕ) → j < k → member r'.scopes (mentioned_at r.n j) r.n x ≡ member r.scopes (mentioned_at r.n j) r.n x
  mentions_kept j x h = set_kept (mentioned_at r.n j) (omega (arith, column_fits r.n j r.n k h (omega arith))) x

-- ---- one place written

abbrev pub with_words : Rows → List ℕ → List ℕ → Rows
with_words r w m = record { bundle = r.bundle; images = w; scopes = m; n = r.n }

module _ (r : Rows) (k x t : ℕ) (one : 1 ≤ x) (few : x ≤ length r.bundle.variables) (room : RowRoom r k) where
  abbrev place : ℕ
  place = length r.bundle.variables * k + (x - 1)

  mention_set : (y : ℕ) → mention_in r.bundle (set r.images place t) k y ≡ cond (eqb x y) (as_mention t) (mention_in r.bundle r.images k y)
  mention_set y = go (ℕ_discrete x y)
    where
      last : ℕ
      last = length r.bundle.variables

      go : Dec (x ≡ y) → mention_in r.bundle (set r.images place t) k y ≡ cond (eqb x y) (as_mention t) (mention_in r.bundle r.images k y)
      go (yes q) =
          rw (eq-eqb x y q, ← q)
          (mention_some (length r.bundle.variables) (set r.images place t) k x one few (sym (get_or-set_same r.images place t 0 (omega (arith, room.row)))))
      go (no q) =
          rw (ne_eqb x y q)
          (same_place r.bundle (set r.images place t) r.images k k y (λ first low. get_or-set_other r.images place (length r.bundle.variables * k + (y - 1)) t 0 (λ z. q (omega arith))))

  module _ (m₁ m' : List ℕ) (bits : length r.bundle.variables ≤ 64 * r.n) (agrees : Agrees r k) (moves : Bool)
      (same : moves ≡ moved_by r.bundle (as_image (as_mention t)) x) (told : mentioned_by (as_mention t) ≡ true) where
    held : holds r.n x ≡ true
    held = holds_small r.n x one (omega arith)

    -- the sets as the code leaves them
    abbrev with_mention : List ℕ
    with_mention = inserted r.scopes (mentioned_at r.n k) r.n x

    abbrev left_set : Bool → List ℕ
    left_set p = cond p (inserted with_mention (moved_at r.n k) r.n x) (removed with_mention (moved_at r.n k) r.n x)

    mention_long : length with_mention ≡ length r.scopes
    mention_long = changed_length with_bit r.scopes (mentioned_at r.n k) r.n x

    fits : moved_at r.n k + r.n ≤ length with_mention
    fits = omega (arith, room.words, mention_long)

    -- the moved set is written after the other, and stands apart from it
    before : (y : ℕ) → member with_mention (moved_at r.n k) r.n y ≡ member r.scopes (moved_at r.n k) r.n y
    before y =
        member_same with_mention r.scopes (moved_at r.n k) r.n
        (λ i l. changed_out with_bit r.scopes (mentioned_at r.n k) r.n x (moved_at r.n k + i) (inl (omega arith))) y

    in_set : (p : Bool) (y : ℕ) → member (left_set p) (moved_at r.n k) r.n y ≡ cond (eqb y x) p (member r.scopes (moved_at r.n k) r.n y)
    in_set true y = member_inserted with_mention (moved_at r.n k) r.n x fits held y ∙ ap (λ (q : Bool). eqb y x || q) (before y) ∙ go (eqb y x)
      where
        go : (q : Bool) → (q || member r.scopes (moved_at r.n k) r.n y) ≡ cond q true (member r.scopes (moved_at r.n k) r.n y)
        go true = refl
        go false = refl
    in_set false y = member_removed with_mention (moved_at r.n k) r.n x fits held y ∙ ap (λ (q : Bool). not (eqb y x) && q) (before y) ∙ go (eqb y x)
      where
        go : (q : Bool) → (not q && member r.scopes (moved_at r.n k) r.n y) ≡ cond q false (member r.scopes (moved_at r.n k) r.n y)
        go true = refl
        go false = refl

    past : (p : Bool) (j : ℕ) → (j < moved_at r.n k) ⊎ (mentioned_at r.n k ≤ j) → get_or (left_set p) j 0 ≡ get_or with_mention j 0
    past true j h = changed_out with_bit with_mention (moved_at r.n k) r.n x j h
    past false j h = changed_out without_bit with_mention (moved_at r.n k) r.n x j h

    in_mentions : (p : Bool) (y : ℕ) → member (left_set p) (mentioned_at r.n k) r.n y ≡ (eqb y x || member r.scopes (mentioned_at r.n k) r.n y)
    in_mentions p y =
        member_same (left_set p) with_mention (mentioned_at r.n k) r.n (λ i l. past p (mentioned_at r.n k + i) (inr (omega arith))) y
        ∙ member_inserted r.scopes (mentioned_at r.n k) r.n x (omega (arith, room.words)) held y

    set_out : (p : Bool) (j : ℕ) → j < 2 * r.n * k → get_or (left_set p) j 0 ≡ get_or r.scopes j 0
    set_out p j h = past p j (inl h) ∙ changed_out with_bit r.scopes (mentioned_at r.n k) r.n x j (inl (omega arith))

    set_long : (p : Bool) → length (left_set p) ≡ length r.scopes
    set_long true = changed_length with_bit with_mention (moved_at r.n k) r.n x ∙ mention_long
    set_long false = changed_length without_bit with_mention (moved_at r.n k) r.n x ∙ mention_long

    entered_set : m' ≡ left_set moves → Entered r (with_words r (set r.images place t) m') k (λ y m. cond (eqb x y) (as_mention t) m)
    entered_set e = rw e (record {
      lower = record {
        bundle = refl;
        n = refl;
        long_row = length-set r.images place t;
        long_set = set_long moves;
        row = λ j h. get_or-set_other r.images place j t 0 (λ z. omega arith);
        words = set_out moves;
      };
      mentions = mention_set;
      agrees = record {
        moves = λ y. in_set moves y ∙ agree y (ℕ_discrete x y);
        mentions = λ y. in_mentions moves y ∙ tells y (ℕ_discrete x y);
      };
    })
      where
        agree : (y : ℕ) → Dec (x ≡ y)
            → cond (eqb y x) moves (member r.scopes (moved_at r.n k) r.n y) ≡ moved_by r.bundle (as_image (mention_in r.bundle (set r.images place t) k y)) y
        agree y (yes q) = rw (mention_set y, eq-eqb x y q, eq-eqb y x (sym q)) (same ∙ ap (moved_by r.bundle (as_image (as_mention t))) q)
        agree y (no q) = rw (mention_set y, ne_eqb x y q, ne_eqb y x (λ r. q (sym r))) (agrees.moves y)

        tells : (y : ℕ) → Dec (x ≡ y)
            → (eqb y x || member r.scopes (mentioned_at r.n k) r.n y) ≡ mentioned_by (mention_in r.bundle (set r.images place t) k y)
        tells y (yes q) = rw (mention_set y, eq-eqb x y q, eq-eqb y x (sym q)) (sym told)
        tells y (no q) = rw (mention_set y, ne_eqb x y q, ne_eqb y x (λ r. q (sym r))) (agrees.mentions y)

    -- the same of the places as the code has them
    pub entered_place : {p : ℕ} → p ≡ place → m₁ ≡ with_mention
        → m' ≡ cond moves (inserted m₁ (moved_at r.n k) r.n x) (removed m₁ (moved_at r.n k) r.n x)
        → Entered r (with_words r (set r.images p t) m') k (λ y m. cond (eqb x y) (as_mention t) m)
    entered_place q d e = rw q (entered_set (rw d at e))

-- a term's number, or what stands for a fixed variable, says something
pub told_place : (t : ℕ) → 1 ≤ t → mentioned_by (as_mention t) ≡ true
unfolding as_mention mentioned_by
told_place t h = rw (ne_eqb t 0 (λ z. omega arith)) (go (eqb t fixed_place))
  where
    go : (p : Bool) → mentioned_by (cond p Fixed (Replaced t)) ≡ true
    go true = refl
    go false = refl

-- ---- a list of variables replaced

-- a variable that is not in the list is not looked up there
lookup_none : (vs ts : List ℕ) (x : ℕ) → has x vs ≡ false → lookup vs ts x ≡ Absent
unfolding lookup has
lookup_none [] ts x e = refl
lookup_none (v ∷ vs) [] x e = refl
lookup_none (v ∷ vs) (t ∷ ts) x e = go (ℕ_discrete v x) (lookup_none vs ts x)
  where
    tail : (p : Bool) → (p || has x vs) ≡ false → has x vs ≡ false
    tail true f = absurd (false≢true (sym f))
    tail false f = f

    head : (p : Bool) → (p || has x vs) ≡ false → p ≡ false
    head true f = f
    head false f = refl

    go : Dec (v ≡ x) → (has x vs ≡ false → lookup vs ts x ≡ Absent) → cond (eqb v x) (Replaced t) (lookup vs ts x) ≡ Absent
    go (yes q) ih = absurd (false≢true (sym (head (eqb x v) e) ∙ eq-eqb x v (sym q)))
    go (no q) ih = rw (ne_eqb v x q) (ih (tail (eqb x v) e))

not_has : (x : ℕ) (vs : List ℕ) → different (x ∷ vs) ≡ true → has x vs ≡ false
unfolding different
not_has x vs e = go (has x vs) (and_left (not (has x vs)) (different vs) e)
  where
    go : (p : Bool) → not p ≡ true → p ≡ false
    go true f = absurd (false≢true f)
    go false f = refl

pub different_rest : (x : ℕ) (vs : List ℕ) → different (x ∷ vs) ≡ true → different vs ≡ true
unfolding different
different_rest x vs e = and_right (not (has x vs)) (different vs) e

-- what is left to replace, over the row so far, makes up the whole: one turn
pub replacing_on : (x t : ℕ) (vs ts : List ℕ) (old new : ℕ → Mention) → different (x ∷ vs) ≡ true → as_mention t ≡ Replaced t
    → ((y : ℕ) → new y ≡ cond (eqb x y) (as_mention t) (old y)) → (y : ℕ) → or_above (lookup vs ts y) (new y) ≡ or_above (lookup (x ∷ vs) (t ∷ ts) y) (old y)
unfolding lookup or_above
replacing_on x t vs ts old new diff some set y = go (ℕ_discrete x y)
  where
    go : Dec (x ≡ y) → or_above (lookup vs ts y) (new y) ≡ or_above (cond (eqb x y) (Replaced t) (lookup vs ts y)) (old y)
    go (yes q) =
        rw (set y, eq-eqb x y q, some)
        (ap (λ (m : Mention). or_above m (Replaced t)) (lookup_none vs ts y (ap (λ (z : ℕ). has z vs) (sym q) ∙ not_has x vs diff)))
    go (no q) = rw (set y, ne_eqb x y q)

-- ---- moved variables

pub moved_inside : (b : Bundle) (w : List ℕ) (k x : ℕ) → mention_in b w k x ≡ found b k x → moved b k x ≡ true → (1 ≤ x) × (x ≤ length b.variables)
unfolding moved_by as_image
moved_inside b w k x same e = go (ℕ_discrete x 0) (dec_le x (length b.variables))
  where
    never : {A : Type 0} → mention_in b w k x ≡ Absent → A
    never none = absurd (false≢true (sym (moved_found b k x ∙ ap (λ (m : Mention). moved_by b (as_image m) x) (sym same ∙ none)) ∙ e))

    go : Dec (x ≡ 0) → Dec (x ≤ length b.variables) → (1 ≤ x) × (x ≤ length b.variables)
    go (yes q) d = never (mention_zero (length b.variables) w k x q)
    go (no q) (yes l) = (omega arith, l)
    go (no q) (no l) = never (mention_past (length b.variables) w k x (omega arith))

-- ---- a context: the row and the sets of its parent, then its own entry

-- both sets of context k are words that were those of context p
sets_copied : (m m' : List ℕ) (n k p : ℕ) → ((i : ℕ) → i < 2 * n → get_or m' (2 * n * k + i) 0 ≡ get_or m (2 * n * p + i) 0) → SetsCopied m m' n k p
sets_copied m m' n k p word = record {
  moves = λ x. member_moved m' m (moved_at n k) (moved_at n p) n (λ i l. word i (omega arith)) x;
  mentions =
      λ x. member_moved m' m (mentioned_at n k) (mentioned_at n p) n
      (λ i l.
      let to : mentioned_at n k + i ≡ 2 * n * k + (n + i) = omega arith in
      let from : mentioned_at n p + i ≡ 2 * n * p + (n + i) = omega arith in
      rw (to, from) (word (n + i) (omega arith))) x;
}

-- `count` places from `from` on were copied to `to`
copied_place : (w v : List ℕ) (from to count : ℕ) → CopiedTo w v from to count → (i : ℕ) → i < count → get_or v (to + i) 0 ≡ get_or w (from + i) 0
copied_place w v from to count copied i l =
    let e : to + i - to ≡ i = omega arith in
    rw e at (copied (to + i) 0 (omega arith) (omega arith))

module _ (r : Rows) (w' m' : List ℕ) (k p : ℕ) where
  pub inherited : {row : ℕ} → row ≡ length r.bundle.variables
      → (length w' ≡ length r.images) × CopiedTo r.images w' (row * p) (row * k) row × SameBelow r.images w' (row * k)
      → (length m' ≡ length r.scopes) × CopiedTo r.scopes m' (2 * r.n * p) (2 * r.n * k) (2 * r.n) × SameBelow r.scopes m' (2 * r.n * k)
      → Untouched r (with_words r w' m') k × ((x : ℕ) → mention_in r.bundle w' k x ≡ mention_in r.bundle r.images p x) × SetsCopied r.scopes m' r.n k p
  inherited {row} e images sets = (
    record {
      bundle = refl;
      n = refl;
      long_row = images.0;
      long_set = sets.0;
      row = λ j h. images.2 j 0 (rw e h);
      words = λ j h. sets.2 j 0 h;
    },
    row_copied r.bundle w' r.images k p row (sym e) (copied_place r.images w' (row * p) (row * k) row images.1),
    sets_copied r.scopes m' r.n k p (copied_place r.scopes m' (2 * r.n * p) (2 * r.n * k) (2 * r.n) sets.1),
  )

module _ (r r' : Rows) (k p : ℕ) (lower : p < k) (images : Images r.bundle r.images k) (sets : Scopes r.bundle r.scopes r.n k)
    (kept : Untouched r r' k) (copied : (x : ℕ) → mention_in r.bundle r'.images k x ≡ mention_in r.bundle r.images p x) where
  pub agrees_copied : SetsCopied r.scopes r'.scopes r.n k p → Agrees r' k
  unfolding mentioned
  agrees_copied same = rw (kept.bundle, kept.n) (record {
    moves = λ x. same.moves x ∙ sets.moves p x lower ∙ moved_found r.bundle p x ∙ ap (λ (m : Mention). moved_by r.bundle (as_image m) x) (row x);
    mentions = λ x. same.mentions x ∙ sets.mentions p x lower ∙ ap mentioned_by (row x);
  })
    where
      row : (x : ℕ) → found r.bundle p x ≡ mention_in r.bundle r'.images k x
      row x = sym (copied x ∙ images.same p x lower)

  module _ (r'' : Rows) (room : RowRoom r k) (f : ℕ → Mention → Mention)
      (entered : Entered r' r'' k f) (own : (x : ℕ) → f x (found r.bundle p x) ≡ found r.bundle k x) where
    pub all_kept : Untouched r r'' k
    all_kept = untouched_trans r r' r'' k kept entered.lower

    here : (x : ℕ) → mention_in r.bundle r''.images k x ≡ found r.bundle k x
    here x = (rw kept.bundle at (entered.mentions x)) ∙ ap (f x) (copied x ∙ images.same p x lower) ∙ own x

    images_on : Images r.bundle r''.images (k + 1)
    images_on = record { long = omega (arith, room.row, all_kept.long_row); same = λ j x h. go j x (ℕ_discrete j k) h }
      where
        go : (j x : ℕ) → Dec (j ≡ k) → j < k + 1 → mention_in r.bundle r''.images j x ≡ found r.bundle j x
        go j x (yes q) h = rw q (here x)
        go j x (no q) h = row_kept r r'' k all_kept j x (omega arith) ∙ images.same j x (omega arith)

    -- the sets of context k agree with its row
    agrees : ((x : ℕ) → member r''.scopes (moved_at r.n k) r.n x ≡ moved_by r.bundle (as_image (mention_in r.bundle r''.images k x)) x)
        × ((x : ℕ) → member r''.scopes (mentioned_at r.n k) r.n x ≡ mentioned_by (mention_in r.bundle r''.images k x))
    agrees = (
      (λ x. rw (all_kept.bundle, all_kept.n) at (entered.agrees.moves x)),
      (λ x. rw (all_kept.bundle, all_kept.n) at (entered.agrees.mentions x)),
    )

    sets_on : Scopes r.bundle r''.scopes r.n (k + 1)
    unfolding mentioned
    sets_on = record {
      long = omega (arith, room.words, all_kept.long_set, distrib r.n k);
      moves = λ j x h. go j x (ℕ_discrete j k) h;
      mentions = λ j x h. told j x (ℕ_discrete j k) h;
      few = λ j x h. inside j x (ℕ_discrete j k) h;
    }
      where
        distrib : (n k : ℕ) → 2 * n * (k + 1) ≡ 2 * n * k + 2 * n
        distrib n k = omega arith

        go : (j x : ℕ) → Dec (j ≡ k) → j < k + 1 → member r''.scopes (moved_at r.n j) r.n x ≡ moved r.bundle j x
        go j x (yes q) h =
            rw q (agrees.0 x ∙ ap (λ (m : Mention). moved_by r.bundle (as_image m) x) (here x) ∙ sym (moved_found r.bundle k x))
        go j x (no q) h = moves_kept r r'' k all_kept j x (omega arith) ∙ sets.moves j x (omega arith)

        told : (j x : ℕ) → Dec (j ≡ k) → j < k + 1 → member r''.scopes (mentioned_at r.n j) r.n x ≡ mentioned_by (found r.bundle j x)
        told j x (yes q) h = rw q (agrees.1 x ∙ ap mentioned_by (here x))
        told j x (no q) h = mentions_kept r r'' k all_kept j x (omega arith) ∙ sets.mentions j x (omega arith)

        inside : (j x : ℕ) → Dec (j ≡ k) → j < k + 1 → moved r.bundle j x ≡ true → (1 ≤ x) × (x ≤ length r.bundle.variables)
        inside j x (yes q) h e = moved_inside r.bundle r''.images k x (here x) (rw q at e)
        inside j x (no q) h e = sets.few j x (omega arith) e

    pub rows_on : Images r.bundle r''.images (k + 1) × Scopes r.bundle r''.scopes r.n (k + 1)
    rows_on = (images_on, sets_on)

-- ---- settled terms, and terms in scope

module _ (b : Bundle) (w m : List ℕ) (at n k t : ℕ) (free : (x : ℕ) → member w at n x ≡ free_at b t x) (sets : Scopes b m n (k + 1))
    (words : (j : ℕ) → get_or w (at + j) 0 < 2 ^ 64) where
  pub apart_settled : disjoint_of w at m (moved_at n k) n ≡ settled b k t
  unfolding settled settled_for
  apart_settled =
      both_ways (disjoint_of w at m (moved_at n k) n) (settled b k t)
      (λ e. up_to_all (length b.variables) (λ x. not (free_at b t x) || not (moved b k x))
      (λ x one few. apart (free_at b t x) (moved b k x) (rw (← free x, ← sets.moves k x (omega arith)) (disjoint_none w at m (moved_at n k) n e x))))
      (λ e. none_disjoint w at m (moved_at n k) n words (λ u. rw (free u, sets.moves k u (omega arith)) (common e u (free_at b t u) refl (moved b k u) refl)))
    where
      apart : (p q : Bool) → (p && q) ≡ false → (not p || not q) ≡ true
      apart true true e = absurd (false≢true (sym e))
      apart true false e = refl
      apart false q e = refl

      common : up_to (length b.variables) (λ x. not (free_at b t x) || not (moved b k x)) ≡ true → (u : ℕ) → (p : Bool) → free_at b t u ≡ p → (q : Bool)
          → moved b k u ≡ q → (p && q) ≡ false
      common e u true d true f =
          let h = sets.few k u (omega arith) f in
          absurd (false≢true (rw (d, f) at (up_to_lem (length b.variables) (λ x. not (free_at b t x) || not (moved b k x)) e u h.0 h.1)))
      common e u true d false f = refl
      common e u false d q f = refl

  pub subset_in_scope : subset_of w at m (mentioned_at n k) n ≡ in_scope b k t
  unfolding in_scope
  subset_in_scope =
      both_ways (subset_of w at m (mentioned_at n k) n) (in_scope b k t)
      (λ e. up_to_all (length b.variables) here
      (λ x one few. or_of (free_at b t x) (mentioned b k x) (λ f. sym (sets.mentions k x (omega arith)) ∙ subset_member w at m (mentioned_at n k) n e x (free x ∙ f))))
      (λ e. member_subset w at m (mentioned_at n k) n words (λ u h. sets.mentions k u (omega arith) ∙ stands e u (sym (free u) ∙ h)))
    where
      here : ℕ → Bool
      here x = not (free_at b t x) || mentioned b k x

      or_of : (p q : Bool) → (p ≡ true → q ≡ true) → (not p || q) ≡ true
      or_of true q h = h refl
      or_of false q h = refl

      of_or : (p q : Bool) → (not p || q) ≡ true → p ≡ true → q ≡ true
      of_or true q h e = h
      of_or false q h e = absurd (false≢true e)

      -- a free variable is one of the file's
      stands : up_to (length b.variables) here ≡ true → (u : ℕ) → free_at b t u ≡ true → mentioned b k u ≡ true
      stands e u f =
          let n = numbers_of_lem (length b.variables) u (free_known b t u f) in
          of_or (free_at b t u) (mentioned b k u) (up_to_lem (length b.variables) here e u n.0 n.1) f
