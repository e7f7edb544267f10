-- A REFL step: document 01's two forms, and whole terms.
--     refl_forms                 THE THEOREM: the two forms are capture-avoiding replacements
--     form_exactly               the test of the forms says what they say of trees
--     refl_matches_exactly       a REFL passes 13 exactly where its right side is the replacement of its left side
--     refl_suffices_exactly      it passes 21 exactly where one of the forms takes it or the pairs suffice
use mathlib.Core.Path.{◌≡◌, refl, sym, ap, ◌∙◌, subst}
use Prim.Native.Nat.{ℕ, ◌≤◌}
use mathlib.Core.Bool.{Bool, true, ◌&&◌, ◌||◌}
use mathlib.Core.Logic.{◌⊎◌, inl, inr, ◌↔◌}
use lib.Dec.{eqb, leb}
use borrow.Author.Tests.{eqb-true, eq-eqb, leb-true, le-leb}
use Rattle.std.proofs.lemmas.Bool.{or_cases, and_from, or_left, or_right}
use Rattle.bundle.specs.Bundle.{Bundle, TermRecord, Step, term_of}
use Rattle.logic.specs.declared.Image.{Image}
use Rattle.logic.specs.declared.Image.TheVariants.{Own, Gives}
use Rattle.logic.specs.Terms.{var, tree}
use Rattle.logic.specs.Contexts.{image, tree_of_image, image_tree, settled}
use Rattle.logic.specs.Distinct.{Distinct}
use Rattle.logic.specs.Rules.{is_image, refl_holds, refl_matches, refl_suffices}
use Rattle.logic.specs.WellFormed.{WellFormed}
use Rattle.logic.specs.Replacement.{Replacement}
use Rattle.logic.specs.ReflWalk.{refl_walk, pair_limit}
use Rattle.logic.specs.Instance.{ReflForm}
use Rattle.logic.specs.Statements.{ReflForms}
use Rattle.logic.proofs.Tests.{and_left, and_right}
use Rattle.logic.proofs.FreeSettled.{is_variable_exactly, settled_exactly}
use Rattle.logic.proofs.Formed.{tables_formed_distinct}
use Rattle.logic.proofs.TermNumbers.{IsTerm, same, ImageTerm, image_term_lem}
use Rattle.logic.proofs.ReflExactly.{pair_walk_exactly}
use Rattle.logic.proofs.Replacements.{same_form, image_form}

pub refl_forms : ReflForms
refl_forms b Γ left right (inl (e, h)) = subst (Replacement b (image_tree b Γ) left) e (same_form b Γ left h)
refl_forms b Γ left right (inr (x, l, r)) = rw (l, r) (image_form b (image_tree b Γ) x)

module _ (b : Bundle) (well : WellFormed b) (s : Step) (left : IsTerm b s.left) (right : IsTerm b s.right) where
  abbrev own : Distinct b
  own = tables_formed_distinct b well.tables

  abbrev Form : Type 0
  Form = ReflForm b s.context (tree b s.left) (tree b s.right)

  abbrev same_settled : Bool
  same_settled = eqb s.left s.right && settled b s.context s.left

  abbrev its_image : ℕ → Bool
  its_image x = is_image (image b s.context x) s.left s.right

  abbrev variable_image : Bool
  variable_image = eqb (term_of b s.left).kind 1 && its_image (term_of b s.left).a

  by_image : (x : ℕ) (i : Image) → is_image i s.left s.right ≡ true → tree b s.left ≡ var x → tree b s.right ≡ tree_of_image b i x
  unfolding is_image tree_of_image
  by_image x Own e v = ap (tree b) (sym (eqb-true s.left s.right e)) ∙ v
  by_image x (Gives t) e v = ap (tree b) (sym (eqb-true t s.right e))

  image_by_lem : (x : ℕ) (i : Image) → ImageTerm b i → tree b s.left ≡ var x → tree b s.right ≡ tree_of_image b i x
      → is_image i s.left s.right ≡ true
  unfolding is_image tree_of_image
  image_by_lem x Own h v e = eq-eqb s.left s.right (same b own s.left s.right left right (v ∙ sym e))
  image_by_lem x (Gives t) h v e = eq-eqb t s.right (same b own t s.right h right (sym e))

  pub form_exactly : (refl_holds b s ≡ true) ↔ Form
  unfolding refl_holds image_tree
  form_exactly = (λ e. there (or_cases same_settled variable_image e), back)
    where
      there : (same_settled ≡ true) ⊎ (variable_image ≡ true) → Form
      there (inl e) =
          inl (
            ap (tree b) (eqb-true s.left s.right (and_left (eqb s.left s.right) (settled b s.context s.left) e)),
            (settled_exactly b well.tables s.context s.left).0 (and_right (eqb s.left s.right) (settled b s.context s.left) e),
          )
      there (inr e) =
          let r : TermRecord = term_of b s.left in
          let k : eqb r.kind 1 ≡ true = and_left (eqb r.kind 1) (its_image r.a) e in
          let v : tree b s.left ≡ var r.a =
          (is_variable_exactly b s.left r.a).0 (and_from (eqb r.kind 1) (eqb r.a r.a) k (eq-eqb r.a r.a refl)) in
          inr (r.a, v, by_image r.a (image b s.context r.a) (and_right (eqb r.kind 1) (its_image r.a) e) v)

      back : Form → (same_settled || variable_image) ≡ true
      back (inl (e, h)) =
          or_left same_settled variable_image
          (and_from (eqb s.left s.right) (settled b s.context s.left)
          (eq-eqb s.left s.right (same b own s.left s.right left right e))
          ((settled_exactly b well.tables s.context s.left).1 h))
      back (inr (x, v, e)) =
          let r : TermRecord = term_of b s.left in
          let is : (eqb r.kind 1 && eqb r.a x) ≡ true = (is_variable_exactly b s.left x).1 v in
          let x-is : r.a ≡ x = eqb-true r.a x (and_right (eqb r.kind 1) (eqb r.a x) is) in
          or_right same_settled variable_image
          (and_from (eqb r.kind 1) (its_image r.a) (and_left (eqb r.kind 1) (eqb r.a x) is)
          (ap its_image x-is ∙ image_by_lem x (image b s.context x) (image_term_lem b well s.context x) v e))

  pub refl_matches_exactly : (refl_matches b s ≡ true) ↔ Replacement b (image_tree b s.context) (tree b s.left) (tree b s.right)
  unfolding refl_matches
  refl_matches_exactly = (
    λ e. there (or_cases (refl_holds b s) (refl_walk b s).same e),
    λ h. or_right (refl_holds b s) (refl_walk b s).same ((pair_walk_exactly b well s.context s.left s.right left right).1 h),
  )
    where
      there : (refl_holds b s ≡ true) ⊎ ((refl_walk b s).same ≡ true) → Replacement b (image_tree b s.context) (tree b s.left) (tree b s.right)
      there (inl f) = refl_forms b s.context (tree b s.left) (tree b s.right) (form_exactly.0 f)
      there (inr w) = (pair_walk_exactly b well s.context s.left s.right left right).0 w

  pub refl_suffices_exactly : (refl_suffices b s ≡ true) ↔ (Form ⊎ ((refl_walk b s).pairs ≤ pair_limit))
  unfolding refl_suffices
  refl_suffices_exactly = (λ e. there (or_cases (refl_holds b s) (leb (refl_walk b s).pairs pair_limit) e), back)
    where
      there : (refl_holds b s ≡ true) ⊎ (leb (refl_walk b s).pairs pair_limit ≡ true) → Form ⊎ ((refl_walk b s).pairs ≤ pair_limit)
      there (inl f) = inl (form_exactly.0 f)
      there (inr w) = inr (leb-true (refl_walk b s).pairs pair_limit w)

      back : Form ⊎ ((refl_walk b s).pairs ≤ pair_limit) → (refl_holds b s || leb (refl_walk b s).pairs pair_limit) ≡ true
      back (inl f) = or_left (refl_holds b s) (leb (refl_walk b s).pairs pair_limit) (form_exactly.1 f)
      back (inr w) = or_right (refl_holds b s) (leb (refl_walk b s).pairs pair_limit) (le-leb (refl_walk b s).pairs pair_limit w)
