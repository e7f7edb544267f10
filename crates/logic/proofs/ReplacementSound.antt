-- Soundness of whole-term REFL: a term, seen through a context, has the value of its capture-avoiding replacement, in every world.
--     Agree                     values that variables take left and right below the binders crossed
--     agree_put, agree_assign   so they stay where two binders are crossed
--     meets_value               terms that meet have equal values
--     replacement_sound         THE THEOREM. Nothing is asked of the bundle, nor of the values that the variables take
use mathlib.Core.Path.{◌≡◌, refl, sym, ap, ap₂, ◌∙◌, fun_ext}
use Prim.Native.Nat.{ℕ}
use mathlib.Core.Bool.{Bool, true, false, cond, not, ◌&&◌, ◌||◌, false≢true}
use mathlib.Core.Logic.{inl, inr}
use mathlib.Core.List.{List, [], ◌∷◌, ◌++◌, map}
use lib.Dec.{eqb}
use borrow.Author.Tests.{eqb-true, eqb-false}
use Rattle.bundle.specs.Bundle.{Bundle, sort_of_variable}
use Rattle.bundle.specs.Lists.{has}
use Rattle.logic.specs.Lists.{Among}
use Rattle.logic.specs.Symbols.{kind_of_symbol}
use Rattle.logic.specs.Terms.{Term, Terms, var, app, bind, let_in, none, more}
use Rattle.logic.specs.Contexts.{image_tree}
use Rattle.logic.specs.ReflWalk.{Crossed, lefts, rights, meets}
use Rattle.logic.specs.Values.{Value, truth, truth_of, World, meaning_of, bound_value, put, assign, value, values, seen}
use Rattle.logic.specs.Statements.{ReplacementSound}
use Rattle.logic.proofs.Values.{put_here, put_other, coincide}
use Rattle.logic.proofs.Meets.{zero_one, pair_up, VariableMeets, Meets, MeetsAll, meets_exactly}

module _ {b : Bundle} (w : World b) (σ : ℕ → Term) (ρ₀ : ℕ → Value) where
  -- Left the variables take the values τ, right ρ: the variables of matching binders the same; a free one, left, the value of what replaces it;
  -- one that no binder crossed binds, right, the value that it had outside, ρ₀.
  record Agree (ps : Crossed) (τ ρ : ℕ → Value) : Type 0 where
    matching : (x z : ℕ) → meets ps x z ≡ true → τ x ≡ ρ z
    free_left : (x : ℕ) → has x (lefts ps) ≡ false → τ x ≡ value w ρ₀ (σ x)
    others : (y : ℕ) → (Among y (rights ps) → ⊥) → ρ y ≡ ρ₀ y

  agree_put : (ps : Crossed) (τ ρ : ℕ → Value) (x y : ℕ) (v : Value) → Agree ps τ ρ → Agree ((x, y) ∷ ps) (put τ x v) (put ρ y v)
  unfolding meets lefts rights has
  agree_put ps τ ρ x y v h = record {
    matching = λ x' z' e. matching' x' z' (eqb x' x) refl (eqb z' y) refl e;
    free_left = λ x' e. free' x' (eqb x' x) refl e;
    others = λ y' out. put_other ρ y v y' (λ e. out (inl e)) ∙ h.others y' (λ m. out (inr m));
  }
    where
      matching' : (x' z' : ℕ) (s : Bool) → eqb x' x ≡ s → (t : Bool) → eqb z' y ≡ t → cond s t (not t && meets ps x' z') ≡ true
          → put τ x v x' ≡ put ρ y v z'
      matching' x' z' true p true q e = rw (eqb-true x' x p, eqb-true z' y q) (put_here τ x v ∙ sym (put_here ρ y v))
      matching' x' z' true p false q e = absurd (false≢true e)
      matching' x' z' false p true q e = absurd (false≢true e)
      matching' x' z' false p false q e = put_other τ x v x' (eqb-false x' x p) ∙ h.matching x' z' e ∙ sym (put_other ρ y v z' (eqb-false z' y q))

      free' : (x' : ℕ) (s : Bool) → eqb x' x ≡ s → (s || has x' (lefts ps)) ≡ false → put τ x v x' ≡ value w ρ₀ (σ x')
      free' x' true p e = absurd (false≢true (sym e))
      free' x' false p e = put_other τ x v x' (eqb-false x' x p) ∙ h.free_left x' e

  agree_assign : (ps : Crossed) (τ ρ : ℕ → Value) (xs ys : List ℕ) (vs : List Value) → map (sort_of_variable b) xs ≡ map (sort_of_variable b) ys
      → Agree ps τ ρ → Agree (pair_up xs ys ++ ps) (assign xs vs τ) (assign ys vs ρ)
  unfolding pair_up assign put
  agree_assign ps τ ρ [] [] vs e h = h
  agree_assign ps τ ρ [] (y ∷ ys) vs e h = zero_one cc
  agree_assign ps τ ρ (x ∷ xs) [] vs e h = zero_one cc
  agree_assign ps τ ρ (x ∷ xs) (y ∷ ys) [] e h =
      agree_put (pair_up xs ys ++ ps) (assign xs [] τ) (assign ys [] ρ) x y (truth false) (agree_assign ps τ ρ xs ys [] (cc) h)
  agree_assign ps τ ρ (x ∷ xs) (y ∷ ys) (v ∷ vs) e h =
      agree_put (pair_up xs ys ++ ps) (assign xs vs τ) (assign ys vs ρ) x y v (agree_assign ps τ ρ xs ys vs (cc) h)

  variable_value : (ps : Crossed) (x : ℕ) (r : Term) (τ ρ : ℕ → Value) → Agree ps τ ρ → VariableMeets b σ ps x r → τ x ≡ value w ρ r
  unfolding value
  variable_value ps x r τ ρ h (inl (z, e, m)) = h.matching x z m ∙ sym (ap (value w ρ) e)
  variable_value ps x r τ ρ h (inr (out, e, apart)) =
      h.free_left x out ∙ sym (ap (value w ρ₀) e) ∙ coincide w r ρ₀ ρ (λ y f. sym (h.others y (λ m. apart y m f)))

  mutual
    unfolding value

    meets_value : (l : Term) (ps : Crossed) (r : Term) (τ ρ : ℕ → Value) → Agree ps τ ρ → Meets b σ ps l r → value w τ l ≡ value w ρ r
    meets_value (var x) ps r τ ρ h m = variable_value ps x r τ ρ h m
    meets_value (app f ts) ps r τ ρ h (us, e, ms) =
        ap (meaning_of w (kind_of_symbol b f)) (meets_values ts ps us τ ρ h ms) ∙ sym (ap (value w ρ) e)
    meets_value (bind q x t) ps r τ ρ h (y, u, e, s, m) =
        ap₂ (λ (p : Value → Bool) (k : ℕ). bound_value w q k p)
        (fun_ext (λ v. ap truth_of (meets_value t ((x, y) ∷ ps) u (put τ x v) (put ρ y v) (agree_put ps τ ρ x y v h) m))) s
        ∙ sym (ap (value w ρ) e)
    meets_value (let_in xs ts u) ps r τ ρ h (ys, us, v, e, s, ms, m) =
        meets_value u (pair_up xs ys ++ ps) v (assign xs (values w τ ts) τ) (assign ys (values w τ ts) ρ)
        (agree_assign ps τ ρ xs ys (values w τ ts) s h) m
        ∙ ap (λ (vs : List Value). value w (assign ys vs ρ) v) (meets_values ts ps us τ ρ h ms)
        ∙ sym (ap (value w ρ) e)

    meets_values : (ls : Terms) (ps : Crossed) (rs : Terms) (τ ρ : ℕ → Value) → Agree ps τ ρ → MeetsAll b σ ps ls rs → values w τ ls ≡ values w ρ rs
    meets_values none ps rs τ ρ h e = sym (ap (values w ρ) e)
    meets_values (more t ts) ps rs τ ρ h (v, vs, e, m, ms) =
        ap₂ (λ (u : Value) (us : List Value). u ∷ us) (meets_value t ps v τ ρ h m) (meets_values ts ps vs τ ρ h ms) ∙ sym (ap (values w ρ) e)

pub replacement_sound : ReplacementSound
unfolding seen value meets lefts rights
replacement_sound b Γ left right h w ρ =
    meets_value w (image_tree b Γ) ρ left [] right (seen b w Γ ρ) ρ
    (record { matching = λ x z e. absurd (false≢true e); free_left = λ x e. refl; others = λ y out. refl })
    ((meets_exactly b (image_tree b Γ) left right).1 h)
