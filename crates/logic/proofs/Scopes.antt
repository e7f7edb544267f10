-- Terms in scope (Req 05): each free variable is mentioned by an entry.
--     empty_mentions      the empty context mentions nothing
--     scope_exactly       THE THEOREM: the test of a term says what the proposition says
--     scoped_exactly      so does the test of a step, of both its sides
--     unscoped            a step that fails it has a free variable that no entry mentions
--     claim_closed        THE THEOREM: both sides of a step in context 0 that holds are closed
use mathlib.Core.Path.{◌≡◌, refl, sym, ap, ◌∙◌}
use Prim.Native.Nat.{ℕ, zero, suc}
use mathlib.Core.Bool.{Bool, true, false, not, ◌&&◌, ◌||◌, false≢true}
use mathlib.Core.Logic.{◌⊎◌, inl, inr, ◌↔◌}
use native.Mathlib.Omega.{arith}
use lib.ListN.{length}
use Rattle.std.proofs.lemmas.Bool.Decides.{Decides-and}
use Rattle.bundle.specs.Bundle.{Bundle, Step, context_of}
use Rattle.logic.specs.Lists.{Number}
use Rattle.logic.specs.Tests.{up_to}
use Rattle.logic.specs.Terms.{tree}
use Rattle.logic.specs.Free.{Free, free_at}
use Rattle.logic.specs.Contexts.{Mentioned, by_fixing, by_replacing, by_parent, mentioned, InScope, in_scope}
use Rattle.logic.specs.WellFormed.{WellFormed}
use Rattle.logic.specs.Rules.{scoped_as}
use Rattle.logic.specs.Instance.{SidesInScope}
use Rattle.logic.specs.Statements.{ScopeExactly, ClaimClosed}
use Rattle.logic.proofs.Tests.{up_to_lem, up_to_all}
use Rattle.logic.proofs.Exactly.{imply_exactly}
use Rattle.logic.proofs.FreeSettled.{free_at_exactly, free_number}
use Rattle.logic.proofs.Found.{mentioned_exactly}

-- ---- the empty context

mentions_some : (b : Bundle) {c x : ℕ} → Mentioned b c x → c ≡ 0 → ⊥
mentions_some b (by_fixing {c = c} k a) e =
    let none : (context_of b c).kind ≡ 0 = ap (λ (i : ℕ). (context_of b i).kind) e in omega (arith, none, k)
mentions_some b (by_replacing {c = c} k m) e =
    let none : (context_of b c).kind ≡ 0 = ap (λ (i : ℕ). (context_of b i).kind) e in omega (arith, none, k)
mentions_some b (by_parent {c = c} m) e = mentions_some b m (ap (λ (i : ℕ). (context_of b i).parent) e)

pub empty_mentions : (b : Bundle) (x : ℕ) → Mentioned b 0 x → ⊥
empty_mentions b x m = mentions_some b m refl

pub claim_closed : ClaimClosed
claim_closed b k holds e = (
  λ x f. mentions_some b (holds.scope.0 x f) e,
  λ x f. mentions_some b (holds.scope.1 x f) e,
)

-- ---- tests and propositions

pub scope_exactly : ScopeExactly
unfolding in_scope
scope_exactly b well c t = (there, back)
  where
    here : ℕ → Bool
    here x = not (free_at b t x) || mentioned b c x

    stands : (x : ℕ) → (here x ≡ true) ↔ (Free x (tree b t) → Mentioned b c x)
    stands x = imply_exactly (free_at b t x) (free_at_exactly b well.tables t x) (mentioned b c x) (mentioned_exactly b well c x)

    there : in_scope b c t ≡ true → InScope b c (tree b t)
    there e x h =
        let n : Number (length b.variables) x = free_number b well.tables t x h in
        (stands x).0 (up_to_lem (length b.variables) here e x n.0 n.1) h

    back : InScope b c (tree b t) → in_scope b c t ≡ true
    back h = up_to_all (length b.variables) here (λ x lo hi. (stands x).1 (h x))

module _ (b : Bundle) (well : WellFormed b) where
  pub scoped_exactly : (s : Step) → (scoped_as b s ≡ true) ↔ SidesInScope b s
  unfolding scoped_as
  scoped_exactly s =
      Decides-and (in_scope b s.context s.left) (in_scope b s.context s.right) (scope_exactly b well s.context s.left) (scope_exactly b well s.context s.right)

  -- ---- a variable that is out of scope

  -- a test that fails somewhere
  fails_at : (n : ℕ) (p : ℕ → Bool) → up_to n p ≡ false → (x : ℕ) × (p x ≡ false)
  unfolding up_to
  fails_at zero p e = absurd (false≢true (sym e))
  fails_at (suc n) p e = go (p (suc n)) refl e (fails_at n p)
    where
      go : (q : Bool) → p (suc n) ≡ q → (q && up_to n p) ≡ false → (up_to n p ≡ false → (x : ℕ) × (p x ≡ false)) → (x : ℕ) × (p x ≡ false)
      go true d h ih = ih h
      go false d h ih = (suc n, d)

  -- a free variable of term t that context c does not mention
  abbrev Out : ℕ → ℕ → ℕ → Type 0
  Out c t x = Free x (tree b t) × (Mentioned b c x → ⊥)

  out_of : (c t : ℕ) → in_scope b c t ≡ false → (x : ℕ) × Out c t x
  unfolding in_scope
  out_of c t e =
      let (x, fails) = fails_at (length b.variables) (λ x. not (free_at b t x) || mentioned b c x) e in
      (x, go x (free_at b t x) refl (mentioned b c x) refl fails)
    where
      go : (x : ℕ) (p : Bool) → free_at b t x ≡ p → (q : Bool) → mentioned b c x ≡ q → (not p || q) ≡ false → Out c t x
      go x true f true m h = absurd (false≢true (sym h))
      go x true f false m h = ((free_at_exactly b well.tables t x).0 f, λ n. false≢true (sym m ∙ (mentioned_exactly b well c x).1 n))
      go x false f q m h = absurd (false≢true (sym h))

  pub unscoped : (s : Step) → scoped_as b s ≡ false
      → (x : ℕ) × (Free x (tree b s.left) ⊎ Free x (tree b s.right)) × (Mentioned b s.context x → ⊥)
  unfolding scoped_as
  unscoped s e = go (in_scope b s.context s.left) refl e
    where
      go : (p : Bool) → in_scope b s.context s.left ≡ p → (p && in_scope b s.context s.right) ≡ false
          → (x : ℕ) × (Free x (tree b s.left) ⊎ Free x (tree b s.right)) × (Mentioned b s.context x → ⊥)
      go true d h = let (x, (f, m)) = out_of s.context s.right h in (x, inr f, m)
      go false d h = let (x, (f, m)) = out_of s.context s.left d in (x, inl f, m)
