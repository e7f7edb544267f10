-- Req 06: which variables keep their names. It is decided from the job, by all of its term records, before the visit.
--     keeps                        THE TEST
--     BindsAt, ListsAt             in propositions: a term binds a variable; lists it
--     BoundOnce, KeepsExactly      the same of "exactly one, and none", and that the test says so; proofs/ has it under the name `keeps_exactly`
use Rattle.std.specs.Prelude.{ℕ, zero, suc, ◌≡◌, ◌↔◌, Bool, true, false, cond, not, ◌&&◌, ◌||◌, length, eqb}
use Rattle.bundle.specs.Bundle.{Bundle, TermRecord, term_of}
use Rattle.bundle.specs.Links.{items}
use Rattle.bundle.specs.Lists.{has}
use Rattle.logic.specs.Lists.{Among, Number}
use Rattle.logic.specs.Terms.{Binder, binder, letting, number_of, kind_of, is_binder}
use Rattle.expansion.specs.declared.Names.{Names}
use Rattle.expansion.specs.declared.Names.TheVariants.{Keep, RenameAll}

-- a record binds x: it is a binder's, and x is its variable
abbrev pub binds : TermRecord → ℕ → Bool
binds r x = is_binder r.kind && eqb r.a x

-- a record lists x: it is a let's, and x is one of its variables
abbrev pub lists : Bundle → TermRecord → ℕ → Bool
lists b r x = eqb r.kind (number_of letting) && has x (items b r.a)

-- how many of the terms 1 to n bind x
unfoldable pub binders : Bundle → ℕ → ℕ → ℕ
unfolding is_binder
binders b zero x = 0
binders b (suc n) x = cond (binds (term_of b (suc n)) x) (suc (binders b n x)) (binders b n x)

-- one of the terms 1 to n lists x
unfoldable pub listed : Bundle → ℕ → ℕ → Bool
unfolding has items
listed b zero x = false
listed b (suc n) x = lists b (term_of b (suc n)) x || listed b n x

-- A binder's variable x is kept where exactly one term record of the job binds it and no let lists it: of all T records, also those that the rule
-- does not reach. Where all are renamed, none is kept.
unfoldable pub keeps : Names → Bundle → ℕ → Bool
unfolding binders listed
keeps Keep b x = eqb (binders b (length b.terms) x) 1 && not (listed b (length b.terms) x)
keeps RenameAll b x = false

-- ---- the same in propositions

-- term t binds x: its record is a binder's, of any kind, and x is its variable
pub record BindsAt (b : Bundle) (t x : ℕ) : Type 0 where
  pub is_term : Number (length b.terms) t
  pub kind : (q : Binder) × (kind_of (term_of b t).kind ≡ binder q)
  pub variable : (term_of b t).a ≡ x

-- term t lists x: its record is a let's, and x is one of its variables
pub record ListsAt (b : Bundle) (t x : ℕ) : Type 0 where
  pub is_term : Number (length b.terms) t
  pub kind : kind_of (term_of b t).kind ≡ letting
  pub variable : Among x (items b (term_of b t).a)

-- exactly one term record of b binds x, and no let lists it
pub record BoundOnce (b : Bundle) (x : ℕ) : Type 0 where
  pub term : ℕ
  pub bound : BindsAt b term x
  pub alone : (t : ℕ) → BindsAt b t x → t ≡ term
  pub unlisted : (t : ℕ) → ListsAt b t x → ⊥

-- By default a variable is kept exactly where one term record of the job binds it and no let lists it.
abbrev pub KeepsExactly : Type 0
KeepsExactly = (b : Bundle) (x : ℕ) → (keeps Keep b x ≡ true) ↔ BoundOnce b x
