-- THE THEOREMS of names.
--     resolved_exactly, unread_first, unknown_first
use Prim.Native.Nat.{ℕ, ◌<◌}
use native.Mathlib.Omega.{arith}
use mathlib.Core.Path.{◌≡◌, refl, sym, ap, ◌∙◌}
use mathlib.Core.Bool.{Bool, true, false, cond, ◌&&◌, false≢true}
use mathlib.Core.List.{List, [], ◌∷◌}
use mathlib.Core.Option.{Option, none, some, none-ne-some}
use Rattle.grammar.specs.Grammar.{Formula, Reads}
use Rattle.grammar.specs.Grammar.{Unread}
use Rattle.grammar.specs.Parser.{Outcome, read, unread}
use Rattle.grammar.specs.Parser.{parse}
use Rattle.grammar.specs.Names.{Name, names, Located, called_of, met}
use Rattle.grammar.specs.Names.{first_unknown, all_known, Resolved, resolved, unread_at, unknown_at, otherwise, or_unknown}
use Rattle.grammar.specs.Names.{resolve}
use Rattle.grammar.specs.Statements.{ResolvedExactly, UnreadFirst, UnknownFirst}
use Rattle.grammar.proofs.Exact.{read_exactly, unread_exactly}
use Rattle.grammar.proofs.NamesMet.{names_met}

-- ---- the answer

module _ (known : Name → Bool) where
  first_none : (ls : List Located) → first_unknown known ls ≡ none → all_known known (called_of ls) ≡ true
  unfolding first_unknown all_known called_of
  first_none [] e = refl
  first_none (l ∷ ls) e = go (known l.called) (first_none ls) e
    where
      go : (b : Bool) → (first_unknown known ls ≡ none → all_known known (called_of ls) ≡ true) → cond b (first_unknown known ls) (some l.first) ≡ none
          → (b && all_known known (called_of ls)) ≡ true
      go true f e = f e
      go false f e = absurd (none-ne-some l.first (sym e))

  all_first : (ls : List Located) → all_known known (called_of ls) ≡ true → first_unknown known ls ≡ none
  unfolding first_unknown all_known called_of
  all_first [] e = refl
  all_first (l ∷ ls) e = go (known l.called) (all_first ls) e
    where
      go : (b : Bool) → (all_known known (called_of ls) ≡ true → first_unknown known ls ≡ none) → (b && all_known known (called_of ls)) ≡ true
          → cond b (first_unknown known ls) (some l.first) ≡ none
      go true f e = f e
      go false f e = absurd (false≢true e)

code : Resolved → ℕ
code (resolved φ) = 0
code (unread_at n) = 1
code (unknown_at n) = 2

off : (i j : ℕ) → i < j → i ≡ j → ⊥
off i j h e = omega arith

pub resolved_exactly : ResolvedExactly
unfolding resolve or_unknown otherwise code
resolved_exactly known text φ = (
  there (first_unknown known (met text)) refl (parse text) refl,
  λ h. rw (all_first known (met text) (rw (names_met text φ h.0) h.1), (read_exactly text φ).1 h.0),
)
  where
    there : (o : Option ℕ) → first_unknown known (met text) ≡ o → (p : Outcome Formula) → parse text ≡ p → or_unknown o (otherwise p) ≡ resolved φ
        → Reads text φ × (all_known known (names φ []) ≡ true)
    there (some m) h p q e = absurd (off 0 2 (omega arith) (sym (ap code e)))
    there none h (unread m) q e = absurd (off 0 1 (omega arith) (sym (ap code e)))
    there none h (read ψ) q e =
        let same : ψ ≡ φ = cc in
        let r : Reads text φ = (read_exactly text φ).0 (q ∙ ap read same) in
        (r, rw (← (names_met text φ r)) (first_none known (met text) h))

pub unread_first : UnreadFirst
unfolding resolve or_unknown otherwise code
unread_first known text n = (
  there (first_unknown known (met text)) refl (parse text) refl,
  λ h. rw (all_first known (met text) h.1, (unread_exactly text n).1 h.0),
)
  where
    there : (o : Option ℕ) → first_unknown known (met text) ≡ o → (p : Outcome Formula) → parse text ≡ p → or_unknown o (otherwise p) ≡ unread_at n
        → Unread text n × (all_known known (called_of (met text)) ≡ true)
    there (some m) h p q e = absurd (off 1 2 (omega arith) (sym (ap code e)))
    there none h (read ψ) q e = absurd (off 0 1 (omega arith) (ap code e))
    there none h (unread m) q e =
        let same : m ≡ n = cc in
        ((unread_exactly text n).0 (q ∙ ap unread same), first_none known (met text) h)

pub unknown_first : UnknownFirst
unfolding resolve or_unknown otherwise code
unknown_first known text n = (there (first_unknown known (met text)) (parse text), λ h. rw h)
  where
    there : (o : Option ℕ) (p : Outcome Formula) → or_unknown o (otherwise p) ≡ unknown_at n → o ≡ some n
    there (some m) p e = cc
    there none (read ψ) e = absurd (off 0 2 (omega arith) (ap code e))
    there none (unread m) e = absurd (off 1 2 (omega arith) (ap code e))
