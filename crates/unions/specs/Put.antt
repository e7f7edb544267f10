-- What the functions that write one term's free set leave: the set itself, and all else as it was.
use Rattle.std.specs.Prelude.{ℕ, ◌+◌, ◌*◌, ◌-◌, ◌≤◌, ◌<◌, ◌≡◌, ◌⊎◌, Bool, false, cond, not, ◌&&◌, List, length, get_or, eqb, ltb}
use Rattle.bundle.specs.Bundle.{Bundle, TermRecord}
use Rattle.bundle.specs.Links.{items}
use Rattle.bundle.specs.Lists.{has, numbers}
use Rattle.sets.specs.Sets.{member}
use Rattle.logic.specs.Terms.{Kind, kind_of, variable, application, binder, letting, other}
use Rattle.logic.specs.Free.{free_at}

-- the set of term t, n words, stands at word `at`, within the words
pub record SetRoom (w : List ℕ) (n t at : ℕ) : Type 0 where
  pub one : 1 ≤ t
  pub start : at ≡ n * (t - 1)
  pub room : at + n ≤ length w

-- the words v are the words w but for the set at `at`
pub record Kept (w v : List ℕ) (n at : ℕ) : Type 0 where
  pub long : length v ≡ length w
  pub others : (j : ℕ) → (j < at) ⊎ (at + n ≤ j) → get_or v j 0 ≡ get_or w j 0

-- and the set there is s
pub record Put (w v : List ℕ) (n at : ℕ) (s : ℕ → Bool) : Type 0 where
  pub kept : Kept w v n at
  pub members : (x : ℕ) → member v at n x ≡ s x

-- the sets of the terms below t, as words hold them; nothing for any other number
unfoldable pub set_below : List ℕ → ℕ → ℕ → ℕ → ℕ → Bool
set_below w n t i x = cond (ltb 0 i && ltb i t) (member w (n * (i - 1)) n x) false

-- there is room for the sets of the terms below t, and they are their free variables
pub record SetsBelow (w : List ℕ) (n t : ℕ) (b : Bundle) : Type 0 where
  pub one : 1 ≤ t
  pub fits : n * (t - 1) ≤ length w
  pub sets : (i x : ℕ) → 1 ≤ i → i < t → member w (n * (i - 1)) n x ≡ free_at b i x

-- What `free_by` has of a record, in two parts: its list of terms, 0 where it has none; and the free variables that are not those of the list's.
unfoldable pub list_as : Kind → TermRecord → ℕ
list_as variable r = 0
list_as application r = r.b
list_as (binder q) r = 0
list_as letting r = r.b
list_as other r = 0

unfoldable pub list_of : TermRecord → ℕ
unfolding list_as kind_of
list_of r = list_as (kind_of r.kind) r

unfoldable pub own_as : Bundle → Kind → (ℕ → ℕ → Bool) → TermRecord → ℕ → Bool
unfolding has items
own_as b variable f r x = numbers (length b.variables) r.a && eqb x r.a
own_as b application f r x = false
own_as b (binder q) f r x = not (eqb x r.a) && f r.b x
own_as b letting f r x = f r.c x && not (has x (items b r.a))
own_as b other f r x = false

unfoldable pub own_by : Bundle → (ℕ → ℕ → Bool) → TermRecord → ℕ → Bool
unfolding own_as kind_of
own_by b f r = own_as b (kind_of r.kind) f r
