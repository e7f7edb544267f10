-- The marks of variables: what the binders and lets of a job make of each, term by term.
--     mark_at, kept_in    the mark of a variable, and whether it is kept
--     mark_of             the mark of a variable after so many terms
--     after_term          the mark where one term more comes
use Rattle.std.specs.Prelude.{ℕ, zero, suc, Bool, true, false, cond, ◌&&◌, get_or, leb}
use Rattle.bundle.specs.Bundle.{Bundle, TermRecord}
use Rattle.bundle.specs.Limits.{limits}
use Rattle.expansion.specs.Names.{binds, lists, binders, listed}
use Rattle.names.specs.declared.Mark.{Mark}
use Rattle.names.specs.declared.Mark.TheVariants.{Unbound, Once, Renamed}
use Rattle.names.specs.declared.Kept.{Kept}

-- one record binds the variable, and no let lists it
abbrev pub is_once : Mark → Bool
is_once Unbound = false
is_once Once = true
is_once Renamed = false

-- the mark where one record more binds the variable
abbrev pub bound_again : Mark → Mark
bound_again Unbound = Once
bound_again Once = Renamed
bound_again Renamed = Renamed

-- the mark of variable x
abbrev pub mark_at : Kept → ℕ → Mark
mark_at k x = get_or k.marks x Unbound

-- variable x is kept; a number past the limit is no variable's
abbrev pub kept_in : Kept → ℕ → Bool
kept_in k x = leb x limits.variables && is_once (mark_at k x)

-- the mark of a variable that so many records bind
unfoldable pub counted : ℕ → Mark
counted zero = Unbound
counted (suc n) = bound_again (counted n)

-- the mark of x after the terms 1 to n
unfoldable pub mark_of : Bundle → ℕ → ℕ → Mark
unfolding counted
mark_of b n x = cond (listed b n x) Renamed (counted (binders b n x))

-- the mark of x where a term's record r comes after others
unfoldable pub after_term : Bundle → TermRecord → ℕ → Mark → Mark
after_term b r x m = cond (lists b r x) Renamed (cond (binds r x) (bound_again m) m)
