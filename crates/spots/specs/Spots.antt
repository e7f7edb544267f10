-- WHAT MAY FOLLOW WHERE: a scan stands at one of twenty spots, and holds for each open bracket the spot where it goes on behind it. What is due is
-- what the spot wants of the grammar, and then what the spots held want, the last first.
use Rattle.std.specs.Prelude.{ℕ, ◌+◌, ◌*◌, ◌<◌, ◌≡◌, Bool, true, cond, ◌||◌, List, [], ◌∷◌, ◌++◌, get_or, eqb}
use Rattle.bundle.specs.Lists.{has}
use Rattle.grammar.specs.Parser.{Due, formula, formulas, inside, opener, closer, sorted, sorteds, bound, bounds, variable, sortName}

-- what each spot wants, up to the closing bracket around it
unfoldable pub wants : List (List Due)
wants =
    -- 0: the text may end
    ([])
    -- 1: the formula
    ∷ (formula ∷ [])
    -- 2: after the opening bracket of a formula
    ∷ (inside ∷ [])
    -- 3: the first argument
    ∷ (formula ∷ formulas ∷ [])
    -- 4: an argument, or the closing bracket
    ∷ (formulas ∷ [])
    -- 5: the first of two
    ∷ (formula ∷ formula ∷ closer ∷ [])
    -- 6: the last formula before a closing bracket
    ∷ (formula ∷ closer ∷ [])
    -- 7: the closing bracket
    ∷ (closer ∷ [])
    -- 8: a quantifier's list
    ∷ (opener ∷ sorted ∷ sorteds ∷ formula ∷ closer ∷ [])
    -- 9: its first variable
    ∷ (sorted ∷ sorteds ∷ [])
    -- 10: the variable's name
    ∷ (variable ∷ sortName ∷ closer ∷ [])
    -- 11: its sort
    ∷ (sortName ∷ closer ∷ [])
    -- 12: the closing bracket of a variable with its sort
    ∷ (closer ∷ [])
    -- 13: a variable more, or the closing bracket of the list
    ∷ (sorteds ∷ [])
    -- 14: a let's list
    ∷ (opener ∷ bound ∷ bounds ∷ formula ∷ closer ∷ [])
    -- 15: its first binding
    ∷ (bound ∷ bounds ∷ [])
    -- 16: the variable's name
    ∷ (variable ∷ formula ∷ closer ∷ [])
    -- 17: its formula
    ∷ (formula ∷ closer ∷ [])
    -- 18: the closing bracket of a binding
    ∷ (closer ∷ [])
    -- 19: a binding more, or the closing bracket of the list
    ∷ (bounds ∷ [])
    ∷ []

unfoldable pub wanted : ℕ → List Due
unfolding wants
wanted s = get_or wants s []

-- what the spots held want, the last bracket's first
unfoldable pub owed : List ℕ → List Due
unfolding wanted
owed [] = []
owed (u ∷ held) = wanted u ++ owed held

unfoldable pub due_at : ℕ → List ℕ → List Due
unfolding wanted owed
due_at s held = wanted s ++ owed held

-- THE TABLE, a row for each spot. Its columns:
--     0        the spot after '('
--     1        the spot after ')'; 98 for the one held
--     2        a byte that starts nothing
--     3 to 9   the spot after a word by its number: true or false, not, a connective, a quantifier, let, a sort, a name
--     10       the spot held at '('
--     11       what a run may become: 0 nothing, 1 any word, 2 a sort
--     12       the kind of name due: 0 any, 1 a symbol, 2 a variable
--     13       in a second scan, the spot after a variable's name or a sort
-- 99 is refused. Row 20 is for a second scan, just after a bracket whose spot it does not know.
abbrev pub table : List ℕ
table =
    99 ∷ 99 ∷ 99 ∷ 99 ∷ 99 ∷ 99 ∷ 99 ∷ 99 ∷ 99 ∷ 99 ∷ 0 ∷ 0 ∷ 0 ∷ 99
    ∷ 2 ∷ 99 ∷ 99 ∷ 0 ∷ 99 ∷ 99 ∷ 99 ∷ 99 ∷ 99 ∷ 0 ∷ 0 ∷ 1 ∷ 0 ∷ 0
    ∷ 99 ∷ 99 ∷ 99 ∷ 99 ∷ 6 ∷ 5 ∷ 8 ∷ 14 ∷ 99 ∷ 3 ∷ 0 ∷ 1 ∷ 1 ∷ 99
    ∷ 2 ∷ 99 ∷ 99 ∷ 4 ∷ 99 ∷ 99 ∷ 99 ∷ 99 ∷ 99 ∷ 4 ∷ 4 ∷ 1 ∷ 0 ∷ 4
    ∷ 2 ∷ 98 ∷ 99 ∷ 4 ∷ 99 ∷ 99 ∷ 99 ∷ 99 ∷ 99 ∷ 4 ∷ 4 ∷ 1 ∷ 0 ∷ 4
    ∷ 2 ∷ 99 ∷ 99 ∷ 6 ∷ 99 ∷ 99 ∷ 99 ∷ 99 ∷ 99 ∷ 6 ∷ 6 ∷ 1 ∷ 0 ∷ 6
    ∷ 2 ∷ 99 ∷ 99 ∷ 7 ∷ 99 ∷ 99 ∷ 99 ∷ 99 ∷ 99 ∷ 7 ∷ 7 ∷ 1 ∷ 0 ∷ 7
    ∷ 99 ∷ 98 ∷ 99 ∷ 99 ∷ 99 ∷ 99 ∷ 99 ∷ 99 ∷ 99 ∷ 99 ∷ 0 ∷ 0 ∷ 0 ∷ 99
    ∷ 9 ∷ 99 ∷ 99 ∷ 99 ∷ 99 ∷ 99 ∷ 99 ∷ 99 ∷ 99 ∷ 99 ∷ 6 ∷ 0 ∷ 0 ∷ 99
    ∷ 10 ∷ 99 ∷ 99 ∷ 99 ∷ 99 ∷ 99 ∷ 99 ∷ 99 ∷ 99 ∷ 99 ∷ 13 ∷ 0 ∷ 0 ∷ 99
    ∷ 99 ∷ 99 ∷ 99 ∷ 99 ∷ 99 ∷ 99 ∷ 99 ∷ 99 ∷ 99 ∷ 11 ∷ 0 ∷ 1 ∷ 2 ∷ 11
    ∷ 99 ∷ 99 ∷ 99 ∷ 99 ∷ 99 ∷ 99 ∷ 99 ∷ 99 ∷ 12 ∷ 99 ∷ 0 ∷ 2 ∷ 0 ∷ 12
    ∷ 99 ∷ 13 ∷ 99 ∷ 99 ∷ 99 ∷ 99 ∷ 99 ∷ 99 ∷ 99 ∷ 99 ∷ 0 ∷ 0 ∷ 0 ∷ 99
    ∷ 10 ∷ 6 ∷ 99 ∷ 99 ∷ 99 ∷ 99 ∷ 99 ∷ 99 ∷ 99 ∷ 99 ∷ 13 ∷ 0 ∷ 0 ∷ 99
    ∷ 15 ∷ 99 ∷ 99 ∷ 99 ∷ 99 ∷ 99 ∷ 99 ∷ 99 ∷ 99 ∷ 99 ∷ 6 ∷ 0 ∷ 0 ∷ 99
    ∷ 16 ∷ 99 ∷ 99 ∷ 99 ∷ 99 ∷ 99 ∷ 99 ∷ 99 ∷ 99 ∷ 99 ∷ 19 ∷ 0 ∷ 0 ∷ 99
    ∷ 99 ∷ 99 ∷ 99 ∷ 99 ∷ 99 ∷ 99 ∷ 99 ∷ 99 ∷ 99 ∷ 17 ∷ 0 ∷ 1 ∷ 2 ∷ 17
    ∷ 2 ∷ 99 ∷ 99 ∷ 18 ∷ 99 ∷ 99 ∷ 99 ∷ 99 ∷ 99 ∷ 18 ∷ 18 ∷ 1 ∷ 0 ∷ 18
    ∷ 99 ∷ 19 ∷ 99 ∷ 99 ∷ 99 ∷ 99 ∷ 99 ∷ 99 ∷ 99 ∷ 99 ∷ 0 ∷ 0 ∷ 0 ∷ 99
    ∷ 16 ∷ 6 ∷ 99 ∷ 99 ∷ 99 ∷ 99 ∷ 99 ∷ 99 ∷ 99 ∷ 99 ∷ 19 ∷ 0 ∷ 0 ∷ 99
    ∷ 16 ∷ 99 ∷ 99 ∷ 99 ∷ 6 ∷ 5 ∷ 8 ∷ 14 ∷ 99 ∷ 3 ∷ 19 ∷ 0 ∷ 0 ∷ 17
    ∷ []

abbrev pub cell : ℕ → ℕ → ℕ
cell s k = get_or table (s * 14 + k) 0

-- ---- what stands around a spot

-- the spots where a scan may go on behind the bracket around a spot: of a formula, of a list, of a variable with its sort, of a binding
abbrev formulas_end : List ℕ
formulas_end = 0 ∷ 4 ∷ 6 ∷ 7 ∷ 18 ∷ []

abbrev lists_end : List ℕ
lists_end = 6 ∷ []

abbrev pub endings : List (List ℕ)
endings =
    [] ∷ [] ∷ formulas_end ∷ formulas_end ∷ formulas_end ∷ formulas_end ∷ formulas_end ∷ formulas_end ∷ formulas_end ∷ lists_end
    ∷ (13 ∷ []) ∷ (13 ∷ []) ∷ (13 ∷ []) ∷ lists_end ∷ formulas_end ∷ lists_end ∷ (19 ∷ []) ∷ (19 ∷ []) ∷ (19 ∷ []) ∷ lists_end ∷ []

unfoldable pub behind : ℕ → List ℕ
behind s = get_or endings s []

-- each spot held is one behind the spot above it; nothing is held where the text begins and may end
abbrev pub Nested : ℕ → List ℕ → Type 0
Nested s [] = s < 2
Nested s (u ∷ held) = (has u (behind s) ≡ true) × Nested u held

-- ---- what a second scan takes a spot for, where it does not know the bracket around it: a let's list for a quantifier's

unfoldable pub taken_for : ℕ → List ℕ
taken_for g =
    cond (eqb g 16) (10 ∷ [])
    (cond (eqb g 17) (11 ∷ [])
    (cond (eqb g 18) (12 ∷ [])
    (cond (eqb g 19) (13 ∷ [])
    (cond (eqb g 20) (2 ∷ 9 ∷ 10 ∷ 15 ∷ 16 ∷ []) []))))

unfoldable pub alike : ℕ → ℕ → Bool
unfolding taken_for has
alike s g = eqb s g || has s (taken_for g)
