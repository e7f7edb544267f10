-- Worked examples of Req 06 and, the last two, of Req 07: jobs and the files that are written for them, as words, under both choices of names. Symbol 33 is
-- an item, 34 takes an item to an item, 35 is p, a truth of two items, and 36 takes two items to an item. A line or two for each section, as in ExampleFiles.
--     written         the words of the file that is written
--     NamesRight      THE STATEMENT; proofs/ has it under the name `names_right`
use Rattle.std.specs.Prelude.{ℕ, ◌≡◌, List, [], ◌∷◌}
use Rattle.bundle.specs.Words.{encode}
use Rattle.bundle.specs.File.{bundle_of}
use Rattle.expansion.specs.declared.Names.{Names}
use Rattle.expansion.specs.declared.Names.TheVariants.{Keep, RenameAll}
use Rattle.logic.specs.Terms.{tree}
use Rattle.expansion.specs.Visit.{expanded}
use Rattle.expansion.specs.NamesKept.{NamesKept}
use Rattle.expansion.specs.File.{file_words}

-- the words of the file that is written for a job, given as words
abbrev pub written : Names → List ℕ → List ℕ
written names job = file_words (expanded names (bundle_of (encode job)))

-- ∀x. p(x,x), one record binds x: x is kept, and the result is the old record itself
abbrev pub once : List ℕ
once =
    1 ∷ 4 ∷ 4 ∷ 4 ∷ 2 ∷ 0 ∷ 0 ∷ 4 ∷ 0
    ∷ 1 ∷ 0 ∷ 1 ∷ 2 ∷ 0 ∷ 1 ∷ 1 ∷ 1
    ∷ 1 ∷ 1 ∷ 1 ∷ 0
    ∷ 1 ∷ 1 ∷ 0 ∷ 0 ∷ 1 ∷ 2 ∷ 0 ∷ 0 ∷ 2 ∷ 35 ∷ 1 ∷ 0 ∷ 3 ∷ 1 ∷ 3 ∷ 0
    ∷ 1 ∷ 2 ∷ 1 ∷ 0
    ∷ []

abbrev pub kept_once : List ℕ
kept_once =
    1 ∷ 4 ∷ 4 ∷ 4 ∷ 7 ∷ 2 ∷ 4 ∷ 4 ∷ 4
    ∷ 1 ∷ 0 ∷ 1 ∷ 2 ∷ 0 ∷ 1 ∷ 1 ∷ 1
    ∷ 1 ∷ 1 ∷ 1 ∷ 0
    ∷ 1 ∷ 1 ∷ 0 ∷ 0 ∷ 1 ∷ 2 ∷ 0 ∷ 0 ∷ 2 ∷ 35 ∷ 1 ∷ 0 ∷ 3 ∷ 1 ∷ 3 ∷ 0
    ∷ 1 ∷ 2 ∷ 1 ∷ 0 ∷ 1 ∷ 0 ∷ 1 ∷ 0 ∷ 1 ∷ 6 ∷ 2 ∷ 0 ∷ 3 ∷ 0
    ∷ 1 ∷ 1 ∷ 0 ∷ 0 ∷ 2 ∷ 3 ∷ 4 ∷ 1
    ∷ 1 ∷ 2 ∷ 1 ∷ 1 ∷ 0 ∷ 1 ∷ 2 ∷ 1 ∷ 1 ∷ 0 ∷ 2 ∷ 2 ∷ 3 ∷ 3 ∷ 5 ∷ 4 ∷ 0 ∷ 4 ∷ 4 ∷ 7
    ∷ []

abbrev pub renamed_once : List ℕ
renamed_once =
    1 ∷ 4 ∷ 5 ∷ 7 ∷ 9 ∷ 2 ∷ 4 ∷ 4 ∷ 7
    ∷ 1 ∷ 0 ∷ 1 ∷ 2 ∷ 0 ∷ 1 ∷ 1 ∷ 1
    ∷ 1 ∷ 1 ∷ 1 ∷ 0 ∷ 1
    ∷ 1 ∷ 1 ∷ 0 ∷ 0 ∷ 1 ∷ 2 ∷ 0 ∷ 0 ∷ 2 ∷ 35 ∷ 1 ∷ 0 ∷ 3 ∷ 1 ∷ 3 ∷ 0 ∷ 1 ∷ 5 ∷ 0 ∷ 0 ∷ 2 ∷ 35 ∷ 5 ∷ 0 ∷ 3 ∷ 5 ∷ 6 ∷ 0
    ∷ 1 ∷ 2 ∷ 1 ∷ 0 ∷ 1 ∷ 0 ∷ 5 ∷ 0 ∷ 5 ∷ 6 ∷ 5 ∷ 0 ∷ 1 ∷ 8 ∷ 2 ∷ 0 ∷ 3 ∷ 0
    ∷ 1 ∷ 5 ∷ 0 ∷ 0 ∷ 2 ∷ 3 ∷ 4 ∷ 1
    ∷ 1 ∷ 2 ∷ 1 ∷ 5 ∷ 0 ∷ 1 ∷ 2 ∷ 1 ∷ 5 ∷ 0 ∷ 2 ∷ 2 ∷ 3 ∷ 6 ∷ 7 ∷ 4 ∷ 0 ∷ 4 ∷ 7 ∷ 9
    ∷ []

-- ∀y. true, and y, variable 2, has no term: it is kept, and its term appended
abbrev pub unused : List ℕ
unused =
    1 ∷ 4 ∷ 4 ∷ 2 ∷ 2 ∷ 0 ∷ 0 ∷ 2 ∷ 0
    ∷ 1 ∷ 0 ∷ 1 ∷ 2 ∷ 0 ∷ 1 ∷ 1 ∷ 1
    ∷ 1 ∷ 1 ∷ 1 ∷ 0
    ∷ 2 ∷ 1 ∷ 0 ∷ 0 ∷ 3 ∷ 2 ∷ 1 ∷ 0
    ∷ 1 ∷ 2 ∷ 1 ∷ 0
    ∷ []

abbrev pub kept_unused : List ℕ
kept_unused =
    1 ∷ 4 ∷ 4 ∷ 3 ∷ 5 ∷ 2 ∷ 2 ∷ 2 ∷ 2
    ∷ 1 ∷ 0 ∷ 1 ∷ 2 ∷ 0 ∷ 1 ∷ 1 ∷ 1
    ∷ 1 ∷ 1 ∷ 1 ∷ 0
    ∷ 2 ∷ 1 ∷ 0 ∷ 0 ∷ 3 ∷ 2 ∷ 1 ∷ 0 ∷ 1 ∷ 2 ∷ 0 ∷ 0
    ∷ 1 ∷ 2 ∷ 1 ∷ 0 ∷ 2 ∷ 0 ∷ 3 ∷ 0 ∷ 1 ∷ 0
    ∷ 1 ∷ 2 ∷ 0 ∷ 0 ∷ 2 ∷ 3 ∷ 4 ∷ 1
    ∷ 2 ∷ 2 ∷ 1 ∷ 1 ∷ 0 ∷ 4 ∷ 0 ∷ 2 ∷ 2 ∷ 5
    ∷ []

abbrev pub renamed_unused : List ℕ
renamed_unused =
    1 ∷ 4 ∷ 5 ∷ 4 ∷ 5 ∷ 2 ∷ 2 ∷ 2 ∷ 4
    ∷ 1 ∷ 0 ∷ 1 ∷ 2 ∷ 0 ∷ 1 ∷ 1 ∷ 1
    ∷ 1 ∷ 1 ∷ 1 ∷ 0 ∷ 1
    ∷ 2 ∷ 1 ∷ 0 ∷ 0 ∷ 3 ∷ 2 ∷ 1 ∷ 0 ∷ 1 ∷ 5 ∷ 0 ∷ 0 ∷ 3 ∷ 5 ∷ 1 ∷ 0
    ∷ 1 ∷ 2 ∷ 1 ∷ 0 ∷ 2 ∷ 0 ∷ 3 ∷ 0 ∷ 1 ∷ 0
    ∷ 1 ∷ 5 ∷ 0 ∷ 0 ∷ 2 ∷ 3 ∷ 4 ∷ 1
    ∷ 2 ∷ 2 ∷ 1 ∷ 1 ∷ 0 ∷ 4 ∷ 0 ∷ 2 ∷ 4 ∷ 5
    ∷ []

-- ∀x.∃x. p(x,x), two records bind x: both are renamed
abbrev pub twice : List ℕ
twice =
    1 ∷ 4 ∷ 4 ∷ 5 ∷ 2 ∷ 0 ∷ 0 ∷ 5 ∷ 0
    ∷ 1 ∷ 0 ∷ 1 ∷ 2 ∷ 0 ∷ 1 ∷ 1 ∷ 1
    ∷ 1 ∷ 1 ∷ 1 ∷ 0
    ∷ 1 ∷ 1 ∷ 0 ∷ 0 ∷ 1 ∷ 2 ∷ 0 ∷ 0 ∷ 2 ∷ 35 ∷ 1 ∷ 0 ∷ 4 ∷ 1 ∷ 3 ∷ 0 ∷ 3 ∷ 1 ∷ 4 ∷ 0
    ∷ 1 ∷ 2 ∷ 1 ∷ 0
    ∷ []

abbrev pub renamed_twice : List ℕ
renamed_twice =
    1 ∷ 4 ∷ 6 ∷ 10 ∷ 12 ∷ 4 ∷ 5 ∷ 5 ∷ 10
    ∷ 1 ∷ 0 ∷ 1 ∷ 2 ∷ 0 ∷ 1 ∷ 1 ∷ 1
    ∷ 1 ∷ 1 ∷ 1 ∷ 0 ∷ 1 ∷ 1
    ∷ 1 ∷ 1 ∷ 0 ∷ 0 ∷ 1 ∷ 2 ∷ 0 ∷ 0 ∷ 2 ∷ 35 ∷ 1 ∷ 0 ∷ 4 ∷ 1 ∷ 3 ∷ 0 ∷ 3 ∷ 1 ∷ 4 ∷ 0 ∷ 1 ∷ 5 ∷ 0 ∷ 0 ∷ 1 ∷ 6 ∷ 0 ∷ 0 ∷ 2 ∷ 35 ∷ 7 ∷ 0
    ∷ 4 ∷ 6 ∷ 8 ∷ 0 ∷ 3 ∷ 5 ∷ 9 ∷ 0
    ∷ 1 ∷ 2 ∷ 1 ∷ 0 ∷ 1 ∷ 0 ∷ 6 ∷ 0 ∷ 1 ∷ 0 ∷ 7 ∷ 0 ∷ 7 ∷ 8 ∷ 7 ∷ 0 ∷ 1 ∷ 10 ∷ 2 ∷ 0 ∷ 3 ∷ 0 ∷ 4 ∷ 0
    ∷ 1 ∷ 5 ∷ 0 ∷ 0 ∷ 2 ∷ 3 ∷ 4 ∷ 1 ∷ 1 ∷ 6 ∷ 0 ∷ 2 ∷ 2 ∷ 5 ∷ 6 ∷ 3
    ∷ 1 ∷ 4 ∷ 1 ∷ 7 ∷ 0 ∷ 1 ∷ 4 ∷ 1 ∷ 7 ∷ 0 ∷ 2 ∷ 4 ∷ 3 ∷ 8 ∷ 9 ∷ 4 ∷ 2 ∷ 4 ∷ 9 ∷ 11 ∷ 4 ∷ 0 ∷ 5 ∷ 10 ∷ 12
    ∷ []

-- a record that the rule does not reach, past it, binds x too: x is renamed
abbrev pub unreached : List ℕ
unreached =
    1 ∷ 4 ∷ 4 ∷ 5 ∷ 2 ∷ 0 ∷ 0 ∷ 4 ∷ 0
    ∷ 1 ∷ 0 ∷ 1 ∷ 2 ∷ 0 ∷ 1 ∷ 1 ∷ 1
    ∷ 1 ∷ 1 ∷ 1 ∷ 0
    ∷ 1 ∷ 1 ∷ 0 ∷ 0 ∷ 1 ∷ 2 ∷ 0 ∷ 0 ∷ 2 ∷ 35 ∷ 1 ∷ 0 ∷ 3 ∷ 1 ∷ 3 ∷ 0 ∷ 4 ∷ 1 ∷ 3 ∷ 0
    ∷ 1 ∷ 2 ∷ 1 ∷ 0
    ∷ []

abbrev pub renamed_unreached : List ℕ
renamed_unreached =
    1 ∷ 4 ∷ 5 ∷ 8 ∷ 9 ∷ 2 ∷ 4 ∷ 4 ∷ 8
    ∷ 1 ∷ 0 ∷ 1 ∷ 2 ∷ 0 ∷ 1 ∷ 1 ∷ 1
    ∷ 1 ∷ 1 ∷ 1 ∷ 0 ∷ 1
    ∷ 1 ∷ 1 ∷ 0 ∷ 0 ∷ 1 ∷ 2 ∷ 0 ∷ 0 ∷ 2 ∷ 35 ∷ 1 ∷ 0 ∷ 3 ∷ 1 ∷ 3 ∷ 0 ∷ 4 ∷ 1 ∷ 3 ∷ 0 ∷ 1 ∷ 5 ∷ 0 ∷ 0 ∷ 2 ∷ 35 ∷ 5 ∷ 0 ∷ 3 ∷ 5 ∷ 7 ∷ 0
    ∷ 1 ∷ 2 ∷ 1 ∷ 0 ∷ 1 ∷ 0 ∷ 6 ∷ 0 ∷ 6 ∷ 6 ∷ 6 ∷ 0 ∷ 1 ∷ 8 ∷ 2 ∷ 0 ∷ 3 ∷ 0
    ∷ 1 ∷ 5 ∷ 0 ∷ 0 ∷ 2 ∷ 3 ∷ 4 ∷ 1
    ∷ 1 ∷ 2 ∷ 1 ∷ 6 ∷ 0 ∷ 1 ∷ 2 ∷ 1 ∷ 6 ∷ 0 ∷ 2 ∷ 2 ∷ 3 ∷ 7 ∷ 7 ∷ 4 ∷ 0 ∷ 4 ∷ 8 ∷ 9
    ∷ []

-- a let that the rule does not reach, before it, lists x: x is renamed
abbrev pub unreached_let : List ℕ
unreached_let =
    1 ∷ 4 ∷ 4 ∷ 6 ∷ 3 ∷ 0 ∷ 0 ∷ 6 ∷ 0
    ∷ 1 ∷ 0 ∷ 1 ∷ 3 ∷ 0 ∷ 2 ∷ 1 ∷ 2
    ∷ 1 ∷ 1 ∷ 1 ∷ 0
    ∷ 1 ∷ 1 ∷ 0 ∷ 0 ∷ 1 ∷ 2 ∷ 0 ∷ 0 ∷ 2 ∷ 33 ∷ 0 ∷ 0 ∷ 2 ∷ 35 ∷ 2 ∷ 0 ∷ 5 ∷ 3 ∷ 1 ∷ 4 ∷ 3 ∷ 1 ∷ 4 ∷ 0
    ∷ 3 ∷ 0 ∷ 1 ∷ 3 ∷ 1 ∷ 0
    ∷ []

abbrev pub renamed_unreached_let : List ℕ
renamed_unreached_let =
    1 ∷ 4 ∷ 5 ∷ 9 ∷ 10 ∷ 2 ∷ 4 ∷ 6 ∷ 9
    ∷ 1 ∷ 0 ∷ 1 ∷ 3 ∷ 0 ∷ 2 ∷ 1 ∷ 2
    ∷ 1 ∷ 1 ∷ 1 ∷ 0 ∷ 1
    ∷ 1 ∷ 1 ∷ 0 ∷ 0 ∷ 1 ∷ 2 ∷ 0 ∷ 0 ∷ 2 ∷ 33 ∷ 0 ∷ 0 ∷ 2 ∷ 35 ∷ 2 ∷ 0 ∷ 5 ∷ 3 ∷ 1 ∷ 4 ∷ 3 ∷ 1 ∷ 4 ∷ 0 ∷ 1 ∷ 5 ∷ 0 ∷ 0 ∷ 2 ∷ 35 ∷ 6 ∷ 0
    ∷ 3 ∷ 5 ∷ 8 ∷ 0
    ∷ 3 ∷ 0 ∷ 1 ∷ 3 ∷ 1 ∷ 0 ∷ 1 ∷ 0 ∷ 7 ∷ 0 ∷ 7 ∷ 7 ∷ 7 ∷ 0 ∷ 1 ∷ 9 ∷ 2 ∷ 0 ∷ 3 ∷ 0
    ∷ 1 ∷ 5 ∷ 0 ∷ 0 ∷ 2 ∷ 4 ∷ 5 ∷ 1
    ∷ 1 ∷ 2 ∷ 1 ∷ 7 ∷ 0 ∷ 1 ∷ 2 ∷ 1 ∷ 7 ∷ 0 ∷ 2 ∷ 2 ∷ 4 ∷ 8 ∷ 8 ∷ 4 ∷ 0 ∷ 6 ∷ 9 ∷ 10
    ∷ []

-- one record, visited twice: x is kept at each visit
abbrev pub shared : List ℕ
shared =
    1 ∷ 4 ∷ 4 ∷ 5 ∷ 4 ∷ 0 ∷ 0 ∷ 5 ∷ 0
    ∷ 1 ∷ 0 ∷ 1 ∷ 4 ∷ 0 ∷ 3 ∷ 1 ∷ 3
    ∷ 1 ∷ 1 ∷ 1 ∷ 0
    ∷ 1 ∷ 1 ∷ 0 ∷ 0 ∷ 1 ∷ 2 ∷ 0 ∷ 0 ∷ 2 ∷ 35 ∷ 3 ∷ 0 ∷ 3 ∷ 1 ∷ 3 ∷ 0 ∷ 2 ∷ 4 ∷ 1 ∷ 0
    ∷ 4 ∷ 2 ∷ 4 ∷ 0 ∷ 1 ∷ 4 ∷ 1 ∷ 0
    ∷ []

abbrev pub kept_shared : List ℕ
kept_shared =
    1 ∷ 4 ∷ 4 ∷ 5 ∷ 16 ∷ 4 ∷ 9 ∷ 5 ∷ 5
    ∷ 1 ∷ 0 ∷ 1 ∷ 4 ∷ 0 ∷ 3 ∷ 1 ∷ 3
    ∷ 1 ∷ 1 ∷ 1 ∷ 0
    ∷ 1 ∷ 1 ∷ 0 ∷ 0 ∷ 1 ∷ 2 ∷ 0 ∷ 0 ∷ 2 ∷ 35 ∷ 3 ∷ 0 ∷ 3 ∷ 1 ∷ 3 ∷ 0 ∷ 2 ∷ 4 ∷ 1 ∷ 0
    ∷ 4 ∷ 2 ∷ 4 ∷ 0 ∷ 1 ∷ 4 ∷ 1 ∷ 0 ∷ 1 ∷ 0 ∷ 1 ∷ 0 ∷ 1 ∷ 8 ∷ 2 ∷ 0 ∷ 3 ∷ 0 ∷ 1 ∷ 0 ∷ 1 ∷ 0 ∷ 5 ∷ 13 ∷ 6 ∷ 0 ∷ 7 ∷ 0 ∷ 4 ∷ 16 ∷ 8 ∷ 0
    ∷ 1 ∷ 1 ∷ 0 ∷ 0 ∷ 2 ∷ 5 ∷ 6 ∷ 1 ∷ 1 ∷ 1 ∷ 0 ∷ 0 ∷ 2 ∷ 10 ∷ 11 ∷ 3
    ∷ 1 ∷ 2 ∷ 1 ∷ 1 ∷ 0 ∷ 1 ∷ 2 ∷ 1 ∷ 1 ∷ 0 ∷ 2 ∷ 2 ∷ 3 ∷ 3 ∷ 7 ∷ 4 ∷ 0 ∷ 4 ∷ 4 ∷ 9 ∷ 1 ∷ 4 ∷ 1 ∷ 1 ∷ 0 ∷ 1 ∷ 4 ∷ 1 ∷ 1 ∷ 0
    ∷ 2 ∷ 4 ∷ 3 ∷ 3 ∷ 12 ∷ 4 ∷ 0 ∷ 4 ∷ 4 ∷ 14 ∷ 2 ∷ 0 ∷ 5 ∷ 5 ∷ 15
    ∷ []

abbrev pub renamed_shared : List ℕ
renamed_shared =
    1 ∷ 4 ∷ 6 ∷ 12 ∷ 22 ∷ 4 ∷ 9 ∷ 5 ∷ 12
    ∷ 1 ∷ 0 ∷ 1 ∷ 4 ∷ 0 ∷ 3 ∷ 1 ∷ 3
    ∷ 1 ∷ 1 ∷ 1 ∷ 0 ∷ 1 ∷ 1
    ∷ 1 ∷ 1 ∷ 0 ∷ 0 ∷ 1 ∷ 2 ∷ 0 ∷ 0 ∷ 2 ∷ 35 ∷ 3 ∷ 0 ∷ 3 ∷ 1 ∷ 3 ∷ 0 ∷ 2 ∷ 4 ∷ 1 ∷ 0 ∷ 1 ∷ 5 ∷ 0 ∷ 0 ∷ 2 ∷ 35 ∷ 7 ∷ 0 ∷ 3 ∷ 5 ∷ 7 ∷ 0
    ∷ 1 ∷ 6 ∷ 0 ∷ 0 ∷ 2 ∷ 35 ∷ 14 ∷ 0 ∷ 3 ∷ 6 ∷ 10 ∷ 0 ∷ 2 ∷ 4 ∷ 19 ∷ 0
    ∷ 4 ∷ 2 ∷ 4 ∷ 0 ∷ 1 ∷ 4 ∷ 1 ∷ 0 ∷ 1 ∷ 0 ∷ 6 ∷ 0 ∷ 6 ∷ 8 ∷ 6 ∷ 0 ∷ 1 ∷ 10 ∷ 2 ∷ 0 ∷ 3 ∷ 0 ∷ 1 ∷ 0 ∷ 9 ∷ 0 ∷ 9 ∷ 15 ∷ 9 ∷ 0 ∷ 5 ∷ 17
    ∷ 6 ∷ 0 ∷ 7 ∷ 0 ∷ 8 ∷ 20 ∷ 11 ∷ 0 ∷ 4 ∷ 22 ∷ 8 ∷ 0
    ∷ 1 ∷ 5 ∷ 0 ∷ 0 ∷ 2 ∷ 5 ∷ 6 ∷ 1 ∷ 1 ∷ 6 ∷ 0 ∷ 0 ∷ 2 ∷ 12 ∷ 13 ∷ 3
    ∷ 1 ∷ 2 ∷ 1 ∷ 6 ∷ 0 ∷ 1 ∷ 2 ∷ 1 ∷ 6 ∷ 0 ∷ 2 ∷ 2 ∷ 3 ∷ 7 ∷ 9 ∷ 4 ∷ 0 ∷ 4 ∷ 8 ∷ 11 ∷ 1 ∷ 4 ∷ 1 ∷ 9 ∷ 0 ∷ 1 ∷ 4 ∷ 1 ∷ 9 ∷ 0
    ∷ 2 ∷ 4 ∷ 3 ∷ 10 ∷ 16 ∷ 4 ∷ 0 ∷ 4 ∷ 11 ∷ 18 ∷ 2 ∷ 0 ∷ 5 ∷ 12 ∷ 21
    ∷ []

-- ∀x. let v ≃ f(x) in p(v, εx. p(x,v)): two records bind x, a for-all's and a choice's, and both are renamed. Here symbol 33 is f, from an item to an item,
-- and 34 is p.
abbrev pub choice_below_let : List ℕ
choice_below_let =
    1 ∷ 2 ∷ 2 ∷ 8 ∷ 10 ∷ 0 ∷ 0 ∷ 8 ∷ 0
    ∷ 1 ∷ 1 ∷ 0 ∷ 2
    ∷ 1 ∷ 1
    ∷ 1 ∷ 1 ∷ 0 ∷ 0 ∷ 1 ∷ 2 ∷ 0 ∷ 0 ∷ 2 ∷ 34 ∷ 4 ∷ 0 ∷ 6 ∷ 1 ∷ 3 ∷ 0 ∷ 2 ∷ 33 ∷ 6 ∷ 0 ∷ 2 ∷ 34 ∷ 7 ∷ 0 ∷ 5 ∷ 9 ∷ 10 ∷ 6 ∷ 3 ∷ 1 ∷ 7 ∷ 0
    ∷ 1 ∷ 0 ∷ 1 ∷ 3 ∷ 1 ∷ 0 ∷ 1 ∷ 5 ∷ 2 ∷ 0 ∷ 1 ∷ 0 ∷ 2 ∷ 8 ∷ 4 ∷ 0 ∷ 2 ∷ 0 ∷ 5 ∷ 0
    ∷ []

abbrev pub renamed_choice_below_let : List ℕ
renamed_choice_below_let =
    1 ∷ 2 ∷ 4 ∷ 15 ∷ 29 ∷ 5 ∷ 10 ∷ 8 ∷ 15
    ∷ 1 ∷ 1 ∷ 0 ∷ 2
    ∷ 1 ∷ 1 ∷ 1 ∷ 1
    ∷ 1 ∷ 1 ∷ 0 ∷ 0 ∷ 1 ∷ 2 ∷ 0 ∷ 0 ∷ 2 ∷ 34 ∷ 4 ∷ 0 ∷ 6 ∷ 1 ∷ 3 ∷ 0 ∷ 2 ∷ 33 ∷ 6 ∷ 0 ∷ 2 ∷ 34 ∷ 7 ∷ 0 ∷ 5 ∷ 9 ∷ 10 ∷ 6 ∷ 3 ∷ 1 ∷ 7 ∷ 0 ∷ 1 ∷ 3 ∷ 0
    ∷ 0 ∷ 2 ∷ 33 ∷ 13 ∷ 0 ∷ 1 ∷ 4 ∷ 0 ∷ 0 ∷ 2 ∷ 34 ∷ 18 ∷ 0 ∷ 6 ∷ 4 ∷ 12 ∷ 0 ∷ 2 ∷ 34 ∷ 23 ∷ 0 ∷ 3 ∷ 3 ∷ 14 ∷ 0
    ∷ 1 ∷ 0 ∷ 1 ∷ 3 ∷ 1 ∷ 0 ∷ 1 ∷ 5 ∷ 2 ∷ 0 ∷ 1 ∷ 0 ∷ 2 ∷ 8 ∷ 4 ∷ 0 ∷ 2 ∷ 0 ∷ 5 ∷ 0 ∷ 1 ∷ 0 ∷ 9 ∷ 0 ∷ 9 ∷ 0 ∷ 1 ∷ 0 ∷ 10 ∷ 0 ∷ 1 ∷ 0 ∷ 11 ∷ 0 ∷ 11
    ∷ 19 ∷ 10 ∷ 0 ∷ 4 ∷ 21 ∷ 5 ∷ 0 ∷ 6 ∷ 0 ∷ 10 ∷ 24 ∷ 13 ∷ 0 ∷ 3 ∷ 26 ∷ 7 ∷ 0 ∷ 2 ∷ 28 ∷ 8 ∷ 0 ∷ 9 ∷ 0
    ∷ 1 ∷ 3 ∷ 0 ∷ 0 ∷ 2 ∷ 11 ∷ 12 ∷ 1 ∷ 2 ∷ 9 ∷ 15 ∷ 2 ∷ 1 ∷ 4 ∷ 0 ∷ 3 ∷ 2 ∷ 16 ∷ 17 ∷ 4
    ∷ 1 ∷ 2 ∷ 1 ∷ 9 ∷ 0 ∷ 2 ∷ 2 ∷ 5 ∷ 10 ∷ 14 ∷ 1 ∷ 3 ∷ 2 ∷ 10 ∷ 0 ∷ 1 ∷ 5 ∷ 1 ∷ 11 ∷ 0 ∷ 1 ∷ 5 ∷ 2 ∷ 10 ∷ 0 ∷ 2 ∷ 5 ∷ 3 ∷ 12 ∷ 20 ∷ 4 ∷ 3 ∷ 4 ∷ 13
    ∷ 22 ∷ 2 ∷ 3 ∷ 6 ∷ 14 ∷ 25 ∷ 5 ∷ 2 ∷ 7 ∷ 14 ∷ 27 ∷ 4 ∷ 0 ∷ 8 ∷ 15 ∷ 29
    ∷ []

-- ∃y. p(εx. p(x,y), y), one record, a choice's, binds x: x is kept, and so is y
abbrev pub choice_once : List ℕ
choice_once =
    1 ∷ 4 ∷ 4 ∷ 6 ∷ 9 ∷ 0 ∷ 0 ∷ 6 ∷ 0
    ∷ 1 ∷ 0 ∷ 1 ∷ 1 ∷ 0 ∷ 2 ∷ 1 ∷ 4
    ∷ 1 ∷ 1 ∷ 1 ∷ 0
    ∷ 1 ∷ 1 ∷ 0 ∷ 0 ∷ 1 ∷ 2 ∷ 0 ∷ 0 ∷ 2 ∷ 35 ∷ 6 ∷ 0 ∷ 6 ∷ 1 ∷ 3 ∷ 0 ∷ 2 ∷ 35 ∷ 8 ∷ 0 ∷ 4 ∷ 2 ∷ 5 ∷ 0
    ∷ 1 ∷ 0 ∷ 1 ∷ 3 ∷ 1 ∷ 0 ∷ 1 ∷ 5 ∷ 1 ∷ 0 ∷ 1 ∷ 7 ∷ 2 ∷ 0 ∷ 4 ∷ 9 ∷ 2 ∷ 0
    ∷ []

abbrev pub kept_choice_once : List ℕ
kept_choice_once =
    1 ∷ 4 ∷ 4 ∷ 6 ∷ 19 ∷ 4 ∷ 7 ∷ 6 ∷ 6
    ∷ 1 ∷ 0 ∷ 1 ∷ 1 ∷ 0 ∷ 2 ∷ 1 ∷ 4
    ∷ 1 ∷ 1 ∷ 1 ∷ 0
    ∷ 1 ∷ 1 ∷ 0 ∷ 0 ∷ 1 ∷ 2 ∷ 0 ∷ 0 ∷ 2 ∷ 35 ∷ 6 ∷ 0 ∷ 6 ∷ 1 ∷ 3 ∷ 0 ∷ 2 ∷ 35 ∷ 8 ∷ 0 ∷ 4 ∷ 2 ∷ 5 ∷ 0
    ∷ 1 ∷ 0 ∷ 1 ∷ 3 ∷ 1 ∷ 0 ∷ 1 ∷ 5 ∷ 1 ∷ 0 ∷ 1 ∷ 7 ∷ 2 ∷ 0 ∷ 4 ∷ 9 ∷ 2 ∷ 0 ∷ 2 ∷ 0 ∷ 2 ∷ 0 ∷ 1 ∷ 0 ∷ 1 ∷ 0 ∷ 1 ∷ 15 ∷ 2 ∷ 0 ∷ 3 ∷ 0 ∷ 4 ∷ 18 ∷ 5 ∷ 0
    ∷ 6 ∷ 0
    ∷ 1 ∷ 2 ∷ 0 ∷ 0 ∷ 2 ∷ 10 ∷ 11 ∷ 1 ∷ 1 ∷ 1 ∷ 0 ∷ 2 ∷ 2 ∷ 12 ∷ 13 ∷ 3
    ∷ 1 ∷ 4 ∷ 1 ∷ 1 ∷ 0 ∷ 1 ∷ 4 ∷ 2 ∷ 2 ∷ 0 ∷ 2 ∷ 4 ∷ 3 ∷ 3 ∷ 14 ∷ 4 ∷ 2 ∷ 4 ∷ 4 ∷ 16 ∷ 1 ∷ 2 ∷ 2 ∷ 2 ∷ 0 ∷ 2 ∷ 2 ∷ 5 ∷ 5 ∷ 17 ∷ 4 ∷ 0 ∷ 6 ∷ 6 ∷ 19
    ∷ []

abbrev pub renamed_choice_once : List ℕ
renamed_choice_once =
    1 ∷ 4 ∷ 6 ∷ 12 ∷ 23 ∷ 4 ∷ 7 ∷ 6 ∷ 12
    ∷ 1 ∷ 0 ∷ 1 ∷ 1 ∷ 0 ∷ 2 ∷ 1 ∷ 4
    ∷ 1 ∷ 1 ∷ 1 ∷ 0 ∷ 1 ∷ 1
    ∷ 1 ∷ 1 ∷ 0 ∷ 0 ∷ 1 ∷ 2 ∷ 0 ∷ 0 ∷ 2 ∷ 35 ∷ 6 ∷ 0 ∷ 6 ∷ 1 ∷ 3 ∷ 0 ∷ 2 ∷ 35 ∷ 8 ∷ 0 ∷ 4 ∷ 2 ∷ 5 ∷ 0 ∷ 1 ∷ 5 ∷ 0 ∷ 0 ∷ 1 ∷ 6 ∷ 0 ∷ 0 ∷ 2 ∷ 35 ∷ 14
    ∷ 0 ∷ 6 ∷ 6 ∷ 9 ∷ 0 ∷ 2 ∷ 35 ∷ 19 ∷ 0 ∷ 4 ∷ 5 ∷ 11 ∷ 0
    ∷ 1 ∷ 0 ∷ 1 ∷ 3 ∷ 1 ∷ 0 ∷ 1 ∷ 5 ∷ 1 ∷ 0 ∷ 1 ∷ 7 ∷ 2 ∷ 0 ∷ 4 ∷ 9 ∷ 2 ∷ 0 ∷ 2 ∷ 0 ∷ 7 ∷ 0 ∷ 1 ∷ 0 ∷ 8 ∷ 0 ∷ 8 ∷ 15 ∷ 7 ∷ 0 ∷ 1 ∷ 17 ∷ 2 ∷ 0 ∷ 3 ∷ 0
    ∷ 10 ∷ 20 ∷ 7 ∷ 0 ∷ 4 ∷ 22 ∷ 5 ∷ 0 ∷ 6 ∷ 0
    ∷ 1 ∷ 5 ∷ 0 ∷ 0 ∷ 2 ∷ 10 ∷ 11 ∷ 1 ∷ 1 ∷ 6 ∷ 0 ∷ 2 ∷ 2 ∷ 12 ∷ 13 ∷ 3
    ∷ 1 ∷ 4 ∷ 1 ∷ 8 ∷ 0 ∷ 1 ∷ 4 ∷ 2 ∷ 7 ∷ 0 ∷ 2 ∷ 4 ∷ 3 ∷ 9 ∷ 16 ∷ 4 ∷ 2 ∷ 4 ∷ 10 ∷ 18 ∷ 1 ∷ 2 ∷ 2 ∷ 7 ∷ 0 ∷ 2 ∷ 2 ∷ 5 ∷ 11 ∷ 21 ∷ 4 ∷ 0 ∷ 6 ∷ 12 ∷ 23
    ∷ []

-- ---- the statement

pub record NamesRight : Type 0 where
  -- its names are all kept
  pub once_itself : NamesKept Keep (bundle_of (encode once)) (tree (bundle_of (encode once)) 4)
  pub once_kept : written Keep once ≡ kept_once
  pub once_renamed : written RenameAll once ≡ renamed_once
  pub unused_kept : written Keep unused ≡ kept_unused
  pub unused_renamed : written RenameAll unused ≡ renamed_unused
  pub twice_kept : written Keep twice ≡ renamed_twice
  pub twice_renamed : written RenameAll twice ≡ renamed_twice
  pub unreached_kept : written Keep unreached ≡ renamed_unreached
  pub unreached_renamed : written RenameAll unreached ≡ renamed_unreached
  pub unreached_let_kept : written Keep unreached_let ≡ renamed_unreached_let
  pub unreached_let_renamed : written RenameAll unreached_let ≡ renamed_unreached_let
  pub shared_kept : written Keep shared ≡ kept_shared
  pub shared_renamed : written RenameAll shared ≡ renamed_shared
  pub choice_below_let_kept : written Keep choice_below_let ≡ renamed_choice_below_let
  pub choice_below_let_renamed : written RenameAll choice_below_let ≡ renamed_choice_below_let
  pub choice_once_kept : written Keep choice_once ≡ kept_choice_once
  pub choice_once_renamed : written RenameAll choice_once ≡ renamed_choice_once
