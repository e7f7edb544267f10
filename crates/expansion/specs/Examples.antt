-- THE TWELVE EXAMPLES of document 01, as rows of one table: a call, the answer that its definition gives, and all that is left in the lent areas.
--     rows          the table, in document 01's order
--     TwelveRight   THE STATEMENT: every row is right; proofs/ has it under the name `twelve_right`
use Rattle.std.specs.Prelude.{ℕ, ◌≡◌, List, [], ◌∷◌, ◌++◌, replicate}
use Rattle.bundle.specs.Words.{encode}
use Rattle.logic.specs.Lists.{All}
use Rattle.judgement.specs.Answer.{Answer, Accepted, Refused}
use Rattle.judgement.specs.Judge.{judge, area_after}
use Rattle.expansion.specs.declared.Names.{Names}
use Rattle.expansion.specs.declared.Names.TheVariants.{Keep, RenameAll}
use Rattle.expansion.specs.Answer.{Answer as Reply, Written}
use Rattle.expansion.specs.Expansion.{expansion}
use Rattle.expansion.specs.ExampleFiles.{printed, bare, name_clash, fixed, unsettled, repeated, job, file, swapped}

-- ---- the table

pub data Row : Type 0 where
  -- a file, by its bytes, and how many words are lent with it; the answer, and those words after the call
  check : (f : List ℕ) (lent : ℕ) → Answer → (area : List ℕ) → Row
  -- a choice of names and a job, by its bytes, and how many bytes of output, words of 32 bits and words of 64 bits are lent with it; the answer, and
  -- those bytes and words after the call
  expand : (names : Names) (f : List ℕ) (out words sets : ℕ) → Reply → (out' words' sets' : List ℕ) → Row

-- what the definitions give is what the row says
abbrev pub Right : Row → Type 0
Right (check f lent answer area) = (judge f lent ≡ answer) × (area_after f lent ≡ area)
Right (expand names f out words sets answer out' words' sets') =
    ((expansion names f out words sets).answer ≡ answer)
    × ((expansion names f out words sets).out ≡ out')
    × ((expansion names f out words sets).words ≡ words')
    × ((expansion names f out words sets).sets ≡ sets')

-- free sets of four words each, one after another, with no variable above 64: the first word of each is given here, the others are zero
unfoldable pub firsts : List ℕ → List ℕ
firsts [] = []
firsts (x ∷ xs) = x ∷ 0 ∷ 0 ∷ 0 ∷ firsts xs

-- no REFL of these files is walked: document 01's two forms take them all
abbrev pub accepted : List ℕ → ℕ → ℕ → ℕ → List ℕ → Row
accepted f lent left right area = check f lent (Accepted (record { left = left; right = right; pairs = 0 })) area

-- every lent word is then zero
abbrev pub refused : List ℕ → ℕ → ℕ → ℕ → Row
refused f lent number i = check f lent (Refused number i) (replicate lent 0)

abbrev pub rows : List Row
rows =
    -- 1. The printed file; free sets 1, 0, 1, 0, 0.
    accepted (encode (printed 4 4 0)) 20 5 4 (firsts (1 ∷ 0 ∷ 1 ∷ 0 ∷ 0 ∷ []))
    -- The same with two words more: the rest is zero.
    ∷ accepted (encode (printed 4 4 0)) 22 5 4 (firsts (1 ∷ 0 ∷ 1 ∷ 0 ∷ 0 ∷ []) ++ (0 ∷ 0 ∷ []))
    -- 2. Claimed right 2: 15, record 0.
    ∷ refused (encode (printed 2 4 0)) 20 15 0
    -- 3. Step 3's right 3: 13, record 3.
    ∷ refused (encode (printed 4 3 0)) 20 13 3
    -- 4. Link 2's next 1: 5, record 2.
    ∷ refused (encode (printed 4 4 1)) 20 5 2
    -- 5. Empty input, and 35 bytes: 1.
    ∷ refused [] 20 1 0
    ∷ refused (replicate 35 0) 20 1 0
    -- 6. 36 bytes, version 1, all else zero: 15.
    ∷ refused (encode bare) 20 15 0
    -- 7. The ∀y example: 14 at the inner BIND.
    ∷ refused (encode name_clash) 44 14 5
    -- 8. Replacing x by a, then fixing x: the image is x,
    ∷ accepted (encode (fixed 1)) 20 5 4 (firsts (1 ∷ 0 ∷ 1 ∷ 0 ∷ 0 ∷ []))
    -- and not a.
    ∷ refused (encode (fixed 2)) 20 13 2
    -- 9. TRANS with middle p(x,x) where x becomes a: 14.
    ∷ refused (encode unsettled) 36 14 6
    -- 10. A let over x, x: 8.
    ∷ refused (encode repeated) 20 8 5
    -- 11. The writer on let x≃a in p(x,x) with four terms, with areas of the least lengths: a file of 356 bytes, zeros after them, scratch ends zero;
    ∷ expand Keep (encode job) 58916 14729 4096 (Written 356) (encode file ++ replicate 58560 0) (replicate 14729 0) (replicate 4096 0)
    -- the same where all names are to be new: no binder is here.
    ∷ expand RenameAll (encode job) 58916 14729 4096 (Written 356) (encode file ++ replicate 58560 0) (replicate 14729 0) (replicate 4096 0)
    -- That file is accepted; right is term 5.
    ∷ accepted (encode file) 20 4 5 (firsts (1 ∷ 0 ∷ 1 ∷ 0 ∷ 0 ∷ []))
    -- 12. x and y fixed, then replaced by y and x together: REFL takes x to y,
    ∷ accepted (encode (swapped 2)) 36 7 9 (firsts (1 ∷ 2 ∷ 3 ∷ 3 ∷ 3 ∷ 1 ∷ 0 ∷ 1 ∷ 0 ∷ []))
    -- and not to x.
    ∷ refused (encode (swapped 1)) 36 13 3
    ∷ []

-- ---- the statement

abbrev pub TwelveRight : Type 0
TwelveRight = All Right rows
