-- THE TWELVE EXAMPLES of document 01, computed from the bytes.
--     twelve_right   THE THEOREM: every row of the table is right, its answer and its areas
--     clash_is       row 7's file stands for the bundle of logic's counter-example
use mathlib.Core.Path.{◌≡◌, refl}
use Rattle.bundle.specs.Words.{encode}
use Rattle.bundle.specs.File.{bundle_of}
use Rattle.logic.proofs.CounterExample.{counter_example}
use Rattle.judgement.specs.Judge.{judge, area_after}
use Rattle.expansion.specs.Expansion.{expansion}
use Rattle.expansion.specs.ExampleFiles.{name_clash}
use Rattle.expansion.specs.Examples.{firsts, TwelveRight}

-- a row, and those after it
infixr 40 ◌and◌
◌and◌ : {P Q : Type 0} → P → Q → P × Q
p and q = (p, q)

pub twelve_right : TwelveRight
unfolding encode judge area_after expansion firsts
twelve_right =
    -- 1, and with two words more
    (refl, refl)
    and (refl, refl)
    -- 2
    and (refl, refl)
    -- 3
    and (refl, refl)
    -- 4
    and (refl, refl)
    -- 5, empty and of 35 bytes
    and (refl, refl)
    and (refl, refl)
    -- 6
    and (refl, refl)
    -- 7
    and (refl, refl)
    -- 8, to x and to a
    and (refl, refl)
    and (refl, refl)
    -- 9
    and (refl, refl)
    -- 10
    and (refl, refl)
    -- 11 under both choices, and its file checked
    and (refl, refl, refl, refl)
    and (refl, refl, refl, refl)
    and (refl, refl)
    -- 12, to y and to x
    and (refl, refl)
    and (refl, refl)
    and tt

-- so what logic shows of that bundle is of this file
pub clash_is : bundle_of (encode name_clash) ≡ counter_example
unfolding encode bundle_of
clash_is = refl
