-- What the contracts cite.
--     TermSets   what lent memory says of the free variables of terms
--     FreeSets   the free sets of all terms, in lent words
--     Spread     sets of few words made sets of more
pub mod TermSets
pub mod FreeSets
pub mod Spread
