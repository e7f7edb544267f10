-- Laws that the functions' proofs share, here and in the crates above. Each file stands on those above it.
--     SetWords     the words of a set from its members
--     FreeWords    free variables and terms in scope, as words that may hold anything have them
--     HeldSets     an area that is `free_area` holds the free sets
--     SpreadAreas  an area of sets of few words, spread out
pub mod SetWords
pub mod FreeWords
pub mod HeldSets
pub mod SpreadAreas
