-- Laws that the functions' proofs share, here and in the crates above. Each file stands on those above it.
--     WordCases       a run is one of the twelve words, or a name
--     WordNumbers     the numbers that words stand for
--     LexemeLaws      the next lexeme of a text whose lexemes are known
pub mod WordCases
pub mod WordNumbers
pub mod LexemeLaws
