-- Laws that the functions' proofs share, here and in the crates above. Each file stands on those above it.
--     Tails         a text from some byte on
--     ClassLaws     classes of bytes by their numbers
--     CommonLaws    runs compared with words, as code does it
--     FirstBytes    the lexeme that a run is, by its first byte
--     NumeralLaws   a letter and a numeral, digit by digit; the names of a bundle by its counts
--     SkipLaws      the search for a lexeme, byte by byte
--     LexemeLaws    the next lexeme
pub mod Tails
pub mod ClassLaws
pub mod CommonLaws
pub mod FirstBytes
pub mod NumeralLaws
pub mod SkipLaws
pub mod LexemeLaws
