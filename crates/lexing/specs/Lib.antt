-- Lexemes of a text, as code finds them. Each file stands on those above it.
--     Codes     the numbers of classes of bytes and of words
--     Common    how many bytes two runs have in common
--     Counted   names of declared symbols and variables, by how many there are
--     Words     words, lexemes and classes of bytes as the code names them
--     Lexes     THE NEXT LEXEME, what is skipped before it, and what is left behind it
pub mod Codes
pub mod Common
pub mod Counted
pub mod Words
pub mod Lexes
