-- Texts of formulas (document 02, Req 01), names apart from what they name. Each file stands on those above it.
--     Bytes        classes of bytes; the twelve words and names
--     Grammar      THE GRAMMAR: formulas as they are written, how they are spelled, bytes into lexemes, which texts are in it, the byte of 19
--     Parser       THE PARSER: what is due, a stack of it, one lexeme, one byte
--     Names        the names of a formula and of a text, the kind due where each stands, refusal 20
--     Examples     examples of bytes and texts
--     Statements   the theorems, as types: proofs/ has each under the same name
pub mod Bytes
pub mod Grammar
pub mod Parser
pub mod Names
pub mod Examples
pub mod Statements
