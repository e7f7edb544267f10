-- Laws and theorems. Each file stands on those above it.
--     Machine       the stack machine on lexemes reads exactly the spellings; spellings are different
--     Words         words that grow
--     Bytewise      the parser on bytes reads what the machine reads from the lexemes
--     Completions   whatever is due can be supplied
--     Exact         THE THEOREMS: one reading; read exactly; unread exactly
--     NamesMet      the names that the parser meets
--     NamesExact    THE THEOREMS of 19 and 20 together
--     NamesPlaced   where the names stand: whole, before the byte of 19, with the kind due
--     Erased        THE THEOREM: the parser that keeps no formula gives the same verdict
--     Quantifiers   each binder of a formula that a text spells is a quantifier
--     Examples      the examples
pub mod Machine
pub mod Words
pub mod Bytewise
pub mod Completions
pub mod Exact
pub mod NamesMet
pub mod NamesExact
pub mod NamesPlaced
pub mod Erased
pub mod Quantifiers
pub mod Examples
