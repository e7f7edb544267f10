-- Sorts of a text judged bracket by bracket, with no stack. Each file stands on those above it.
--     Brackets   brackets counted: what follows a formula, the parts of a bracket
--     Nodes      sorts and each node's test, on lexemes; THE THEOREM as a type
--     Texts      what code finds at the front of a text
pub mod Brackets
pub mod Nodes
pub mod Texts
