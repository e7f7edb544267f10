-- What the contracts cite.
--     Passing   what is placed in one pass: the words, the stack and the counts after each call
pub mod Passing
