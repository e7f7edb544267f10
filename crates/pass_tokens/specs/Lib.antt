-- What the contracts cite.
--     Tokens   what stands at a byte of a text, where it is what is due
pub mod Tokens
