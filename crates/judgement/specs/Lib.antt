-- The answer to every file, and what is demanded of it. Each file stands on those above it.
--     Answer    the two answers, and how the code gives them
--     Judge     the answer for every file and every length of the lent area, and what is left there
--     Order     document 01's one order of checks, as one list
--     Demands   THE DEMANDS, as types: proofs/ has each under the same name
pub mod Answer
pub mod Judge
pub mod Order
pub mod Demands
