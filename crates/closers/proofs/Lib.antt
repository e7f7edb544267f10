-- Laws that the functions' proofs share, here and in the crate above.
--     Closings     a list, and then a record
pub mod Closings
