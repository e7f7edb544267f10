-- Laws that the functions' proofs share, here and in the crates above. Each file stands on those above it.
--     OutcomeFacts      what an outcome tells, and what is too much
--     Pairs             the stack of pairs
--     Placings          lists appended, and terms placed by the lookup and the appends
pub mod OutcomeFacts
pub mod Pairs
pub mod Placings
