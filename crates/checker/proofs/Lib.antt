-- Laws that the functions' proofs share. Each file stands on those above it.
--     Answers   the answer and the area, from what the code finds
pub mod Answers
