-- Laws that the functions' proofs share. Each file stands on those above it.
--     Rooted      a term of well-formed tables stands for its node
--     JobTests    18, 15, 17, as the code tests for them
--     Expanding   the answer of the expansion, as the code comes to it
pub mod Rooted
pub mod JobTests
pub mod Expanding
