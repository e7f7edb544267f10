-- Laws that the functions' proofs share, here and in the crates above. Each file stands on those above it.
--     Seeks        the first term that passes a test
--     FiledTerms   terms filed by their digests, and the walk down the chain of a digest
pub mod Seeks
pub mod FiledTerms
