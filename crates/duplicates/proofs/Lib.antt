-- Laws that the functions' proofs share. Each file stands on those above it.
--     Digests      terms filed by their digests
pub mod Digests
