-- What the contracts of inner functions cite.
--     Digests     digests of term records, and terms filed by them
pub mod Digests
