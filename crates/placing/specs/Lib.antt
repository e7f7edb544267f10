-- What the contracts of this crate, and of those above it, cite.
--     Outcomes   what the inner functions of the writer answer
pub mod Outcomes
