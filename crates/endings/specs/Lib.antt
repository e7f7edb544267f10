-- What the contracts of this crate, and of those above it, cite.
--     ReadOutcomes   what is answered where a formula, or the parts of one, have been read
pub mod ReadOutcomes
