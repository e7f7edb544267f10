-- Laws that the functions' proofs share. Each file stands on those above it.
--     Stamps     places of variables among those crossed
--     Places     what the arrays hold, where a binder is crossed, and where that is taken back
--     Captures   the variables bound on the right against those free in a term
--     Pairs      pairs of terms that meet, by what code reads of them
pub mod Stamps
pub mod Places
pub mod Captures
pub mod Pairs
