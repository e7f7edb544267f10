-- What the contracts of inner functions cite.
--     Notes   what is noted of terms and of long lists of them
pub mod Notes
