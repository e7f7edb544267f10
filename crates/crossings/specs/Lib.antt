-- What the contracts of this crate say of the walk of whole-term REFL.
--     Places   what two arrays hold of the binders crossed
--     Pairs    what a pair of terms meets by itself, without its parts
pub mod Places
pub mod Pairs
