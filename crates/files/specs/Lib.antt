-- What the contracts cite.
--     Copies   words of a file, one after another, and their copy
--     Stores   words stored as bytes
pub mod Copies
pub mod Stores
