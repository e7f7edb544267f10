-- What the contracts cite.
--     Texts     what refuses a text before its records are placed
--     Storing   what storing the job of a text asks and gives
pub mod Texts
pub mod Storing
