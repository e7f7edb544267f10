-- Laws that the functions' proofs share, here and in the crates above.
--     Sections   the first fault of links, symbols and variables, before what comes after them
pub mod Sections
