-- Laws that the functions' proofs share, here and in the crates above. Each file stands on those above it.
--     ScratchFields   the counts are the lengths of the sections; each section ends within the words
--     Appended        words stored at the end of a section are a record appended
--     Halves          the results, or the steps, of a part of the stack
--     Pushed          a list of links appended one by one
pub mod ScratchFields
pub mod Appended
pub mod Halves
pub mod Pushed
