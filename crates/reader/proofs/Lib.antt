-- Laws that the functions' proofs share. Each file stands on those above it.
--     DeclarationTests   the checks of the declarations, as the code makes them
--     TextTests          what refuses a text, as the code finds it
--     Answering          the answer to a text, as the code comes to it
--     Passed             the answer to a text that was read in one pass
--     ReadSizes          how large the number and the record or byte of a refusal can be
pub mod DeclarationTests
pub mod TextTests
pub mod Answering
pub mod Passed
pub mod ReadSizes
