-- Laws that the functions' proofs share. Each file stands on those above it.
--     ContextRows    the table of images and the sets of moved variables
--     ReadingRight   THE LAW OF READINGS: where the memory is right, its reading is the bundle's own
pub mod ContextRows
pub mod ReadingRight
