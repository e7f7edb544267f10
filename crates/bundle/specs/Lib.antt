-- The format (document 01, 'The file'). Each file stands on those above it.
--     Words      the words of a file of bytes
--     Bundle     the records, the bundle as six lists of them with the two claim words, and the record of a number
--     Links      the list that starts at a link
--     Limits     the limits of the counts, the places of the sections, the length that the counts give
--     File       THE TIE: the bundle that a file stands for
--     Parts      the file from each section on
--     RecordWords  a term and a step as the code holds them
--     Lists      tests on lists of numbers, and items by their place
--     LinkNotes  what is noted at the links of lists
--     Filed      numbers filed by digests
pub mod Words
pub mod Bundle
pub mod Links
pub mod Limits
pub mod File
pub mod Parts
pub mod RecordWords
pub mod Lists
pub mod LinkNotes
pub mod Filed
