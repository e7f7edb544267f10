-- Laws that the functions' proofs share, here and in the crates above. Each file stands on those above it.
--     Tab          `tab` and the total lookup `at`
--     Limits       the test of the counts says that each is within its limit
--     Fields       the fields of records are the words where they stand; the counts are the lengths of the sections
--     Parts        records read in a part of a file
--     Chains       lists of links
--     BundleWalks  what a walk over links knows
--     RecordWords  records as their fields
--     Ended        the end of a walk over items
--     Walks        the same by the lengths of a bundle's own lists
--     NumberLists  lists of records' numbers, along a walk
--     LinkNotes    what is noted at links, along a walk that notes them
--     ListPlaces   first, second and last items of a list, and lists of one item or two
--     Filed        numbers filed by their digests, and the walk down the chain of a digest
pub mod Tab
pub mod Limits
pub mod Fields
pub mod Parts
pub mod Chains
pub mod BundleWalks
pub mod RecordWords
pub mod Ended
pub mod Walks
pub mod NumberLists
pub mod LinkNotes
pub mod ListPlaces
pub mod Filed
