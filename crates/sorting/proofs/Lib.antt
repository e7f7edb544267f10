-- Laws that the functions' proofs share. Each file stands on those above it.
--     SortOf      the sort of a term, by its kind
--     SortsNoted  the sorts of terms, noted from the first up
--     SortLists   lists of sorts, compared along a walk over the links of a list of terms
pub mod SortOf
pub mod SortsNoted
pub mod SortLists
