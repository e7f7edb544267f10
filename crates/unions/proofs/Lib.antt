-- Laws that the functions' proofs share, here and in `free_variables`. Each file stands on those above it.
--     Puts         one term's free set written, the others as they were
--     ByKind       the free set that a term's record asks for, by its kind; from the sets below t to those below t + 1
--     Unions       unions of the free sets of lists, each made once
pub mod Puts
pub mod ByKind
pub mod Unions
