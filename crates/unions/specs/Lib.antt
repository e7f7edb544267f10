-- What the contracts cite.
--     Put        what the functions that write one term's free set leave
--     Unions     unions of the free sets of lists, each made once
pub mod Put
pub mod Unions
