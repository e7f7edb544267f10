-- Laws. Each file stands on those above it.
--     PairSorts      a list compared with the lower halves of pairs
--     PairsPut       from a placement, and its pair on the stack, to what is promised of both
pub mod PairSorts
pub mod PairsPut
