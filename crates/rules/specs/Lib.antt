-- What the contracts of this crate say of the code's steps.
--     WalkLists      the lists that the walk of CONG and LET takes
--     WordSides      a side of BIND, for the variables of one word of a set
pub mod WalkLists
pub mod WordSides
