-- Laws and theorems. Each file stands on those above it.
--     Order        the nested first faults are the first failing check of the one ordered list
--     Accepting    nothing is wrong exactly with an acceptable file
--     Areas        the lent area: its length, the free sets in it
--     Demands      THE DEMANDS
--     Sizes        how large the number and the record of an answer can be
pub mod Order
pub mod Accepting
pub mod Areas
pub mod Demands
pub mod Sizes
