-- Laws and theorems. Each file stands on those above it.
--     BracketLaws   brackets of a spelling, counted
--     SortsOff      the sort of a formula, read off its spelling
--     NodesOff      THE THEOREM: every node's test, read off a spelling
--     TextLaws      what follows two lexemes, what follows a formula
--     SortLaws      what a name names, the sort of the formula at the front
pub mod BracketLaws
pub mod SortsOff
pub mod NodesOff
pub mod TextLaws
pub mod SortLaws
