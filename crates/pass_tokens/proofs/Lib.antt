-- Laws. Each file stands on those above it.
--     BlankLaws   white space, comments and brackets
--     RunLaws     runs of symbol characters
--     DigitLaws   digits, one by one
--     WordLaws    the answers: words and names
--     PlaceLaws   the answers: heads and variables
pub mod BlankLaws
pub mod RunLaws
pub mod DigitLaws
pub mod WordLaws
pub mod PlaceLaws
