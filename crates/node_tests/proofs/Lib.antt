-- Laws. Each file stands on those above it.
--     PartLaws       the parts of a bracket, as loops go over them
--     ArgumentLaws   arguments against a list of sorts; symbols by their number
--     HeadLaws       connectives, quantifiers and lets
--     NodeLaws       nodes by their heads, every node, the whole text
pub mod PartLaws
pub mod ArgumentLaws
pub mod HeadLaws
pub mod NodeLaws
