-- What the contracts of this crate say of premises.
--     Counted   a walk that has read some links and goes on
--     Taken     the steps that a step may refer to
pub mod Counted
pub mod Taken
