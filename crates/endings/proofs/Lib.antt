-- Laws. Each file stands on those above it.
--     EndingLaws    from the outcome of a placement to that of the formula
pub mod EndingLaws
