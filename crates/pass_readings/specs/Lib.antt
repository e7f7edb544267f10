-- What the contracts of `pass_formulas` stand on. Each file stands on those above it.
--     Spelled     what lexemes spell, up to a rest
--     Readings    what lexemes are read as: the term and the sort of what they spell
pub mod Spelled
pub mod Readings
