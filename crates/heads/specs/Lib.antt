-- What the contracts cite. Each file stands on those above it.
--     HeadSymbols   the variable and the symbol that a word stands for
--     Places        what stands at the start of a text that spells a formula
pub mod HeadSymbols
pub mod Places
