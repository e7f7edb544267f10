-- What the contracts cite. Each file stands on that above it.
--     PassGives   what the functions that read a formula in one pass ask and give
--     Passes      the same of a pass before a call and after it
pub mod PassGives
pub mod Passes
