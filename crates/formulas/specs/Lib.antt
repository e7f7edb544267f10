-- What the contracts cite. Each file stands on those above it.
--     Pending     how many terms wait at once; more than the limit of links never fit
--     ReadGives   what the functions that read a formula ask and give
pub mod Pending
pub mod ReadGives
