-- What the contracts cite.
--     Places   LINES AND COLUMNS of a text's bytes
--     Shown    HOW A LINE IS SHOWN, and what stands under it
pub mod Places
pub mod Shown
