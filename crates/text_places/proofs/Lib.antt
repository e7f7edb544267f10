-- What the functions' proofs share.
--     PlaceLaws   what the loops know of lines and columns, byte by byte
--     ShownLaws   what is shown, byte by byte; THE LAW: where each byte is a character, the mark stands right under its byte
pub mod PlaceLaws
pub mod ShownLaws
