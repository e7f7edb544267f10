-- The links that the test of a CONG step reads, as a number for other languages.
--     Links   the number, and what it says: proofs/ has it under the same name
pub mod Links
