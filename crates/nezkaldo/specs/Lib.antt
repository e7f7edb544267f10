-- The library for other languages.
--     Packed     answers as one number
--     Demand     DEMAND 3 WHOLE, over the contracts of the two public calls: proofs/ has it under the same name
--     Exported   what the numbers say that the four exported calls answer, and demand 3 over them: proofs/ has each under the same name
pub mod Packed
pub mod Demand
pub mod Exported
