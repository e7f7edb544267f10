-- Theorems.
--     Demand     DEMAND 3 WHOLE
--     Exported   what the numbers say that the exported calls answer
pub mod Demand
pub mod Exported
