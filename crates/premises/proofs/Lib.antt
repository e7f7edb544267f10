-- Laws that the functions' proofs share. Each file stands on those above it.
--     BedSteps   earlier steps, of the file or of the bed
--     Premises   the premises of CONG and LET, along a walk over the links of three lists
pub mod BedSteps
pub mod Premises
