-- Laws that the functions' proofs share. Each file stands on those above it.
--     Copied       words copied from a file
--     Encoded      words stored as bytes
--     JobCopied    a job copied into the scratch
--     FileStored   the file stored from the scratch
pub mod Copied
pub mod Encoded
pub mod JobCopied
pub mod FileStored
