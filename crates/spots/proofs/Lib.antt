-- Laws that the functions' proofs share. Each file stands on those above it.
--     SpotLaws      the table does what the grammar does
--     ByteLaws      the verdict byte by byte
--     Resolutions   the verdict is that of 19 and 20 together
--     RunLaws       blanks and runs by their lengths
--     WordLaws      one word
--     LexemeLaws    the verdict lexeme by lexeme
--     TableFacts    what the table keeps, by computation
--     TraceLaws     where a scan can stand
--     Windows       what the area holds of the open brackets
--     GuessLaws     the second scan
--     PopLaws       a closing bracket
--     ScanLaws      one lexeme of the scan, and its loop
pub mod SpotLaws
pub mod ByteLaws
pub mod Resolutions
pub mod RunLaws
pub mod WordLaws
pub mod LexemeLaws
pub mod TableFacts
pub mod TraceLaws
pub mod Windows
pub mod GuessLaws
pub mod PopLaws
pub mod ScanLaws
