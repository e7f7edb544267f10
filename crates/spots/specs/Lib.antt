-- The scan of a text: 19 and 20, by one loop over lexemes. Each file stands on those above it.
--     Spots       what may follow where: twenty spots and a table; what each spot wants of the grammar
--     Runs        blanks and runs of symbol characters, by their lengths
--     Judgement   the verdict on a text, from any state of the parser on; one word
--     Traces      where a scan stands after each lexeme
--     Levels      what the lent area holds of the spots for open brackets
--     Guesses     the second scan, which finds again what the area does not hold
--     Turns       one lexeme of the scan, in the lent area
pub mod Spots
pub mod Runs
pub mod Judgement
pub mod Traces
pub mod Levels
pub mod Guesses
pub mod Turns
