-- What the contracts of this crate, and of those above it, say of what is known of contexts and of lent memory.
--     ContextRows   mentioned and moved variables of contexts, in local arrays
--     LentReading   what lent memory holds, whatever that is
pub mod ContextRows
pub mod LentReading
